-- The three tables are joined place by place.
use Rattle.planner_groups.proofs.Opening.{JoinedTo}
use Rattle.planner_groups.proofs.open_group.Given as goal

abbrev pub invariant-loop-x : goal.invariant-loop-x
invariant-loop-x l = JoinedTo l.above l.within l.pairs l.x l.initial.present.ahead
    l.present.ahead × JoinedTo l.within l.above l.pairs l.x l.initial.present.behind l.present.behind × JoinedTo l.within l.within l.pairs l.x l.initial.present.undecided l.present.undecided
