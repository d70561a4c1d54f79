-- The loop takes the moves back one by one, and keeps that the table holds the values worked back so far.
use Rattle.planner_spare.proofs.Back.{BackTo}
use Rattle.planner_spare.proofs.spare_times.Given as goal

abbrev pub invariant-loop-k : goal.invariant-loop-k
invariant-loop-k l = BackTo l.facts.sheet.now l.facts.rears.now l.facts.behind.now l.facts.visit.now l.facts.enter.now l.order l.facts.finish l.k l.at l.spare
