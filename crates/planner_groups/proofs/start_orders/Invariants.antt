-- The places passed have their visitors, parted by lane and by number.
use mathlib.Core.Path.{◌≡◌}
use lib.ListN.{replicate}
use Rattle.planner_groups.proofs.Starting.{StartedTo}
use Rattle.planner_groups.proofs.start_orders.Given as goal

abbrev pub invariant-loop-x : goal.invariant-loop-x
invariant-loop-x l = StartedTo l.sheet l.visitors l.x l.present.ahead l.present.behind l.pairs × (l.present.undecided ≡ replicate 128 0)
