-- The loop keeps the choice among what is seen: the steps below, and of this step the carts that are not left.
use Rattle.planner_costs.specs.inner.Choices.{tables_in}
use Rattle.planner_costs.proofs.Scanning.{Scanned}
use Rattle.planner_costs.proofs.largest_at.Given as goal

abbrev pub invariant-loop-others : goal.invariant-loop-others
invariant-loop-others l = Scanned (tables_in l.facts) l.x l.others l.most

abbrev pub decreases-loop-others : goal.decreases-loop-others
decreases-loop-others l = l.others
