-- The loop keeps the choice among the candidates of the steps below.
use Rattle.planner_costs.specs.inner.Choices.{tables_in, ChosenBelow}
use Rattle.planner_costs.proofs.largest_cost.Given as goal

abbrev pub invariant-loop-x : goal.invariant-loop-x
invariant-loop-x l = ChosenBelow (tables_in l.facts) l.x l.best
