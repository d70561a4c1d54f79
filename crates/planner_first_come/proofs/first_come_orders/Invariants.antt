-- Cart by cart the steps are put.
use Rattle.planner_first_come.specs.inner.Putting.{PutTo}
use Rattle.planner_first_come.proofs.first_come_orders.Given as goal

abbrev pub invariant-loop-c : goal.invariant-loop-c
invariant-loop-c l = PutTo l.sheet l.visitors l.ranked l.c 0 l.ahead
