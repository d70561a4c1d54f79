-- Step by step the visitors of the cart's zones, but for those that do not come before it.
use Rattle.planner_first_come.specs.inner.Putting.{PutTo}
use Rattle.planner_first_come.proofs.put_cart.Given as goal

abbrev pub invariant-loop-j : goal.invariant-loop-j
invariant-loop-j l = PutTo l.sheet l.visitors l.ranks l.c l.j l.ahead
