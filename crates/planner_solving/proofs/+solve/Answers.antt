use native.Mathlib.Omega.{arith}
use Rattle.planner_solving.proofs.Solving.{trial_solves, two_ranks, lower_triable, upper_triable, halves_solve}
use Rattle.planner_solving.proofs.+solve.Goals as goal

pub returns-then-try_group : goal.returns-then-try_group
returns-then-try_group t c = trial_solves c.try_group.ensures c.if-try_group.true

pub solve-requires : goal.solve-requires
solve-requires t c = (
  omega (arith, c.decreases, two_ranks c.try_group.ensures c.if-try_group.false c.requires),
  lower_triable c.try_group.ensures c.if-try_group.false c.requires,
)

pub solve-requires-2 : goal.solve-requires-2
solve-requires-2 t c = (
  omega (arith, c.decreases, two_ranks c.try_group.ensures c.if-try_group.false c.requires),
  upper_triable c.try_group.ensures c.if-try_group.false c.requires c.solve.ensures,
)

pub returns : goal.returns
returns t c = halves_solve c.try_group.ensures c.if-try_group.false c.requires c.solve.ensures c.solve-2.ensures
