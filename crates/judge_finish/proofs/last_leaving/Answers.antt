-- Both ways are what the test of the step count picks.
use Prim.Native.Nat.{◌+◌, ◌*◌, ◌-◌}
use native.Mathlib.Omega.{arith}
use borrow.Author.Tests.{eq-eqb, ne_eqb}
use Rattle.judge_finish.proofs.last_leaving.Goals as goal

pub steps-k-requires : goal.steps-k-requires
steps-k-requires c = c.requires.1

pub returns-then-k-eq0 : goal.returns-then-k-eq0
returns-then-k-eq0 c = rw (eq-eqb _ _ (rw c.steps-k.ensures at c.if-k-eq0.true))

pub overflow_add-x : goal.overflow_add-x
overflow_add-x c = omega (arith, c.requires.0.steps_most _ c.requires.1, c.steps-k.ensures, c.if-k-eq0.false)

pub offset_bounds-enter-x : goal.offset_bounds-enter-x
offset_bounds-enter-x c = omega (arith, c.requires.0.steps_most _ c.requires.1, c.steps-k.ensures, c.if-k-eq0.false)

pub bounds-enter-x : goal.bounds-enter-x
bounds-enter-x c = omega (arith, c.requires.0.steps_most _ c.requires.1, c.steps-k.ensures, c.if-k-eq0.false)

pub passing-requires : goal.passing-requires
passing-requires c = omega (arith, c.requires.0.steps_most _ c.requires.1, c.steps-k.ensures, c.if-k-eq0.false)

pub overflow_add-result : goal.overflow_add-result
overflow_add-result c = omega (
  arith,
  c.passing.ensures,
  c.requires.0.passing_most (8 * c.args.c + (c.steps-k.result - 1)),
  c.requires.0.enter_most (8 * c.args.c + (c.steps-k.result - 1)),
)

pub returns : goal.returns
returns c = rw (c.passing.ensures, c.steps-k.ensures, ne_eqb _ _ (rw c.steps-k.ensures at c.if-k-eq0.false))
