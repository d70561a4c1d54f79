-- After 16 carts nothing is left to pass but the last, which the lowest is not above.
use mathlib.Core.Path.{sym, ◌∙◌}
use native.Mathlib.Omega.{arith}
use Rattle.judge_ring.proofs.Following.{least_start, least_turn, least_end}
use Rattle.judge_ring.proofs.least_from.Goals as goal

pub loop-init : goal.loop-init
loop-init c = (least_start _ 16 _, omega arith, c.requires.0)

pub loop-preserved : goal.loop-preserved
loop-preserved c = (
  rw c.min-least.ensures (c.loop.invariant.0 ∙ least_turn _ 16 c.loop.counter _ _ c.loop-test.true c.loop.invariant.1),
  omega (arith, c.min-least.ensures),
  c.requires.1 c.loop.d,
)

pub returns : goal.returns
returns c = (
  sym (c.loop.invariant.0 ∙ least_end _ 16 c.loop.counter _ _ c.loop-test.false c.loop.invariant.1),
  omega (arith, c.loop.invariant.1, c.loop.invariant.2),
)
