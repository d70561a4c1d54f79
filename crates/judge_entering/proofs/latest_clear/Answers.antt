use Prim.Native.Nat.{◌+◌, ◌*◌}
use mathlib.Core.Path.{refl, sym, ◌∙◌}
use native.Mathlib.Omega.{arith}
use Rattle.judge_entering.proofs.Latest.{latest_none, latest_turn}
use Rattle.judge_entering.proofs.latest_clear.Goals as goal

pub loop-others-init : goal.loop-others-init
loop-others-init c = refl

pub overflow_mul-z : goal.overflow_mul-z
overflow_mul-z c = omega (arith, c.requires.0, c.lowest-d.ensures.0)

pub overflow_add-z : goal.overflow_add-z
overflow_add-z c = omega (arith, c.requires.0, c.lowest-d.ensures.0)

pub offset_bounds-leave-z : goal.offset_bounds-leave-z
offset_bounds-leave-z c = omega (arith, c.requires.0, c.lowest-d.ensures.0)

pub bounds-leave-z : goal.bounds-leave-z
bounds-leave-z c = omega (arith, c.requires.0, c.lowest-d.ensures.0)

pub overflow_add-leave : goal.overflow_add-leave
overflow_add-leave c = omega (arith, c.requires.1, c.requires.2 (16 * c.args.z + c.lowest-d.result))

pub loop-others-smaller : goal.loop-others-smaller
loop-others-smaller c = c.rest-others.ensures.smaller

pub loop-others-preserved : goal.loop-others-preserved
loop-others-preserved c = c.loop-others.invariant ∙ rw c.max-time.ensures
    (latest_turn _ _ _ _ _ c.lowest-d.ensures.0 c.lowest-d.ensures.1 c.rest-others.ensures)

pub returns : goal.returns
returns c = sym (c.loop-others.invariant ∙ latest_none _ _ _ c.loop-others-test.false)
