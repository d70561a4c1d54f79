-- A move taken back is a step, whose spare time is put, or the move out.
use Prim.Native.Nat.{◌-◌}
use native.Mathlib.Omega.{arith}
use Rattle.planner_spare.proofs.Back.{back_start, back_end, turn_some, turn_out, turn_step}
use Rattle.planner_spare.proofs.spare_times.Goals as goal

pub loop-k-init : goal.loop-k-init
loop-k-init c = back_start _ _ _ _ _ _ _ _ _ c.requires c.out_positions-at.ensures

pub overflow_sub-at : goal.overflow_sub-at
overflow_sub-at c =
    rw c.from-c.ensures
    (omega (arith, turn_some _ _ _ _ _ _ _ _ c.requires (c.loop-k.k - 1) c.loop-k.k (omega (arith, c.loop-k-test.true)) _ _ c.loop-k.invariant))

pub loop-k-preserved-then-j-steps : goal.loop-k-preserved-then-j-steps
loop-k-preserved-then-j-steps c =
    rw c.from-c.ensures
    (turn_step _ _ _ _ _ _ _ _ c.requires (c.loop-k.k - 1) c.loop-k.k (omega (arith, c.loop-k-test.true)) _ _ c.loop-k.invariant
    (rw (c.steps.ensures, c.from-j.ensures, c.from-c.ensures) at c.if-j-steps.true) _
    (rw (c.from-j.ensures, c.from-c.ensures) at c.put_spare.ensures))

pub loop-k-preserved : goal.loop-k-preserved
loop-k-preserved c =
    rw c.from-c.ensures
    (turn_out _ _ _ _ _ _ _ _ c.requires (c.loop-k.k - 1) c.loop-k.k (omega (arith, c.loop-k-test.true)) _ _ c.loop-k.invariant
    (rw (c.steps.ensures, c.from-j.ensures, c.from-c.ensures) at c.if-j-steps.false))

pub returns : goal.returns
returns c = back_end _ _ _ _ _ _ _ _ _ _ (omega arith) c.loop-k.invariant
