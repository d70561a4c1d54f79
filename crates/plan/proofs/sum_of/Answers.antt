use Prim.Native.Nat.{ℕ, ◌<◌}
use mathlib.Core.Path.{◌≡◌, refl, ap, ◌∙◌}
use native.Mathlib.Omega.{arith}
use native.Mathlib.Numerals.{add-one}
use lib.ListN.{get_or}
use lib.Seq.{get_or-take, length-take-le}
use Rattle.plan.specs.Valid.{sum_below}
use Rattle.plan.proofs.sum_of.Goals as goal

pub loop-byte-init : goal.loop-byte-init
unfolding sum_below
loop-byte-init c = (refl, omega arith)

pub loop-byte-preserved : goal.loop-byte-preserved
unfolding sum_below
loop-byte-preserved c =
    let below : c.loop-byte.byte-index < c.args.n = omega (arith, length-take-le _ _ c.requires.1) in
    let byte = c.from-sum.ensures ∙ get_or-take c.args.n c.args.bytes.now c.loop-byte.byte-index 0 below in (
      rw (add-one c.loop-byte.byte-index) (omega (arith, c.loop-byte.invariant.0, byte)),
      omega (arith, c.loop-byte.invariant.1, byte, c.type_inv.bytes c.loop-byte.byte-index),
    )

pub returns : goal.returns
returns c =
    let all : c.loop-byte.byte-index ≡ c.args.n = omega (arith, length-take-le _ _ c.requires.1) in (
      c.loop-byte.invariant.0 ∙ ap (λ (m : ℕ). sum_below m (λ k. get_or c.args.bytes.now k 0)) all,
      omega (arith, all, c.loop-byte.invariant.1),
    )
