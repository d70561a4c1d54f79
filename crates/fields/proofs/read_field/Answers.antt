use Prim.Native.Nat.{◌+◌}
use mathlib.Core.Path.{◌≡◌, refl, ap, ◌∙◌}
use native.Mathlib.Omega.{arith}
use Rattle.fields.specs.Field.{value}
use Rattle.fields.proofs.FieldLaws.{field_cut, field_there, value_more, below_more, below_24}
use Rattle.fields.proofs.read_field.Goals as goal

pub returns-then-s-at : goal.returns-then-s-at
returns-then-s-at c = field_cut _ _ _ (omega arith)

pub returns-then-s-at-2 : goal.returns-then-s-at-2
returns-then-s-at-2 c = field_cut _ _ _ (omega arith)

pub loop-k-init : goal.loop-k-init
unfolding value
loop-k-init c = (refl, omega arith)

pub overflow_mul-v : goal.overflow_mul-v
overflow_mul-v c = omega (arith, below_24 _ _ c.loop-k.invariant.1 (omega arith))

pub overflow_cast-v : goal.overflow_cast-v
overflow_cast-v c = omega (arith, c.type_inv.s (c.args.c.at + c.loop-k.k))

pub overflow_add-v-in-loop-k : goal.overflow_add-v-in-loop-k
overflow_add-v-in-loop-k c = omega (
  arith,
  below_24 _ _ c.loop-k.invariant.1 (omega arith),
  c.type_inv.s
      (c.args.c.at + c.loop-k.k),
)

pub loop-k-preserved : goal.loop-k-preserved
loop-k-preserved c = (
  value_more _ _ _ _ c.loop-k.invariant.0,
  below_more _ _ _ c.loop-k.invariant.1
      (omega (arith, c.type_inv.s (c.args.c.at + c.loop-k.k))),
)

pub returns : goal.returns
returns c = let e : c.loop-k.k ≡ c.args.width = omega arith in field_there _ _ _ (omega arith) _
    (c.loop-k.invariant.0 ∙ ap (value _ _) e)
