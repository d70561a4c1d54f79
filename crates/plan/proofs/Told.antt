-- The plan's checks have numbers 15 to 21, and tell no cart.
use Prim.Native.Nat.{ℕ, ◌≤◌}
use mathlib.Core.Path.{◌≡◌, refl}
use mathlib.Core.Bool.{Bool}
use mathlib.Core.List.{List}
use native.Mathlib.Omega.{arith}
use Rattle.words.specs.Checks.{Check, check}
use Rattle.words.proofs.Keeps.{Keeps, one_keeps, ◌with◌, each_keeps}
use Rattle.fields.specs.Field.{outside}
use Rattle.fields.proofs.BytesLaws.{field_keeps}
use Rattle.sheet.specs.declared.Sheet.{Sheet}
use Rattle.plan.specs.Layout.{count_of}
use Rattle.plan.specs.Checks.{field, cart_checks, list_checks, lane_checks, plan_checks}

pub record OfPlan (c : Check) : Type 0 where
  pub numbered : (15 ≤ c.number) × (c.number ≤ 21)
  pub nowhere : (c.cart ≡ 0) × (c.step ≡ 0)

module _ (sheet : Sheet) (p : List ℕ) where
  check_tells : (number place : ℕ) (b : Bool) → (15 ≤ number) × (number ≤ 21) → OfPlan (check number place b)
  check_tells number place b n = record { numbered = n; nowhere = (refl, refl) }

  field_tells : (at w number : ℕ) (passes : ℕ → Bool) → (15 ≤ number) × (number ≤ 21) → Keeps OfPlan (field p at w number passes)
  field_tells at w number passes n =
      field_keeps 15 p (outside at) w number passes (λ b. check_tells 15 at b (omega arith, omega arith)) (λ b. check_tells number at b n)

  list_tells : (z : ℕ) → Keeps OfPlan (list_checks sheet p z)
  unfolding list_checks cart_checks
  list_tells z =
      field_tells _ 1 19 _ (omega arith, omega arith) with each_keeps (count_of p z) (λ k _. field_tells _ 1 19 _ (omega arith, omega arith))

  lane_tells : (z : ℕ) → Keeps OfPlan (lane_checks sheet p z)
  unfolding lane_checks
  lane_tells z = each_keeps (count_of p z) (λ k _. one_keeps (check_tells 21 _ _ (omega arith, omega arith)))

  pub plan_tells : Keeps OfPlan (plan_checks sheet p)
  unfolding plan_checks
  plan_tells =
      field_tells _ 1 16 _ (omega arith, omega arith)
      with field_tells _ 2 17 _ (omega arith, omega arith)
      with field_tells _ 1 18 _ (omega arith, omega arith)
      with each_keeps sheet.zones (λ z _. list_tells z)
      with one_keeps (check_tells 20 _ _ (omega arith, omega arith))
      with each_keeps sheet.zones (λ z _. lane_tells z)
