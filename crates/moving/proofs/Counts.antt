-- The moves of a sheet's plan are as many as its route steps plus its carts.
use Prim.Native.Nat.{ℕ, ◌+◌, ◌≤◌, ◌<◌}
use mathlib.Core.Path.{◌≡◌, sym, ap, ◌∙◌}
use mathlib.Core.List.{[], map}
use native.Mathlib.Decide.{dec_lt}
use native.Mathlib.Omega.{arith}
use lib.ListN.{length, get_or, length-map, get_or-map, get_or-eq_default}
use lib.Seq.{ext_get_or}
use Rattle.moves.specs.System.{sum}
use Rattle.routes.specs.Crossing.{Crossing, steps}
use Rattle.routes.specs.inner.Crossing.{present_carts}
use Rattle.routes.proofs.Counts.{out_sum, present_are}
use Rattle.sheet.specs.Valid.{Valid}
use Rattle.sheet.specs.declared.Sheet.{Sheet}
use Rattle.plan.specs.declared.Orders.{Orders}
use Rattle.crossing.specs.inner.Tables.{sheet_fronts, crossing_by}
use Rattle.crossing.specs.Plans.{plan_crossing}
use Rattle.crossing.proofs.Tables.{routes_16, steps_is}
use Rattle.judge.specs.Judging.{plan_system}

module _ (sheet : Sheet) (orders : Orders) (v : Valid sheet) where
  abbrev P : Crossing
  P = plan_crossing sheet orders

  sixteen : length P.routes ≡ 16
  unfolding crossing_by
  sixteen = routes_16 sheet.steps sheet.zone (sheet_fronts sheet) orders.ahead

  steps_are : (c : ℕ) → c < 16 → steps P c ≡ get_or sheet.steps c 0
  unfolding crossing_by
  steps_are = steps_is sheet.steps sheet.zone (sheet_fronts sheet) orders.ahead

  counts_are : map length P.routes ≡ sheet.steps
  counts_are =
      ext_get_or 0 (map length P.routes) sheet.steps (long ∙ sym v.shaped.steps_16) λ c l.
      get_or-map length P.routes c [] ∙ steps_are c (omega (arith, l, long))
    where
      long : length (map length P.routes) ≡ 16
      long = length-map P.routes length ∙ sixteen

  present : present_carts P ≡ sheet.carts
  present = present_are P sheet.carts (omega (arith, sixteen, v.carts_most)) (λ c l. has c l) (λ c past. none c past (dec_lt c 16))
    where
      has : (c : ℕ) → c < sheet.carts → 0 < steps P c
      has c l = omega (arith, steps_are c (omega (arith, v.carts_most)), (v.cart c l).steps_least)

      none : (c : ℕ) → sheet.carts ≤ c → Dec (c < 16) → steps P c ≡ 0
      none c past (yes l) = steps_are c l ∙ v.unused.no_steps c past
      none c past (no n) = ap length (get_or-eq_default P.routes [] {n = c} (omega (arith, n, sixteen)))

  pub moves_are : sum (plan_system sheet orders).out ≡ sum sheet.steps + sheet.carts
  moves_are = out_sum P ∙ ap (λ (n : ℕ). n + present_carts P) (ap sum counts_are) ∙ ap (λ (n : ℕ). sum sheet.steps + n) present
