-- No cart stands past out: cart by cart, and over the system of moves.
use Prim.Native.Nat.{ℕ, zero, suc, ◌+◌, ◌≤◌, ◌<◌}
use mathlib.Core.Path.{◌≡◌, refl, sym, ap, ◌∙◌}
use mathlib.Core.Logic.{◌↔◌}
use mathlib.Core.List.{List, [], ◌∷◌}
use native.Mathlib.Decide.{dec_lt}
use native.Mathlib.Omega.{arith}
use lib.ListN.{length, get_or, get_or-eq_default}
use Rattle.moves.specs.System.{pos, sum}
use Rattle.moves.specs.inner.System.{InRange}
use Rattle.routes.specs.Moves.{moves_of, system}
use Rattle.routes.proofs.Moves.{out_are}
use Rattle.crossing.specs.inner.Tables.{crossing_by}
use Rattle.crossing.proofs.Tables.{carts_16, steps_is}
use Rattle.plan.specs.Valid.{sum_below}
use Rattle.moving_record.specs.inner.Tables.{NonePastOut}

module _ (steps at : List ℕ) where
  pub in_range_is : (zone front ahead : List ℕ) → length at ≡ 16 → NonePastOut steps at ↔ InRange (system (crossing_by steps zone front ahead)) at
  in_range_is zone front ahead sized = (
    λ all. record { sized = sized ∙ sym (carts_16 steps zone front ahead); within = λ c. below all c (dec_lt c 16) },
    λ r c l. omega (arith, r.within c, out c l),
  )
    where
      out : (c : ℕ) → c < 16 → pos (system (crossing_by steps zone front ahead)).out c ≡ moves_of (get_or steps c 0)
      out c l = out_are (crossing_by steps zone front ahead) c ∙ ap moves_of (steps_is steps zone front ahead c l)

      below : NonePastOut steps at → (c : ℕ) → Dec (c < 16) → pos at c ≤ pos (system (crossing_by steps zone front ahead)).out c
      below all c (yes l) = omega (arith, all c l, out c l)
      below all c (no n) = omega (arith, get_or-eq_default at 0 {n = c} (omega (arith, n)))

-- ---- the count

sum_first : (n : ℕ) (rule : ℕ → ℕ) → sum_below (suc n) rule ≡ rule 0 + sum_below n (λ k. rule (suc k))
unfolding sum_below
sum_first zero rule = refl
sum_first (suc n) rule = omega (arith, sum_first n rule)

sum_is : (list : List ℕ) → sum_below (length list) (λ k. get_or list k 0) ≡ sum list
unfolding sum_below
sum_is [] = refl
sum_is (x ∷ list) = sum_first (length list) (λ k. get_or (x ∷ list) k 0) ∙ ap (λ (n : ℕ). x + n) (sum_is list)

pub counted_is : (at : List ℕ) (n : ℕ) → length at ≡ 16 → n ≡ sum_below 16 (λ k. get_or at k 0) → n ≡ sum at
counted_is at n sized e = e ∙ ap (λ (k : ℕ). sum_below k (λ x. get_or at x 0)) (sym sized) ∙ sum_is at
