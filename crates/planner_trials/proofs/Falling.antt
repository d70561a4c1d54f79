-- With one more order decided fewer pairs are undecided: each set of the table is within what it was, and one is less.
use Prim.Native.Nat.{ℕ, zero, suc, ◌+◌, ◌*◌, ◌/◌, ◌%◌, ◌≤◌, ◌<◌}
use mathlib.Core.Path.{◌≡◌, refl, sym, ap, subst, ◌∙◌}
use mathlib.Core.Bool.{true, false, true≢false, not, ◌&&◌, ◌||◌, and-false}
use mathlib.Core.List.{List, [], ◌∷◌}
use native.Mathlib.Decide.{dec_lt}
use native.Mathlib.Nat.{mod-lt, div-add-mod}
use native.Mathlib.Omega.{arith}
use lib.ListN.{length, get_or}
use lib.Bits.{bit_and, and_le_r}
use borrow.Author.Tests.{eqb-true, eq-eqb}
use Rattle.words.proofs.Tests.{and_both}
use Rattle.sets.specs.inner.Member.{has, Within}
use Rattle.sets.proofs.Laws.{within_and}
use Rattle.moves.specs.System.{pos, sum}
use Rattle.moves.specs.inner.System.{◌≼◌}
use Rattle.moves.proofs.Positions.{≼-sum}
use Rattle.routes.specs.Crossing.{steps}
use Rattle.removal.specs.Pairs.{Unplanned, Order}
use Rattle.removal.specs.Present.{is_undecided}
use Rattle.removal.proofs.Pairs.{pair_says}
use Rattle.removal.proofs.Candidates.{undecided_says}
use Rattle.removal.proofs.Turns as turns
use Rattle.planner_orders.specs.inner.Unplanned.{unordered}
use Rattle.planner_orders.specs.inner.Holds.{Holds}
use Rattle.planner_orders.proofs.Added.{is_order, undecided_added}

sum_falls : (s t : List ℕ) → length s ≡ length t → s ≼ t → (k : ℕ) → pos s k < pos t k → sum s < sum t
sum_falls [] [] e most k less = absurd (omega arith)
sum_falls [] (y ∷ t) e most k less = absurd (omega arith)
sum_falls (x ∷ s) [] e most k less = absurd (omega arith)
sum_falls (x ∷ s) (y ∷ t) e most zero less = omega (arith, less, ≼-sum s t (omega arith) (λ c. most (suc c)))
sum_falls (x ∷ s) (y ∷ t) e most (suc k) less = omega (arith, most 0, sum_falls s t (omega arith) (λ c. most (suc c)) k less)

within_most : (x y : ℕ) → Within x y → x ≤ y
within_most x y inside = omega (arith, eqb-true (bit_and x y) x ((within_and x y).1 inside), and_le_r x y)

module _ (U : Unplanned) (low high : ℕ) (decided next : List Order) (ahead behind undecided ahead' behind' undecided' : List ℕ)
    (old : Holds U low high decided ahead behind undecided) (new : Holds U low high next ahead' behind' undecided')
    (one : turns.Decides U low high decided next) where
  abbrev p : Order
  p = one.order

  now_undecided : (z d c : ℕ) → is_undecided U low high next z d c ≡ (is_undecided U low high decided z d c && not (is_order p z d c || is_order p z c d))
  now_undecided z d c = ap (λ (all : List Order). is_undecided U low high all z d c) one.adds ∙ undecided_added U low high decided p z d c

  most : undecided' ≼ undecided
  most x = subst (λ (y : ℕ). get_or undecided' y 0 ≤ get_or undecided y 0) (div-add-mod x 8) (go (dec_lt (x % 8) (steps (unordered U) (x / 8))))
    where
      go : Dec (x % 8 < steps (unordered U) (x / 8)) → get_or undecided' (8 * (x / 8) + x % 8) 0 ≤ get_or undecided (8 * (x / 8) + x % 8) 0
      go (yes h) =
          within_most _ _ λ d is.
          (old.at_step (x / 8) (x % 8) h).undecided_is d
          ∙ (and_both _ _ (sym (now_undecided _ d (x / 8)) ∙ sym ((new.at_step (x / 8) (x % 8) h).undecided_is d) ∙ is)).0
      go (no n) = omega (arith, (new.unused (x / 8) (x % 8) (mod-lt x (omega arith)) (omega (arith, n))).2)

  pub undecided_falls : sum undecided' < sum undecided
  undecided_falls =
      let here = one.candidate.undecided in
      let ((_, (j, h, at)), _) = (pair_says U p.zone p.first p.second).0 here.is_in_lem.pair in
      let x = 8 * p.second + j in
      let was : has (get_or undecided x 0) p.first ≡ true =
      (old.at_step p.second j h).undecided_is p.first ∙ rw at ((undecided_says U low high decided p.zone p.first p.second).1 here) in
      let is : has (get_or undecided' x 0) p.first ≡ false =
      (new.at_step p.second j h).undecided_is p.first ∙ rw at (now_undecided p.zone p.first p.second ∙ gone) in
      sum_falls undecided' undecided (new.undecided_128 ∙ sym old.undecided_128) most x
      (less (get_or undecided' x 0) (get_or undecided x 0) (most x) (λ e. true≢false (sym was ∙ ap (λ (n : ℕ). has n p.first) (sym e) ∙ is)))
    where
      less : (a b : ℕ) → a ≤ b → (a ≡ b → ⊥) → a < b
      less a b h n = omega (arith, n)

      gone : (is_undecided U low high decided p.zone p.first p.second && not
          (is_order p p.zone p.first p.second || is_order p p.zone p.second p.first)) ≡ false
      gone = rw (eq-eqb p.zone p.zone refl, eq-eqb p.first p.first refl, eq-eqb p.second p.second refl)
          (and-false (is_undecided U low high decided p.zone p.first p.second))
