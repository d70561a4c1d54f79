-- An order decided changes one set ahead, one behind and two of undecided pairs; turned round, two ahead and two behind.
use Prim.Native.Nat.{ℕ, ◌+◌, ◌*◌, ◌/◌, ◌≤◌, ◌<◌}
use mathlib.Core.Path.{◌≡◌, refl, sym, ap, ap₂, ◌∙◌}
use mathlib.Core.Bool.{Bool, true, false, not, ◌&&◌, ◌||◌, and-true, and-false, or_comm, or-false}
use mathlib.Core.List.{List}
use native.Mathlib.Omega.{arith}
use lib.ListN.{length, get_or, set, length-set}
use lib.Seq.{get_or-set_other}
use lib.Dec.{eqb}
use Rattle.words.proofs.Tables.{row_at}
use Rattle.sets.specs.inner.Member.{has, With, Without}
use Rattle.routes.specs.Crossing.{steps, zone}
use Rattle.removal.specs.Pairs.{Unplanned, Order, opposite}
use Rattle.removal.specs.Present.{goes_before, is_undecided}
use Rattle.planner_orders.specs.inner.Unplanned.{unordered, SheetSized}
use Rattle.planner_orders.specs.inner.Deciding.{StepAt, Candidate, Decides, TurnsRound}
use Rattle.planner_orders.proofs.Added.{is_order, and_swap, order_turned, undecided_turned, undecided_added, order_absent, order_added}
use Rattle.planner_orders.proofs.Cells.{cell_with, cell_without}

-- a step's place divided by 8 is its cart
cart_at : (U : Unplanned) → SheetSized U → (z c x : ℕ) → StepAt U z c x → x / 8 ≡ c
cart_at U sized z c x here = rw here.at (row_at c here.step (omega (arith, here.is_step, sized.ranged.steps_most c)))

-- what is stored for a step leaves what stands for none
unused_set : (U : Unplanned) → SheetSized U → (z i x : ℕ) → StepAt U z i x → (table : List ℕ) (v c j : ℕ) → j < 8 → steps (unordered U) c ≤ j
    → get_or (set table x v) (8 * c + j) 0 ≡ get_or table (8 * c + j) 0
unused_set U sized z i x here table v c j few past = get_or-set_other table x (8 * c + j) v 0 (λ e. none e)
  where
    none : 8 * c + j ≡ x → ⊥
    none e =
        let cart : i ≡ c = omega (arith, here.is_step, here.at, sized.ranged.steps_most i) in
        omega (arith, rw cart at here.is_step, here.is_step, here.at, sized.ranged.steps_most i)

-- a set that gains a cart and one that loses it, as the step's zone, cart and other cart tell
module _ (x y : ℕ) (U : Unplanned) (low high : ℕ) (decided : List Order) (o : Order) (candidate : Candidate U low high decided o x y) (sized : SheetSized U)
    (c j d : ℕ) (h : j < steps (unordered U) c) (table : List ℕ) (v : ℕ) (long : length table ≡ 128) where
  abbrev z : ℕ
  z = zone (unordered U) c j

  abbrev was : Bool
  was = has (get_or table (8 * c + j) 0) d

  first_is : y / 8 ≡ o.first
  first_is = cart_at U sized o.zone o.first y candidate.first

  second_is : x / 8 ≡ o.second
  second_is = cart_at U sized o.zone o.second x candidate.second

  -- at x, the second cart's step
  x_with : With (get_or table x 0) (y / 8) v → has (get_or (set table x v) (8 * c + j) 0) d ≡ (was || is_order o z d c)
  x_with new =
      cell_with U sized o.zone o.second x candidate.second c j h table v o.first d long (rw first_is at new)
      ∙ ap (λ (t : Bool). was || t) (and_swap (eqb o.zone z) (eqb o.second c) (eqb o.first d))

  x_without : Without (get_or table x 0) (y / 8) v → has (get_or (set table x v) (8 * c + j) 0) d ≡ (was && not (is_order o z d c))
  x_without new =
      cell_without U sized o.zone o.second x candidate.second c j h table v o.first d long (rw first_is at new)
      ∙ ap (λ (t : Bool). was && not t) (and_swap (eqb o.zone z) (eqb o.second c) (eqb o.first d))

  -- at y, the first cart's
  y_with : With (get_or table y 0) (x / 8) v → has (get_or (set table y v) (8 * c + j) 0) d ≡ (was || is_order o z c d)
  y_with new = cell_with U sized o.zone o.first y candidate.first c j h table v o.second d long (rw second_is at new)

  y_without : Without (get_or table y 0) (x / 8) v → has (get_or (set table y v) (8 * c + j) 0) d ≡ (was && not (is_order o z c d))
  y_without new = cell_without U sized o.zone o.first y candidate.first c j h table v o.second d long (rw second_is at new)

less_both : (p x y : Bool) → ((p && not x) && not y) ≡ (p && not (x || y))
less_both false x y = refl
less_both true true y = refl
less_both true false y = refl

-- the order taken out and its opposite put in
turned : (was x y : Bool) → (x ≡ true → was ≡ false) → (((was || x) && not x) || y) ≡ (was || y)
turned was true y h = rw (and-false (was || true), h refl)
turned was false y h = rw (or-false was, and-true was)

module _ (x y : ℕ) (ahead behind : List ℕ) (a b : ℕ) where
  module _ (undecided : List ℕ) (u w : ℕ) (a-is : With (get_or ahead x 0) (y / 8) a) (b-is : With (get_or behind y 0) (x / 8) b)
      (u-is : Without (get_or undecided x 0) (y / 8) u) (w_is : Without (get_or (set undecided x u) y 0) (x / 8) w) where
    pub decides : Decides x y ahead behind undecided (set ahead x a) (set behind y b) (set (set undecided x u) y w)
    decides = record {
      holds = λ U low high decided o candidate old.
          let p = old.sheet_sized in
          let u_128 : length (set undecided x u) ≡ 128 = length-set undecided x u ∙ old.undecided_128 in
          record {
            sheet_sized = p;
            ahead_128 = length-set ahead x a ∙ old.ahead_128;
            behind_128 = length-set behind y b ∙ old.behind_128;
            undecided_128 = length-set (set undecided x u) y w ∙ u_128;
            at_step = λ c j h.
                let is = old.at_step c j h in
                let z = zone (unordered U) c j in
                record {
                  ahead_is = λ d.
                      x_with x y U low high decided o candidate p c j d h ahead a old.ahead_128 a-is
                      ∙ ap (λ (t : Bool). t || is_order o z d c) (is.ahead_is d)
                      ∙ sym (order_added U low high decided o candidate.undecided z d c);
                  behind_is = λ d.
                      y_with x y U low high decided o candidate p c j d h behind b old.behind_128 b-is
                      ∙ ap (λ (t : Bool). t || is_order o z c d) (is.behind_is d)
                      ∙ sym (order_added U low high decided o candidate.undecided z c d);
                  undecided_is = λ d.
                      y_without x y U low high decided o candidate p c j d h (set undecided x u) w u_128 w_is
                      ∙ ap (λ (t : Bool). t && not (is_order o z c d)) (x_without x y U low high decided o candidate p c j d h undecided u
                      old.undecided_128 u-is)
                      ∙ less_both (has (get_or undecided (8 * c + j) 0) d) (is_order o z d c) (is_order o z c d)
                      ∙ ap (λ (t : Bool). t && not (is_order o z d c || is_order o z c d)) (is.undecided_is d)
                      ∙ sym (undecided_added U low high decided o z d c);
                };
            unused = λ c j few past.
                let (no_ahead, no-behind, no-undecided) = old.unused c j few past in (
                  unused_set U p o.zone o.second x candidate.second ahead a c j few past ∙ no_ahead,
                  unused_set U p o.zone o.first y candidate.first behind b c j few past ∙ no-behind,
                  unused_set U p o.zone o.first y candidate.first (set undecided x u) w c j few past
                      ∙ unused_set U p o.zone o.second x candidate.second undecided u c j few past
                      ∙ no-undecided,
                );
          };
    }

  module _ (a' b' : ℕ) (a-is : Without (get_or ahead x 0) (y / 8) a) (a-also : With (get_or (set ahead x a) y 0) (x / 8) a')
      (b-is : Without (get_or behind y 0) (x / 8) b) (b-also : With (get_or (set behind y b) x 0) (y / 8) b') where
    pub turns_round : TurnsRound x y ahead behind (set (set ahead x a) y a') (set (set behind y b) x b')
    turns_round = record {
      holds = λ U low high decided o undecided candidate old.
          let p = old.sheet_sized in
          let a_128 : length (set ahead x a) ≡ 128 = length-set ahead x a ∙ old.ahead_128 in
          let b_128 : length (set behind y b) ≡ 128 = length-set behind y b ∙ old.behind_128 in
          let was = candidate.undecided in
          let other = sym (undecided_turned U low high decided o.zone o.first o.second) ∙ was in
          record {
            sheet_sized = p;
            ahead_128 = length-set (set ahead x a) y a' ∙ a_128;
            behind_128 = length-set (set behind y b) x b' ∙ b_128;
            undecided_128 = old.undecided_128;
            at_step = λ c j h.
                let is = old.at_step c j h in
                let z = zone (unordered U) c j in
                record {
                  ahead_is = λ d.
                      y_with x y U low high decided o candidate p c j d h (set ahead x a) a' a_128 a-also
                      ∙ ap (λ (t : Bool). t || is_order o z c d)
                      (x_without x y U low high decided o candidate p c j d h ahead a old.ahead_128 a-is
                      ∙ ap (λ (t : Bool). t && not (is_order o z d c)) (is.ahead_is d ∙ order_added U low high decided o was z d c))
                      ∙ turned (goes_before U low high decided z d c) (is_order o z d c) (is_order o z c d) (order_absent U low high decided o was z d c)
                      ∙ ap (λ (t : Bool). goes_before U low high decided z d c || t) (sym (order_turned o z d c))
                      ∙ sym (order_added U low high decided (opposite o) other z d c);
                  behind_is = λ d.
                      x_with x y U low high decided o candidate p c j d h (set behind y b) b' b_128 b-also
                      ∙ ap (λ (t : Bool). t || is_order o z d c)
                      (y_without x y U low high decided o candidate p c j d h behind b old.behind_128 b-is
                      ∙ ap (λ (t : Bool). t && not (is_order o z c d)) (is.behind_is d ∙ order_added U low high decided o was z c d))
                      ∙ turned (goes_before U low high decided z c d) (is_order o z c d) (is_order o z d c) (order_absent U low high decided o was z c d)
                      ∙ ap (λ (t : Bool). goes_before U low high decided z c d || t) (sym (order_turned o z c d))
                      ∙ sym (order_added U low high decided (opposite o) other z c d);
                  undecided_is = λ d.
                      is.undecided_is d
                      ∙ undecided_added U low high decided o z d c
                      ∙ ap (λ (t : Bool). is_undecided U low high decided z d c && not t)
                      (or_comm (is_order o z d c) (is_order o z c d) ∙ ap₂ ◌||◌ (sym (order_turned o z d c)) (sym (order_turned o z c d)))
                      ∙ sym (undecided_added U low high decided (opposite o) z d c);
                };
            unused = λ c j few past.
                let (no_ahead, no-behind, no-undecided) = old.unused c j few past in (
                  unused_set U p o.zone o.first y candidate.first (set ahead x a) a' c j few past
                      ∙ unused_set U p o.zone o.second x candidate.second ahead a c j few past
                      ∙ no_ahead,
                  unused_set U p o.zone o.second x candidate.second (set behind y b) b' c j few past
                      ∙ unused_set U p o.zone o.first y candidate.first behind b c j few past
                      ∙ no-behind,
                  no-undecided,
                );
          };
    }
