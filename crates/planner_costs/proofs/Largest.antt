-- The order that is taken among a list's orders is the one of largest cost, whatever the sequence.
use Prim.Native.Nat.{ℕ}
use mathlib.Core.Path.{◌≡◌, refl, sym, ap, ◌∙◌}
use mathlib.Core.Logic.{◌↔◌, ◌⊎◌, inl, inr}
use mathlib.Core.Bool.{Bool, true, false}
use mathlib.Core.Option.{none, some}
use mathlib.Core.List.Memᴰ
use mathlib.Core.List.{List, [], ◌∷◌, Memᴰ}
use native.Mathlib.Omega.{arith}
use Rattle.words.specs.Lists.{pick}
use Rattle.removal.specs.Pairs.{Unplanned, Order}
use Rattle.removal.specs.Cost.{Costed, is_taken_over, taken, largest_cost}
use Rattle.planner_costs.specs.inner.Largest.{costed, IsLargest, OfCarts}
use Rattle.planner_costs.proofs.Taken.{taken_strict, taken_asym, taken_total}

abbrev pub Among : List Order → Order → Type 0
Among orders o = Memᴰ o orders

module _ (U : Unplanned) (t spare : ℕ → ℕ → ℕ) where
  abbrev with : Order → Costed
  with o = costed U t spare o

  -- the largest is its order with its cost
  largest_with : {Candidate : Order → Type 0} (x : Costed) → IsLargest U t spare Candidate x → x ≡ with x.order
  largest_with x X = λ i. record { order = x.order; cost = X.its_cost i }

  -- no second order fits
  pub largest_unique : {Candidate : Order → Type 0} → ((o : Order) → Candidate o → OfCarts U o) → (x y : Costed)
      → IsLargest U t spare Candidate x → IsLargest U t spare Candidate y → x ≡ y
  largest_unique {Candidate} of-carts x y X Y = largest_with x X ∙ ap with same ∙ sym (largest_with y Y)
    where
      not_over : (x y : Costed) → IsLargest U t spare Candidate x → IsLargest U t spare Candidate y → is_taken_over U x y ≡ false
      not_over x y X Y = rw (largest_with x X) (Y.none_over x.order X.candidate)

      same : x.order ≡ y.order
      same = taken_total U x y (of-carts _ X.candidate) (of-carts _ Y.candidate) (not_over x y X Y) (not_over y x Y X)

  -- the same candidates, told otherwise
  pub largest_as : {Candidate Other : Order → Type 0} → ((o : Order) → Candidate o ↔ Other o) → (x : Costed)
      → IsLargest U t spare Candidate x → IsLargest U t spare Other x
  largest_as same x X = record {
    candidate = (same x.order).0 X.candidate;
    its_cost = X.its_cost;
    none_over = λ o c. X.none_over o ((same o).1 c);
  }

  module _ (More : Order → Type 0) (new : Order) (is-more : More new) where
    -- a candidate alone
    pub largest_alone : ((o : Order) → More o → o ≡ new) → IsLargest U t spare More (with new)
    largest_alone only = record {
      candidate = is-more;
      its_cost = refl;
      none_over = λ o m. rw (only o m) ((taken_strict U).irrefl (with new));
    }

    -- one candidate more than those of which x is the largest: x is not taken over it, or it is not taken over x
    module _ (Candidate : Order → Type 0) (either : (o : Order) → More o → Candidate o ⊎ (o ≡ new)) (x : Costed) (X : IsLargest U t spare Candidate x) where
      pub largest_over : is_taken_over U x (with new) ≡ false → IsLargest U t spare More (with new)
      largest_over under = record { candidate = is-more; its_cost = refl; none_over = λ o m. go o (either o m) }
        where
          go : (o : Order) → Candidate o ⊎ (o ≡ new) → is_taken_over U (with o) (with new) ≡ false
          go o (inl c) = (taken_strict U).weak (with o) x (with new) (X.none_over o c) under
          go o (inr is) = rw is ((taken_strict U).irrefl (with new))

      pub largest_stays : More x.order → is_taken_over U (with new) x ≡ false → IsLargest U t spare More x
      largest_stays stays under = record { candidate = stays; its_cost = X.its_cost; none_over = λ o m. go o (either o m) }
        where
          go : (o : Order) → Candidate o ⊎ (o ≡ new) → is_taken_over U (with o) x ≡ false
          go o (inl c) = X.none_over o c
          go o (inr is) = rw is under

  -- what is taken of a list is the largest among its orders
  taken_largest : (o : Order) (orders : List Order) → IsLargest U t spare (Among (o ∷ orders)) (taken U (with o) (largest_cost U t spare orders))
  unfolding largest_cost
  taken_largest o [] = largest_alone (Among (o ∷ [])) o (Memᴰ.head refl) (λ p m. Memᴰ.eq_of_singleton m)
  taken_largest o (p ∷ orders) = by (taken U (with p) (largest_cost U t spare orders)) (taken_largest p orders) _ refl
    where
      either : (q : Order) → Among (o ∷ p ∷ orders) q → Among (p ∷ orders) q ⊎ (q ≡ o)
      either q m = elim (Memᴰ.cases_cons m) [ inl e ↦ inr e | inr l ↦ inl l ]

      by : (y : Costed) → IsLargest U t spare (Among (p ∷ orders)) y → (over : Bool) → is_taken_over U y (with o) ≡ over
          → IsLargest U t spare (Among (o ∷ p ∷ orders)) (pick over y (with o))
      by y Y true is = largest_stays (Among (o ∷ p ∷ orders)) o (Memᴰ.head refl) (Among (p ∷ orders)) either y Y (Memᴰ.tail Y.candidate)
          (taken_asym U y (with o) is)
      by y Y false is = largest_over (Among (o ∷ p ∷ orders)) o (Memᴰ.head refl) (Among (p ∷ orders)) either y Y is

  -- none is taken exactly of the empty list
  pub largest_none : (orders : List Order) → (largest_cost U t spare orders ≡ none) ↔ ((o : Order) → Among orders o → ⊥)
  unfolding largest_cost
  largest_none [] = (λ _ o m. Memᴰ.not-nil m, λ _. refl)
  largest_none (o ∷ orders) = (λ e. absurd (let apart : ◌≡◌ {A = ℕ} 0 1 = cc in omega arith), λ n. absurd (n o (Memᴰ.head refl)))

  -- and one of another list exactly if it is the largest
  pub largest_some : (orders : List Order) → ((o : Order) → Among orders o → OfCarts U o) → (x : Costed)
      → (largest_cost U t spare orders ≡ some x) ↔ IsLargest U t spare (Among orders) x
  unfolding largest_cost
  largest_some [] of-carts x = (λ e. absurd (let apart : ◌≡◌ {A = ℕ} 0 1 = cc in omega arith), λ X. absurd (Memᴰ.not-nil X.candidate))
  largest_some (o ∷ orders) of-carts x = (
    λ e. let is : taken U (with o) (largest_cost U t spare orders) ≡ x = cc in rw is at (taken_largest o orders),
    λ X. ap some (largest_unique of-carts _ x (taken_largest o orders) X),
  )

  -- so the answer depends on the candidates alone
  pub largest_told : {Candidate : Order → Type 0} (orders : List Order) → ((o : Order) → Among orders o ↔ Candidate o) →
      ((o : Order) → Candidate o → OfCarts U o)
      → (x : Costed) → IsLargest U t spare Candidate x → largest_cost U t spare orders ≡ some x
  largest_told orders tells of-carts x X =
      (largest_some orders (λ o m. of-carts o ((tells o).0 m)) x).1
      (largest_as (λ o. ((tells o).1, (tells o).0)) x X)
