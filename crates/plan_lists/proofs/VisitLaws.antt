-- Who visits each zone, as far as the routes are walked: each step adds its cart to its zone's set.
use Prim.Native.Nat.{ℕ, ◌+◌, ◌*◌, ◌^◌, ◌≤◌, ◌<◌}
use mathlib.Core.Path.{◌≡◌, refl, sym, ap, ◌∙◌}
use mathlib.Core.Bool.{Bool, true, false, ◌||◌, or-true, or-false}
use mathlib.Core.List.{List}
use native.Mathlib.Omega.{arith}
use native.Mathlib.Numerals.{add-one}
use native.Mathlib.Decide.{ℕ_discrete, dec_lt}
use lib.ListN.{length, get_or, set, replicate, get_or-eq_default}
use lib.Dec.{eqb}
use borrow.Author.Tests.{eqb-true, eqb-false, eq-eqb, ne_eqb, lt-ltb}
use Rattle.words.specs.Lists.{any_below, entries}
use Rattle.words.proofs.Entries.{length_entries, at_entry, zeros_are, same_entries, put_entry}
use Rattle.words.proofs.Filled.{filled, filled_here, filled_other, filled_none, filled_row, filled_all}
use Rattle.sets.specs.inner.Member.{has, With}
use Rattle.sets.specs.Counting.{set_below}
use Rattle.sets.proofs.Counting.{set_fits, has_set, set_is, set_same, set_none}
use Rattle.plan_lists.specs.inner.Sets.{names, Sets, who_visits}

module _ (steps zone : List ℕ) where
  abbrev count : ℕ → ℕ
  count i = get_or steps i 0

  -- the carts whose routes name zone z, where the carts before cart i are walked, and the first j steps of cart i
  abbrev named : ℕ → ℕ → ℕ → ℕ
  named i j z = set_below 16 λ a. names zone (filled count i j a) a z

  unfoldable pub walked : ℕ → ℕ → List ℕ
  walked i j = entries 24 0 (named i j)

  pub walked_none : replicate 24 0 ≡ walked 0 0
  unfolding walked any_below
  walked_none = zeros_are 24 (named 0 0) λ z. set_none 16 _ λ a _. rw (filled_none count a)

  -- one step more names its zone, and no other
  names_more : (i j : ℕ) → names zone (j + 1) i (get_or zone (8 * i + j) 0) ≡ true
  unfolding any_below
  names_more i j = rw (add-one j, eq-eqb (get_or zone (8 * i + j) 0) _ refl)

  names_other : (i j z : ℕ) → (z ≡ get_or zone (8 * i + j) 0 → ⊥) → names zone (j + 1) i z ≡ names zone j i z
  unfolding any_below
  names_other i j z n = rw (add-one j, ne_eqb (get_or zone (8 * i + j) 0) z (λ q. n (sym q)))

  module _ (i j : ℕ) where
    abbrev next : ℕ
    next = get_or zone (8 * i + j) 0

    pub walked_step : (who : List ℕ) (r : ℕ) → next < 24 → r < 2 ^ 16 → who ≡ walked i j → With (get_or who next 0) i r
        → set who next r ≡ walked i (j + 1)
    unfolding walked
    walked_step who r l h e w =
        ap (λ (x : List ℕ). set x next r) e
        ∙ put_entry 24 (named i j) (named i (j + 1)) next r l
        (sym (set_is 16 r _ h (λ a q. w a ∙ ap (λ (x : ℕ). has x a || eqb a i)
        (ap (λ (x : List ℕ). get_or x next 0) e ∙ at_entry 24 (named i j) next l) ∙ ap (λ (b : Bool). b || eqb a i) (has_set 16 _ a q) ∙ here a)))
        (λ z n. set_same 16 _ _ (λ a _. there z n a (ℕ_discrete a i)))
      where
        spread : (x y b : Bool) → (b ≡ true → y ≡ true) → (b ≡ false → y ≡ x) → (x || b) ≡ y
        spread x y true f g = or-true x ∙ sym (f refl)
        spread x y false f g = or-false x ∙ sym (g refl)

        here : (a : ℕ) → (names zone (filled count i j a) a next || eqb a i) ≡ names zone (filled count i (j + 1) a) a next
        here a =
            spread (names zone (filled count i j a) a next) (names zone (filled count i (j + 1) a) a next) (eqb a i)
            (λ t. rw (eqb-true a i t, filled_here count i (j + 1)) (names_more i j))
            (λ f. rw (filled_other count i (j + 1) j a (eqb-false a i f)))

        there : (z : ℕ) → (z ≡ next → ⊥) → (a : ℕ) → Dec (a ≡ i) → names zone (filled count i (j + 1) a) a z ≡ names zone (filled count i j a) a z
        there z n a (yes q) = rw (q, filled_here count i (j + 1), filled_here count i j) (names_other i j z n)
        there z n a (no q) = rw (filled_other count i (j + 1) j a q)

  pub walked_route : (i j : ℕ) → j ≡ get_or steps i 0 → walked i j ≡ walked (i + 1) 0
  unfolding walked
  walked_route i j e = rw e (same_entries 24 _ _ λ z _. set_same 16 _ _ λ a _. ap (λ (k : ℕ). names zone k a z) (filled_row count i a))

  pub walked_all : (i : ℕ) → i ≡ 16 → walked i 0 ≡ who_visits steps zone
  unfolding walked who_visits
  walked_all i e =
      rw e
      (same_entries 24 _ _ λ z _. set_same 16 _ _ λ a l. ap (λ (k : ℕ). names zone k a z) (filled_all count 16 a ∙ rw (lt-ltb a 16 l)))

pub visits_sets : (steps zone : List ℕ) → Sets (who_visits steps zone)
unfolding who_visits
visits_sets steps zone z = go (dec_lt z 24)
  where
    rule : ℕ → ℕ
    rule x = set_below 16 λ i. names zone (get_or steps i 0) i x

    go : Dec (z < 24) → get_or (entries 24 0 rule) z 0 < 2 ^ 16
    go (yes l) = rw (at_entry 24 rule z l) (set_fits 16 _)
    go (no m) = let past : length (entries 24 0 rule) ≤ z = omega (arith, length_entries 24 0 rule) in omega
        (arith, get_or-eq_default (entries 24 0 rule) 0 past)
