-- Places filled in step by step: each step's entry is its own, since a route names a zone at most once.
use Prim.Native.Nat.{ℕ, ◌+◌, ◌*◌, ◌<◌}
use mathlib.Core.Path.{◌≡◌, refl, sym, ◌∙◌}
use mathlib.Core.List.{List}
use native.Mathlib.Decide.{ℕ_discrete}
use native.Mathlib.Omega.{arith}
use lib.ListN.{length, get_or, set, replicate, length-set}
use lib.Seq.{get_or-set_same, get_or-set_other}
use Rattle.words.proofs.Entries.{length_entries, at_entry}
use Rattle.moves.proofs.Positions.{zeros_pos}
use Rattle.routes.specs.inner.Lists.{Named}
use Rattle.routes.proofs.Places.{place_is}
use Rattle.crossing.specs.Plans.{route_of}
use Rattle.planner_visiting.specs.inner.Visiting.{RoutesOnce}

module _ (steps zone : List ℕ) where
  -- the steps that stand before x have their places
  pub record PlacedTo (x : ℕ) (visit : List ℕ) : Type 0 where
    pub sized : length visit ≡ 384
    pub step_at : (c j : ℕ) → c < 16 → j < get_or steps c 0 → 8 * c + j < x → get_or visit (16 * get_or zone (8 * c + j) 0 + c) 0 ≡ 8 * c + j
    pub not_visited : (z c : ℕ) → c < 16 → ¬ (Named (route_of steps zone c) z) → get_or visit (16 * z + c) 0 ≡ 0
    pub below : (y : ℕ) → get_or visit y 0 < 128

  pub placed_none : PlacedTo 0 (replicate 384 0)
  placed_none = record {
    sized = refl;
    step_at = λ c j _ _ h. absurd (omega arith);
    not_visited = λ z c _ _. zeros_pos 384 (16 * z + c);
    below = λ y. omega (arith, zeros_pos 384 y);
  }

  -- step j of cart c names its zone
  route_below : (c j : ℕ) → j < get_or steps c 0 → j < length (route_of steps zone c)
  route_below c j h = omega (arith, length_entries (get_or steps c 0) 0 (λ k. get_or zone (8 * c + k) 0))

  route_at : (c j : ℕ) → j < get_or steps c 0 → get_or (route_of steps zone c) j 0 ≡ get_or zone (8 * c + j) 0
  route_at c j h = at_entry (get_or steps c 0) (λ k. get_or zone (8 * c + k) 0) j h

  -- two steps of a cart in one zone are one
  same_step : RoutesOnce steps zone → (c j i : ℕ) → c < 16 → j < get_or steps c 0 → i < get_or steps c 0
      → get_or zone (8 * c + j) 0 ≡ get_or zone (8 * c + i) 0 → j ≡ i
  same_step routed c j i l h k e =
      let z = get_or zone (8 * c + j) 0 in
      sym (place_is (route_of steps zone c) z (routed.once c l) j (route_below c j h) (route_at c j h))
      ∙ place_is (route_of steps zone c) z (routed.once c l) i (route_below c i k) (route_at c i k ∙ sym e)

  module _ (routed : RoutesOnce steps zone) (c j : ℕ) (l : c < 16) (h : j < get_or steps c 0) where
    place_below : 16 * get_or zone (8 * c + j) 0 + c < 384
    place_below = omega (arith, routed.routes.known c j h)

    step_below : 8 * c + j < 128
    step_below = omega (arith, routed.routes.few c)

    abbrev x : ℕ
    x = 8 * c + j

    abbrev place : ℕ
    place = 16 * get_or zone x 0 + c

    -- an entry at this place is this cart's, in this zone
    same_place : (z d : ℕ) → d < 16 → 16 * z + d ≡ place → (d ≡ c) × (z ≡ get_or zone x 0)
    same_place z d k e = (omega arith, omega arith)

    pub placed_next : (visit : List ℕ) → PlacedTo x visit → PlacedTo (8 * c + (j + 1)) (set visit place x)
    placed_next visit to = record {
      sized = length-set visit place x ∙ to.sized;
      step_at = λ d i k m b. at_step d i k m b (ℕ_discrete (8 * d + i) x);
      not_visited = λ z d k n. get_or-set_other visit place (16 * z + d) x 0 (λ e. n (visited z d (same_place z d k e))) ∙ to.not_visited z d k n;
      below = λ y. at_place y (ℕ_discrete y place);
    }
      where
        here : get_or (set visit place x) place 0 ≡ x
        here = get_or-set_same visit place x 0 (omega (arith, to.sized, place_below))

        visited : (z d : ℕ) → (d ≡ c) × (z ≡ get_or zone x 0) → Named (route_of steps zone d) z
        visited z d (e, q) = rw (e, q) (j, route_below c j h, route_at c j h)

        at_place : (y : ℕ) → Dec (y ≡ place) → get_or (set visit place x) y 0 < 128
        at_place y (yes e) = rw (e, here) step_below
        at_place y (no n) = rw (get_or-set_other visit place y x 0 n) (to.below y)

        at_step : (d i : ℕ) → d < 16 → i < get_or steps d 0 → 8 * d + i < 8 * c + (j + 1) → Dec (8 * d + i ≡ x)
            → get_or (set visit place x) (16 * get_or zone (8 * d + i) 0 + d) 0 ≡ 8 * d + i
        at_step d i k m b (yes e) =
            let same : d ≡ c = omega (arith, routed.routes.few c, routed.routes.few d) in
            rw (e, same) here
        at_step d i k m b (no n) =
            get_or-set_other visit place (16 * get_or zone (8 * d + i) 0 + d) x 0 (λ e. n (twice (same_place (get_or zone (8 * d + i) 0) d k e)))
            ∙ to.step_at d i k m (omega (arith, n))
          where
            twice : (d ≡ c) × (get_or zone (8 * d + i) 0 ≡ get_or zone x 0) → 8 * d + i ≡ x
            twice (e, q) =
                let this : i ≡ j = same_step routed c i j l (rw e at m) h (rw e at q) in
                omega (arith, this, e)
