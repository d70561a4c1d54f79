-- Carts put into the lists one by one, each at a place of its own.
use Prim.Native.Nat.{ℕ, ◌+◌, ◌*◌, ◌<◌}
use mathlib.Core.Path.{◌≡◌, sym, ◌∙◌}
use mathlib.Core.Logic.{◌⊎◌, inl, inr, ⊎_elim}
use mathlib.Core.List.{List}
use native.Mathlib.Decide.{ℕ_discrete}
use native.Mathlib.Omega.{arith}
use lib.ListN.{get_or, set, replicate, length-set, length-replicate}
use lib.Seq.{get_or-set_same, get_or-set_other}
use lib.Count.{ones}
use Rattle.moves.proofs.Positions.{zeros_pos}
use Rattle.planner_lists.specs.inner.Places.{IsStep, Placeable, EntryOf, PlacedTo}

module _ (steps zone ahead : List ℕ) where
  pub placed_none : PlacedTo steps zone ahead 0 (replicate 384 0)
  placed_none = record { list_384 = length-replicate {A = ℕ} 384 0; placed = λ c j y e below. absurd (omega arith); others = λ y. inl (zeros_pos 384 y) }

  module _ (visitors : List ℕ) (able : Placeable steps zone ahead visitors) (c j : ℕ) (h : IsStep steps c j) where
    abbrev x : ℕ
    x = 8 * c + j

    abbrev y₀ : ℕ
    y₀ = 16 * get_or zone x 0 + ones (get_or ahead x 0)

    entry_below : y₀ < 384
    entry_below = omega (arith, able.routes.known c j h.1, able.place_below c j h)

    -- two steps with one entry are of one cart
    same_cart : (d i : ℕ) → EntryOf steps zone ahead d i y₀ → d ≡ c
    same_cart d i e =
        let mine = able.place_below c j h in
        let its = able.place_below d i e.is_step in
        able.apart d i c j e.is_step h (omega (arith, e.at)) (omega (arith, e.at))

    -- the step's cart is put at its place
    pub placed_next : (list : List ℕ) → PlacedTo steps zone ahead x list → (place : ℕ) → place ≡ ones (get_or ahead x 0)
        → PlacedTo steps zone ahead (8 * c + (j + 1)) (set list (16 * get_or zone x 0 + place) c)
    placed_next list so_far place is = rw is (record {
      list_384 = length-set list y₀ c ∙ so_far.list_384;
      placed = λ d i y e below. put d i y e below (ℕ_discrete y y₀);
      others = λ y. rest y (ℕ_discrete y y₀);
    })
      where
        put : (d i y : ℕ) → EntryOf steps zone ahead d i y → 8 * d + i < 8 * c + (j + 1) → Dec (y ≡ y₀) → get_or (set list y₀ c) y 0 ≡ d
        put d i y e below (yes same) =
            rw (same, get_or-set_same list y₀ c 0 (omega (arith, so_far.list_384, entry_below))) (sym (same_cart d i (rw same at e)))
        put d i y e below (no other) =
            let earlier : (8 * d + i ≡ x) → ⊥ = λ at. other (rw at at e.at) in
            get_or-set_other list y₀ y c 0 other ∙ so_far.placed d i y e (omega (arith, earlier))

        rest : (y : ℕ) → Dec (y ≡ y₀) → (get_or (set list y₀ c) y 0 ≡ 0) ⊎ ((d : ℕ) × (i : ℕ) × EntryOf steps zone ahead d i y × (8 * d + i < 8 * c + (j + 1)))
        rest y (yes same) = inr (c, j, record { is_step = h; at = same }, omega arith)
        rest y (no other) =
            ⊎_elim (λ none. inl (get_or-set_other list y₀ y c 0 other ∙ none)) (λ (d, i, e, below). inr (d, i, e, omega arith)) (so_far.others y)
