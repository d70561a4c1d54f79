-- One cell of a table changed: the sets of all steps, told by zone, cart and member.
use Prim.Native.Nat.{ℕ, ◌+◌, ◌*◌, ◌<◌}
use mathlib.Core.Path.{◌≡◌, refl, sym, ap, ◌∙◌}
use mathlib.Core.Logic.{◌↔◌}
use mathlib.Core.Bool.{Bool, true, false, false≢true, not, ◌&&◌, ◌||◌, and-true, or-false}
use mathlib.Core.List.{List}
use native.Mathlib.Omega.{arith}
use lib.ListN.{length, get_or, set}
use lib.Seq.{get_or-set_same, get_or-set_other}
use lib.Dec.{eqb}
use Rattle.words.specs.Lists.{pick}
use Rattle.words.proofs.Tests.{eqb_says, and_says, eqb_turned}
use Rattle.sets.specs.inner.Member.{has, With, Without}
use Rattle.routes.specs.Crossing.{route, steps, zone}
use Rattle.routes.proofs.Places.{place_is}
use Rattle.removal.specs.Pairs.{Unplanned}
use Rattle.planner_orders.specs.inner.Unplanned.{unordered, SheetSized}
use Rattle.planner_orders.specs.inner.Deciding.{StepAt}

-- x is the place of cart i's step in zone y
module _ (U : Unplanned) (sized : SheetSized U) (y i x : ℕ) (here : StepAt U y i x) where
  place_below : x < 128
  place_below =
      let s = here.is_step in
      omega (arith, here.at, sized.ranged.steps_most i, sized.able.cart_below i _ (here.step, s, refl), sized.carts_most)

  module _ (c j : ℕ) (h : j < steps (unordered U) c) where
    -- whether step j of cart c is that step
    abbrev is_here : Bool
    is_here = eqb y (zone (unordered U) c j) && eqb i c

    is_here_lem : 8 * c + j ≡ x → (y ≡ zone (unordered U) c j) × (i ≡ c)
    is_here_lem e =
        let cart : i ≡ c = omega (arith, here.is_step, here.at, sized.ranged.steps_most c, sized.ranged.steps_most i) in
        let step : here.step ≡ j = omega (arith, here.is_step, here.at, sized.ranged.steps_most c, sized.ranged.steps_most i) in
        (rw (cart, step) at (sym here.there), cart)

    here_is : y ≡ zone (unordered U) c j → i ≡ c → 8 * c + j ≡ x
    here_is there cart =
        let first = place_is (route (unordered U) c) y (sized.able.once c) in
        let own = first here.step (rw cart at here.is_step) (rw cart at here.there) in
        omega (arith, here.at, own, first j h (sym there))

    here_says : (is_here ≡ true) ↔ (8 * c + j ≡ x)
    here_says =
        let says = and_says (eqb y (zone (unordered U) c j)) (eqb i c) (eqb_says y (zone (unordered U) c j)) (eqb_says i c) in
        (λ e. here_is (says.0 e).0 (says.0 e).1, λ e. says.1 (is_here_lem e))

    module _ (table : List ℕ) (v e d : ℕ) (long : length table ≡ 128) where
      -- at the cell the set is the new one, elsewhere it is as it was
      cell : (t : Bool) → is_here ≡ t → has (get_or (set table x v) (8 * c + j) 0) d ≡ pick t (has v d) (has (get_or table (8 * c + j) 0) d)
      cell true now = let at = here_says.0 now in rw (at, get_or-set_same table x v 0 (omega (arith, place_below)))
      cell false now = ap (λ (n : ℕ). has n d) (get_or-set_other table x (8 * c + j) v 0 (λ at. false≢true (sym now ∙ here_says.1 at)))

      pub cell_with : With (get_or table x 0) e v
          → has (get_or (set table x v) (8 * c + j) 0) d ≡ (has (get_or table (8 * c + j) 0) d || (is_here && eqb e d))
      cell_with new = cell is_here refl ∙ go is_here refl
        where
          go : (t : Bool) → is_here ≡ t → pick t (has v d) (has (get_or table (8 * c + j) 0) d) ≡ (has (get_or table (8 * c + j) 0) d || (t && eqb e d))
          go true now = new d ∙ rw (here_says.0 now, eqb_turned e d)
          go false now = sym (or-false _)

      pub cell_without : Without (get_or table x 0) e v
          → has (get_or (set table x v) (8 * c + j) 0) d ≡ (has (get_or table (8 * c + j) 0) d && not (is_here && eqb e d))
      cell_without new = cell is_here refl ∙ go is_here refl
        where
          go : (t : Bool) → is_here ≡ t → pick t (has v d) (has (get_or table (8 * c + j) 0) d) ≡ (has (get_or table (8 * c + j) 0) d && not (t && eqb e d))
          go true now = new d ∙ rw (here_says.0 now, eqb_turned e d)
          go false now = sym (and-true _)
