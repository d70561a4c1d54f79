-- Orders that agree for the carts that visit a zone, and fronts that agree for the carts that are there, give one spare time.
use Prim.Native.Nat.{ℕ, ◌<◌}
use mathlib.Core.Path.{◌≡◌, refl, ap, fun_ext, ◌∙◌}
use mathlib.Core.Bool.{Bool, true, false, ◌&&◌}
use mathlib.Core.List.{List, []}
use lib.ListN.{length, get_or}
use lib.Dec.{ltb, eqb}
use borrow.Author.Tests.{ltb-true}
use Rattle.moves.specs.System.{start}
use Rattle.routes.specs.inner.Lists.{Named}
use Rattle.routes.specs.Crossing.{Crossing, steps, zone, step_in}
use Rattle.routes.specs.Moves.{is_in_line, system}
use Rattle.times.specs.Times.{Given, finish}
use Rattle.times.proofs.SameOrders.{front_same}
use Rattle.removal.specs.Spare.{worked_back, least_of, alone, spare_rule, spare_time}
use Rattle.planner_spare.proofs.Least.{least_same}

-- the rule's number at a step, 0 at the move out
abbrev step_only : Bool → ℕ → ℕ
step_only b number = elim b [ true ↦ number | false ↦ 0 ]

module _ (routes : List (List ℕ)) (front front' : ℕ → ℕ) (before other : ℕ → ℕ → ℕ → Bool)
    (fronts : (c : ℕ) → 0 < length (get_or routes c []) → front c ≡ front' c)
    (agree : (z c d : ℕ) → Named (get_or routes c []) z → before z c d ≡ other z c d) where
  abbrev X : Crossing
  X = record { routes = routes; front = front; before = before }

  abbrev Y : Crossing
  Y = record { routes = routes; front = front'; before = other }

  module _ (G : Given) (t : ℕ → ℕ → ℕ) (finishing : ℕ) where
    rule_same : (u : ℕ → ℕ → ℕ) (c j : ℕ) → spare_rule X G t finishing u c j ≡ spare_rule Y G t finishing u c j
    unfolding spare_rule
    rule_same u c j = go (ltb j (steps X c)) refl
      where
        z : ℕ
        z = zone X c j

        in_line : (d : ℕ) → is_in_line X d j c ≡ is_in_line Y d j c
        in_line d = ap (λ (b : Bool). eqb j 0 && b) (front_same routes front front' other other fronts (λ _ _ _ _. refl) c d)

        line : (ℕ → Bool) → ℕ
        line test = least_of test (λ d. u d 0) (alone X G t finishing u c j) (length routes)

        least : (ℕ → Bool) → ℕ → ℕ
        least test number = least_of test (λ d. u d (step_in X d z)) number (length routes)

        go : (b : Bool) → ltb j (steps X c) ≡ b
            → step_only b (least (before z c) (line (λ d. is_in_line X d j c))) ≡ step_only b (least (other z c) (line (λ d. is_in_line Y d j c)))
        go true e =
            ap (least (before z c)) (least_same _ _ _ _ _ (length routes) (λ d _. in_line d) (λ d _ _. refl))
            ∙ least_same _ _ _ _ _ (length routes) (λ d _. agree z c d (j, ltb-true j (steps X c) e, refl)) (λ d _ _. refl)
        go false e = refl

  pub spare_same : (G : Given) (run : List ℕ) (t : ℕ → ℕ → ℕ) → spare_time X G run t ≡ spare_time Y G run t
  unfolding spare_time finish
  spare_same G run t =
      ap (λ (rule : (ℕ → ℕ → ℕ) → ℕ → ℕ → ℕ). worked_back rule (λ _ _. 0) (start (system X)) run)
      (fun_ext (λ u. fun_ext (λ c. fun_ext (λ j. rule_same G t (finish X G t) u c j))))
