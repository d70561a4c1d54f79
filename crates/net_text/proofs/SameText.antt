-- Orders that agree before the carts that visit a zone, and fronts that agree for the carts that are there, make one net: it has one text.
use Prim.Native.Nat.{ℕ, ◌<◌}
use mathlib.Core.Path.{◌≡◌, ap, ap₂, fun_ext}
use mathlib.Core.Bool.{Bool, ◌&&◌}
use mathlib.Core.List.{List, [], ◌++◌}
use lib.ListN.{length, get_or}
use lib.Dec.{eqb}
use Rattle.words.specs.Lists.{pick, each}
use Rattle.routes.specs.inner.Lists.{Named}
use Rattle.routes.specs.Crossing.{Crossing}
use Rattle.times.proofs.SameOrders.{front_same, behind_same}
use Rattle.net_text.specs.Lines.{
  Line,
  text_of,
  lane_lines,
  pair_lines,
  own_lines,
  out_from,
  other_lines,
  position_lines,
  positions,
  cart_lines,
  net_lines,
  net_text,
}

module _ (routes : List (List ℕ)) (front front' : ℕ → ℕ) (before other : ℕ → ℕ → ℕ → Bool)
    (fronts : (c : ℕ) → 0 < length (get_or routes c []) → front c ≡ front' c)
    (agree : (z d c : ℕ) → Named (get_or routes c []) z → before z d c ≡ other z d c) where
  abbrev X : Crossing
  X = record { routes = routes; front = front; before = before }

  abbrev Y : Crossing
  Y = record { routes = routes; front = front'; before = other }

  other_same : (c p d : ℕ) → other_lines X c p d ≡ other_lines Y c p d
  unfolding other_lines
  other_same c p d =
      ap₂ (λ (inLine behind : Bool). pick (eqb p 0 && inLine) (lane_lines c d) [] ++ pick behind (pair_lines c p d (out_from X c p d)) [])
      (front_same routes front front' before other fronts agree d c) (behind_same routes front front' before other fronts agree c p d)

  pub text_same : net_text X ≡ net_text Y
  unfolding net_text net_lines cart_lines position_lines own_lines
  text_same =
      ap (λ (others : ℕ → ℕ → ℕ → List Line). text_of
      (each (length routes) 0 λ c. each (positions X c) 0 λ p. own_lines X c p ++ each (length routes) 0 (others c p)))
      (fun_ext (λ c. fun_ext (λ p. fun_ext (λ d. other_same c p d))))
