-- Costs look at the times of steps alone: times that agree there take the same order.
use Prim.Native.Nat.{ℕ}
use mathlib.Core.Path.{◌≡◌, refl}
use mathlib.Core.List.Memᴰ
use mathlib.Core.List.{List, [], ◌∷◌}
use Rattle.routes.specs.Lists.{place_of}
use Rattle.routes.proofs.Places.{place_below}
use Rattle.removal.specs.Pairs.{Unplanned, Order}
use Rattle.removal.specs.Cost.{cost, largest_cost}
use Rattle.removal.proofs.Pairs.{Visiting}
use Rattle.removal.proofs.Spare.{SameAtSteps}
use Rattle.planner_costs.specs.inner.Tables.{route}
use Rattle.planner_costs.proofs.Largest.{Among}

module _ (U : Unplanned) (t u spare other : ℕ → ℕ → ℕ) (same : SameAtSteps U.routes t u) (same-spare : SameAtSteps U.routes spare other) where
  abbrev Visited : Order → Type 0
  Visited o = Visiting U o.first o.zone × Visiting U o.second o.zone

  cost_same : (o : Order) → Visited o → cost U t spare o ≡ cost U u other o
  unfolding cost
  cost_same o (first, second) =
      let i = place_of (route U o.first) o.zone in
      let j = place_of (route U o.second) o.zone in
      let below = place_below (route U o.second) o.zone second in
      rw (same o.first i (place_below (route U o.first) o.zone first), same o.second j below, same-spare o.second j below)

  pub largest_same : (orders : List Order) → ((o : Order) → Among orders o → Visited o) → largest_cost U t spare orders ≡ largest_cost U u other orders
  unfolding largest_cost
  largest_same [] visited = refl
  largest_same (o ∷ orders) visited = rw (cost_same o (visited o (Memᴰ.head refl)), largest_same orders (λ p m. visited p (Memᴰ.tail m)))
