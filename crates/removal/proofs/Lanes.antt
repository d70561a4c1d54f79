-- Whoever is next in front on a lane has a lower rank, whatever the orders.
use Prim.Native.Nat.{ℕ}
use mathlib.Core.Path.{refl}
use mathlib.Core.Bool.{Bool}
use Rattle.routes.specs.Crossing.{Crossing, zone}
use Rattle.routes.specs.inner.Orders.{LanesRise}
use Rattle.routes.proofs.Lanes.{front_says, next_is}
use Rattle.removal.specs.Pairs.{Unplanned, rank, front_in}
use Rattle.removal.specs.inner.Plannable.{Plannable}
use Rattle.removal.proofs.Ranks.{lane_rises}

module _ (U : Unplanned) (able : Plannable U) (before : ℕ → ℕ → ℕ → Bool) where
  abbrev X : Crossing
  X = record { routes = U.routes; front = front_in U; before = before }

  pub lanes_up : LanesRise X (rank U)
  lanes_up d c f =
      let is_front = (front_says X d c).0 f in
      let (below, (_, same)) = next_is U.given.lane U.routes d c is_front.is in
      lane_rises U able d c (able.cart_below c (zone X c 0) (0, is_front.here, refl)) below same
