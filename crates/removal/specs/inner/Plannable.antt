-- What is asked of a crossing before it is planned.
use Rattle.std.specs.Prelude.{ℕ, ◌≤◌, ◌<◌, ◌≡◌, [], get_or}
use Rattle.routes.specs.inner.Lists.{Named, Distinct}
use Rattle.removal.specs.Pairs.{Unplanned}

pub record Plannable (U : Unplanned) : Type 0 where
  -- "A route names a zone at most once."
  pub once : (c : ℕ) → Distinct (get_or U.routes c [])
  pub zone_below : (c z : ℕ) → Named (get_or U.routes c []) z → z < U.zones
  -- who has a step is a cart
  pub cart_below : (c z : ℕ) → Named (get_or U.routes c []) z → c < U.carts
  -- "On one lane, a lower cart number is in front."
  pub in_lane : (d c : ℕ) → c < U.carts → d < c → U.given.lane d ≡ U.given.lane c → U.given.arrival d ≤ U.given.arrival c
