-- What is asked of a crossing before carts are moved over it.
use Rattle.std.specs.Prelude.{ℕ, ◌<◌}
use Rattle.routes.specs.Crossing.{Crossing, steps, zone}
use Rattle.routes.specs.inner.Orders.{NamesOnce, OnlyVisitors}
use Rattle.times.specs.Times.{Given}
use Rattle.times.specs.inner.Times.{Ranged}

-- no route names a zone twice or one past the 24, nobody is ahead in a zone that it does not visit, and the times are in a sheet's ranges
pub record Sound (X : Crossing) (G : Given) : Type 0 where
  pub once : NamesOnce X
  pub only : OnlyVisitors X
  pub zone_below : (c j : ℕ) → j < steps X c → zone X c j < 24
  pub ranged : Ranged X G
