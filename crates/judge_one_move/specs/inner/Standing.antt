-- What tells whether a move is permitted: `left` has for each zone the carts that have left it.
use Rattle.std.specs.Prelude.{ℕ, ◌≤◌, ◌<◌, List, get_or}
use Rattle.routes.specs.Crossing.{Crossing, steps, zone}
use Rattle.routes.specs.inner.Orders.{NamesOnce, OnlyVisitors}
use Rattle.crossing.specs.inner.Tables.{LeftSet}

pub record Standing (X : Crossing) (at left : List ℕ) : Type 0 where
  pub once : NamesOnce X
  pub only : OnlyVisitors X
  pub zone_below : (c j : ℕ) → j < steps X c → zone X c j < 24
  pub steps_most : (c : ℕ) → steps X c ≤ 8
  pub left_is : (z : ℕ) → LeftSet X at z (get_or left z 0)
