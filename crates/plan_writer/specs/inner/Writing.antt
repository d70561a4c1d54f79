-- What writing orders into a room asks of them.
use Rattle.std.specs.Prelude.{ℕ, ◌≤◌, ◌<◌, List, length}
use Rattle.plan.specs.Written.{count, listed, written}
use Rattle.plan.specs.declared.Orders.{Orders}

-- a zone's list of at most 16 carts, each a byte
pub record WritableList (orders : Orders) (z : ℕ) : Type 0 where
  pub few : count orders z ≤ 16
  pub byte : (k : ℕ) → k < count orders z → listed orders z k < 256

-- the orders of n zones, and a room that is long enough for their plan
pub record Writable (n : ℕ) (orders : Orders) (room : List ℕ) : Type 0 where
  pub zones : n ≤ 24
  pub list : (z : ℕ) → z < n → WritableList orders z
  pub fits : length (written n orders) ≤ length room
