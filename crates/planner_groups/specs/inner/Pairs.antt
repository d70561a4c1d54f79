-- What is worked out once for a sheet, as tables: each cart's rank, and for each step the carts with which it is a pair.
use Rattle.std.specs.Prelude.{ℕ, ◌+◌, ◌*◌, ◌≤◌, ◌<◌, ◌≡◌, List, length, get_or}
use Rattle.sets.specs.inner.Member.{has}
use Rattle.routes.specs.Crossing.{steps, zone}
use Rattle.removal.specs.Pairs.{Unplanned, rank, is_pair}
use Rattle.planner_orders.specs.inner.Unplanned.{unordered}

module _ (U : Unplanned) where
  pub record HasRanks (ranks : List ℕ) : Type 0 where
    pub at_cart : (c : ℕ) → c < U.carts → get_or ranks c 0 ≡ rank U c

  -- step j of cart c stands at 8 * c + j; unused entries are 0
  pub record HasPairs (pairs : List ℕ) : Type 0 where
    pub pairs_128 : length pairs ≡ 128
    pub at_step : (c j d : ℕ) → j < steps (unordered U) c → has (get_or pairs (8 * c + j) 0) d ≡ is_pair U (zone (unordered U) c j) d c
    pub unused : (c j : ℕ) → j < 8 → steps (unordered U) c ≤ j → get_or pairs (8 * c + j) 0 ≡ 0
