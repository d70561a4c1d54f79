-- The tables of the orders present: what they hold while a group of ranks is solved. Step j of cart c stands at 8 * c + j.
use Rattle.std.specs.Prelude.{ℕ, ◌+◌, ◌*◌, ◌≤◌, ◌<◌, ◌≡◌, true, List, length, get_or}
use Rattle.sets.specs.inner.Member.{has}
use Rattle.routes.specs.Crossing.{steps, zone}
use Rattle.removal.specs.Pairs.{Unplanned, Order, is_decided, rank}
use Rattle.removal.specs.Present.{goes_before, is_undecided}
use Rattle.planner_orders.specs.inner.Unplanned.{unordered, SheetSized}

module _ (U : Unplanned) where
  module _ (low high : ℕ) (decided : List Order) where
    -- the sets of cart c's step in zone z: the carts ahead of it and behind it there, and those with which it is an undecided pair
    pub record StepHolds (z c ahead behind undecided : ℕ) : Type 0 where
      pub ahead_is : (d : ℕ) → has ahead d ≡ goes_before U low high decided z d c
      pub behind_is : (d : ℕ) → has behind d ≡ goes_before U low high decided z c d
      pub undecided_is : (d : ℕ) → has undecided d ≡ is_undecided U low high decided z d c

    -- the tables hold these sets for each step, and 0 for the others
    pub record Holds (ahead behind undecided : List ℕ) : Type 0 where
      pub sheet_sized : SheetSized U
      pub ahead_128 : length ahead ≡ 128
      pub behind_128 : length behind ≡ 128
      pub undecided_128 : length undecided ≡ 128
      pub at_step : (c j : ℕ) → j < steps (unordered U) c
          → StepHolds (zone (unordered U) c j) c (get_or ahead (8 * c + j) 0) (get_or behind (8 * c + j) 0) (get_or undecided (8 * c + j) 0)
      pub unused : (c j : ℕ) → j < 8 → steps (unordered U) c ≤ j
          → (get_or ahead (8 * c + j) 0 ≡ 0) × (get_or behind (8 * c + j) 0 ≡ 0) × (get_or undecided (8 * c + j) 0 ≡ 0)

  -- every order decided so far is of two carts with ranks below `low`
  pub record Below (low : ℕ) (decided : List Order) : Type 0 where
    pub both : (z d c : ℕ) → is_decided decided z d c ≡ true → (rank U d < low) × (rank U c < low)
