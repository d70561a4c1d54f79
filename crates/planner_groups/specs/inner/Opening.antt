-- A group of ranks opened: its pairs become undecided, and those with one rank in it and the other above get the lower rank first.
use Rattle.std.specs.Prelude.{ℕ, ◌≤◌, ◌≡◌, Bool, ◌&&◌, ◌||◌, List}
use Rattle.sets.specs.inner.Member.{has}
use Rattle.removal.specs.Pairs.{Unplanned, Order}
use Rattle.planner_orders.specs.inner.Holds.{Holds, Below}
use Rattle.planner_groups.specs.inner.Pairs.{HasRanks, HasPairs}

-- r is `old` and, where a test holds, what `more` shares with `among`
abbrev pub Joined : ℕ → ℕ → ℕ → Bool → ℕ → Type 0
Joined old more among on r = (d : ℕ) → has r d ≡ (has old d || (on && (has more d && has among d)))

-- the tables that hold the orders decided, with no group open, hold the group's start then
pub record Opens (low high : ℕ) (ranks pairs ahead behind undecided ahead' behind' undecided' : List ℕ) : Type 0 where
  pub holds : (U : Unplanned) (decided : List Order) → HasRanks U ranks → HasPairs U pairs → low ≤ high → Below U low decided
      → Holds U low low decided ahead behind undecided → Holds U low high decided ahead' behind' undecided'
