-- The trial of a group of ranks over tables: what is asked of them, and what they hold after it.
use Rattle.std.specs.Prelude.{ℕ, ◌≤◌, ◌≡◌, Bool, true, false, List, length}
use Rattle.std.proofs.Math.Option.{none, some}
use Rattle.words.specs.Limits.{most_time}
use Rattle.sheet_table.specs.inner.Parts as parts
use Rattle.judge_entering.specs.inner.Times.{AtMost}
use Rattle.removal.specs.Pairs.{Unplanned, Order}
use Rattle.removal.specs.inner.Solved.{SolvedBelow}
use Rattle.removal.specs.Removal.{trial}
use Rattle.planner_orders.specs.inner.Unplanned.{unplanned_of, SheetSized}
use Rattle.planner_orders.specs.inner.Holds.{Holds}
use Rattle.planner_groups.specs.inner.Pairs.{HasRanks, HasPairs}
use Rattle.planner_visiting.specs.inner.Visiting.{RoutesOnce, Places}
use Rattle.sheet_table.specs.declared.Table.{Table}

-- the tables of a sheet, and what is worked out once for it, tell of U: its routes, times, ranks, pairs and places of steps
pub record Told (U : Unplanned) (sheet : Table) (ranks pairs visit : List ℕ) : Type 0 where
  pub is : U ≡ unplanned_of sheet U.zones U.carts
  pub sheet_sized : SheetSized U
  pub has_ranks : HasRanks U ranks
  pub has_pairs : HasPairs U pairs
  pub routed : RoutesOnce (parts.steps sheet) (parts.zone sheet)
  pub places : Places (parts.steps sheet) (parts.zone sheet) visit
  pub steps_16 : length (parts.steps sheet) ≡ 16
  -- also of unused entries
  pub zone_most : AtMost 23 (parts.zone sheet)
  pub passing_most : AtMost most_time (parts.passing sheet)

-- the ranks below `low` are solved with these orders, and the tables hold them
pub record Solved (U : Unplanned) (low : ℕ) (decided : List Order) (ahead behind undecided : List ℕ) : Type 0 where
  pub below : SolvedBelow U low decided
  pub holds : Holds U low low decided ahead behind undecided

-- the trial of the group gave its orders, and the tables hold them with the ranks below `high` solved; or it gave none,
-- "the group's decisions are dropped", and they hold what they held
pub record TriedAs (U : Unplanned) (low high : ℕ) (decided : List Order) (ahead behind undecided : List ℕ) (found : Bool) : Type 0 where
  pub some_orders : found ≡ true
      → ((all : List Order) × ((trial U low high decided ≡ some all) × Solved U high all ahead behind undecided))
  pub no_orders : found ≡ false → (trial U low high decided ≡ none) × Solved U low decided ahead behind undecided

module _ (sheet : Table) (ranks pairs visit : List ℕ) (low high : ℕ) (ahead behind undecided : List ℕ) where
  -- what is asked of the tables: some U that they tell of, with the ranks below the group solved
  pub record Triable : Type 0 where
    pub rising : low ≤ high
    pub U : Unplanned
    pub told : Told U sheet ranks pairs visit
    pub decided : List Order
    pub solved : Solved U low decided ahead behind undecided

  -- what the trial says of every U that the tables tell of
  pub record Tries (ahead' behind' undecided' : List ℕ) (found : Bool) : Type 0 where
    pub tried : (U : Unplanned) → Told U sheet ranks pairs visit
        → (decided : List Order) → Solved U low decided ahead behind undecided → TriedAs U low high decided ahead' behind' undecided' found
