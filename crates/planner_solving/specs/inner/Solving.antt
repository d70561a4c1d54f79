-- A group solved over tables: "the group is cut in two and each half is solved, lower ranks first".
use Rattle.std.specs.Prelude.{ℕ, ◌-◌, ◌<◌, List}
use Rattle.removal.specs.Pairs.{Unplanned, Order}
use Rattle.removal.specs.Removal.{solved}
use Rattle.planner_trials.specs.inner.Trying.{Told, Solved}
use Rattle.sheet_table.specs.declared.Table.{Table}

module _ (sheet : Table) (ranks pairs visit : List ℕ) (low high : ℕ) (ahead behind undecided : List ℕ) where
  -- the tables held the ranks below the group solved, and now hold the group's too; `depth` is any number above the group's size
  pub record Solves (ahead' behind' undecided' : List ℕ) : Type 0 where
    pub holds : (U : Unplanned) → Told U sheet ranks pairs visit
        → (decided : List Order) → Solved U low decided ahead behind undecided
        → (depth : ℕ) → high - low < depth → Solved U high (solved U depth low high decided) ahead' behind' undecided'
