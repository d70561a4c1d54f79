-- The tables at the start, before any group is opened: carts of one lane go by number, and no pair is ordered.
use Rattle.std.specs.Prelude.{ℕ, ◌/◌, ◌%◌, ◌≡◌, List, [], get_or, replicate, ltb}
use Rattle.words.specs.Lists.{pick}
use Rattle.sheet_table.specs.inner.Parts as parts
use Rattle.judge_entering.specs.inner.Times.{AtMost}
use Rattle.plan_lists.specs.inner.Sets.{Routes, who_visits}
use Rattle.planner_orders.specs.inner.Unplanned.{unplanned_of, SheetSized}
use Rattle.planner_orders.specs.inner.Holds.{Holds}
use Rattle.planner_groups.specs.inner.Pairs.{HasPairs}
use Rattle.sheet_table.specs.declared.Table.{Table}

-- the visitors of the zone of the step at x; none where no step stands there
abbrev pub visiting_at : Table → List ℕ → ℕ → ℕ
visiting_at sheet visitors x = pick (ltb (x % 8) (get_or (parts.steps sheet) (x / 8) 0)) (get_or visitors (get_or (parts.zone sheet) x 0) 0) 0

-- what is lent: the sheet, with routes and lanes in range, and who visits each zone
pub record Lent (sheet : Table) (visitors : List ℕ) : Type 0 where
  pub routes : Routes (parts.steps sheet) (parts.zone sheet)
  pub lane_most : AtMost 15 (parts.lane sheet)
  pub visitors_are : visitors ≡ who_visits (parts.steps sheet) (parts.zone sheet)

-- the tables hold the start
pub record Starts (sheet : Table) (ahead behind pairs : List ℕ) : Type 0 where
  pub holds : (zones carts : ℕ) → SheetSized (unplanned_of sheet zones carts)
      → Holds (unplanned_of sheet zones carts) 0 0 [] ahead behind (replicate 128 0) × HasPairs (unplanned_of sheet zones carts) pairs
