-- A table of sets of carts ahead that stands for orders: for each step the set of the carts that go before it. Step j of cart c stands at 8 * c + j.
use Rattle.std.specs.Prelude.{ℕ, ◌+◌, ◌*◌, ◌<◌, ◌≡◌, List, get_or}
use Rattle.sets.specs.inner.Member.{has}
use Rattle.routes.specs.Crossing.{Crossing, steps, zone}
use Rattle.removal.specs.Pairs.{Unplanned}
use Rattle.planner_orders.specs.inner.Unplanned.{unplanned_of, unordered, SheetSized}
use Rattle.sheet_table.specs.declared.Table.{Table}

pub record StandsFor (U : Unplanned) (X : Crossing) (ahead : List ℕ) : Type 0 where
  pub sheet_sized : SheetSized U
  pub ahead_is : (c j d : ℕ) → j < steps (unordered U) c → has (get_or ahead (8 * c + j) 0) d ≡ X.before (zone (unordered U) c j) d c

-- of the orders that a rule gives a sheet's table of n zones and m carts
abbrev pub StandsBy : (Unplanned → Crossing) → Table → ℕ → ℕ → List ℕ → Type 0
StandsBy rule sheet n m ahead = StandsFor (unplanned_of sheet n m) (rule (unplanned_of sheet n m)) ahead
