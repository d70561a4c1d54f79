-- A table that holds a valid sheet stands for the sheet's crossing: what is proved of sheets holds of their tables, and no law is proved again.
use Prim.Native.Nat.{ℕ}
use mathlib.Core.Path.{◌≡◌, refl}
use mathlib.Core.List.{List}
use Rattle.routes.specs.inner.Orders.{OnlyVisitors}
use Rattle.sheet.specs.Valid.{Valid}
use Rattle.plan.specs.Valid.{ValidOrders}
use Rattle.plan.specs.declared.Orders.{Orders}
use Rattle.crossing.specs.inner.Sound.{Sound}
use Rattle.crossing.specs.inner.Tables.{crossing_of, given_of, sheet_crossing}
use Rattle.crossing.specs.Plans.{sheet_given}
use Rattle.crossing.proofs.Sheets.{sheet_sound}
use Rattle.crossing.proofs.Plans.{plan_sound}
use Rattle.sheet_filling.specs.inner.Filled.{sheet_in}
use Rattle.sheet_table.specs.declared.Table.{Table}

module _ (n m : ℕ) (table : Table) where
  pub crossing_is : (ahead : List ℕ) → crossing_of table ahead ≡ sheet_crossing (sheet_in n m table) ahead
  crossing_is ahead = refl

  pub given_is : given_of table ≡ sheet_given (sheet_in n m table)
  given_is = refl

  -- what `settle` asks, whatever orders are present
  pub table_sound : Valid (sheet_in n m table) → (ahead : List ℕ) → OnlyVisitors (crossing_of table ahead) → Sound (crossing_of table ahead) (given_of table)
  table_sound v ahead only = sheet_sound (sheet_in n m table) v ahead only

  -- and of a readable plan
  pub table_plan_sound : (v : Valid (sheet_in n m table)) (orders : Orders) → ValidOrders (sheet_in n m table) orders
      → Sound (crossing_of table orders.ahead) (given_of table)
  table_plan_sound v orders w = plan_sound (sheet_in n m table) v orders w
