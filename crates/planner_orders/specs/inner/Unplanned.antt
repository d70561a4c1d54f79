-- What is to be planned, as a sheet's tables say it, and what is asked of it.
use Rattle.std.specs.Prelude.{ℕ, ◌≤◌, Bool, false, List}
use Rattle.words.specs.Lists.{entries}
use Rattle.routes.specs.Crossing.{Crossing}
use Rattle.times.specs.inner.Times.{Ranged}
use Rattle.sheet.specs.declared.Sheet.{Sheet}
use Rattle.sheet_table.specs.inner.Parts as parts
use Rattle.crossing.specs.Plans.{route_of, given_by}
use Rattle.removal.specs.Pairs.{Unplanned, front_in}
use Rattle.removal.specs.inner.Plannable.{Plannable}
use Rattle.sheet_table.specs.declared.Table.{Table}

abbrev pub unplanned_by : List ℕ → List ℕ → List ℕ → List ℕ → List ℕ → List ℕ → List ℕ → List ℕ → ℕ → ℕ → Unplanned
unplanned_by steps zone lane arrival passing travel follow cross zones carts = record {
  routes = entries 16 0 (route_of steps zone);
  given = given_by lane arrival passing travel follow cross;
  zones = zones;
  carts = carts;
}

-- the same of a sheet's table
abbrev pub unplanned_of : Table → ℕ → ℕ → Unplanned
unplanned_of sheet zones carts =
    unplanned_by (parts.steps sheet) (parts.zone sheet) (parts.lane sheet) (parts.arrival sheet) (parts.passing sheet) (parts.travel sheet)
    (parts.follow sheet) (parts.cross sheet) zones carts

-- and of a sheet
abbrev pub sheet_unplanned : Sheet → Unplanned
sheet_unplanned sheet =
    unplanned_by sheet.steps sheet.zone sheet.lane sheet.arrival sheet.passing sheet.travel sheet.follow sheet.cross
    sheet.zones sheet.carts

-- the routes and the lanes, with a test of who goes before whom; and with no order present
abbrev pub ordered : Unplanned → (ℕ → ℕ → ℕ → Bool) → Crossing
ordered U before = record { routes = U.routes; front = front_in U; before = before }

abbrev pub unordered : Unplanned → Crossing
unordered U = ordered U (λ z d c. false)

-- it can be planned, and the sizes and times are a sheet's
pub record SheetSized (U : Unplanned) : Type 0 where
  pub able : Plannable U
  pub zones_most : U.zones ≤ 24
  pub carts_most : U.carts ≤ 16
  pub ranged : Ranged (unordered U) U.given
