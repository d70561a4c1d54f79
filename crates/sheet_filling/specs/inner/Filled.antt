-- The sheet that a table stands for, and what storing a zone's gaps, a cart or a step makes of it.
use Rattle.std.specs.Prelude.{ℕ, ◌≤◌, ◌≡◌, List, [], ◌∷◌, length, get_or, set}
use Rattle.sheet.specs.declared.Sheet.{Sheet}
use Rattle.sheet_table.specs.inner.Parts as parts
use Rattle.sheet_table.specs.declared.Table.{Table}

-- a sheet of so many zones and carts, and of its parts in document 01's order
abbrev pub made : ℕ → ℕ → List (List ℕ) → Sheet
made zones carts l =
    record {
      zones = zones;
      follow = get_or l 0 [];
      cross = get_or l 1 [];
      carts = carts;
      lane = get_or l 2 [];
      arrival = get_or l 3 [];
      steps = get_or l 4 [];
      zone = get_or l 5 [];
      passing = get_or l 6 [];
      travel = get_or l 7 [];
    }

abbrev pub parts_of : Sheet → List (List ℕ)
parts_of sheet =
    sheet.follow ∷ sheet.cross ∷ sheet.lane ∷ sheet.arrival ∷ sheet.steps ∷ sheet.zone ∷ sheet.passing ∷ sheet.travel ∷ []

abbrev pub parts_in : Table → List (List ℕ)
parts_in table =
    parts.follow table
    ∷ parts.cross table
    ∷ parts.lane table
    ∷ parts.arrival table
    ∷ parts.steps table
    ∷ parts.zone table
    ∷ parts.passing table
    ∷ parts.travel table
    ∷ []

-- the sheet that a table stands for, with so many zones and carts
abbrev pub sheet_in : ℕ → ℕ → Table → Sheet
sheet_in zones carts table = made zones carts (parts_in table)

-- entry i of part k stored
abbrev pub stored : List (List ℕ) → ℕ → ℕ → ℕ → List (List ℕ)
stored l k i v = set l k (set (get_or l k []) i v)

abbrev pub with_gaps : Sheet → ℕ → ℕ → ℕ → Sheet
with_gaps sheet z follow cross = made sheet.zones sheet.carts (stored (stored (parts_of sheet) 0 z follow) 1 z cross)

abbrev pub with_cart : Sheet → ℕ → ℕ → ℕ → ℕ → Sheet
with_cart sheet c lane arrival steps =
    made sheet.zones sheet.carts (stored (stored (stored (parts_of sheet) 2 c lane) 3 c arrival) 4 c steps)

abbrev pub with_step : Sheet → ℕ → ℕ → ℕ → ℕ → Sheet
with_step sheet x zone passing travel =
    made sheet.zones sheet.carts (stored (stored (stored (parts_of sheet) 5 x zone) 6 x passing) 7 x travel)

-- n entries, each at most this
pub record Entries (n most : ℕ) (l : List ℕ) : Type 0 where
  pub count : length l ≡ n
  pub range : (i : ℕ) → get_or l i 0 ≤ most
