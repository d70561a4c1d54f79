-- What the judge program takes: "a sheet, then a plan".
use Rattle.std.specs.Prelude.{ℕ, List, length, leb, Option, Some, None}
use Rattle.words.specs.Lists.{pick}
use Rattle.fields.specs.Field.{outside}
use Rattle.fields.specs.inner.Field.{field_at}
use Rattle.fields.specs.declared.Cursor.{Cursor}

-- "The sheet is as long as bytes 1 and 2 say; if these are missing or say more than was read, all of it is sheet and the plan is empty."
abbrev pub length_by : ℕ → Option (ℕ × Cursor) → ℕ
length_by all (Some (n, next)) = pick (leb n all) n all
length_by all None = all

unfoldable pub sheet_length : List ℕ → ℕ
sheet_length input = length_by (length input) (field_at input 2 (outside 1))
