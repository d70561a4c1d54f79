-- Reading as one pass over the bytes: what the reader's inner functions are held to. Each definition is the rest of the work from a place on.
-- proofs/Agrees.antt shows that the whole pass is the table's answer, `read_sheet`.
use Rattle.std.specs.Prelude.{ℕ, zero, suc, ◌+◌, List, replicate}
use Rattle.fields.specs.Field.{outside}
use Rattle.fields.specs.inner.Field.{taking}
use Rattle.sheet.specs.Checks.{is_gap, is_cart_count}
use Rattle.sheet.specs.Reading.{blank, sheet_refused}
use Rattle.sheet.specs.declared.Sheet.{Sheet}
use Rattle.sheet.specs.declared.SheetRead.{SheetRead}
use Rattle.sheet_filling.specs.inner.Filled.{made, parts_of, with_gaps}
use Rattle.opening.specs.inner.Opening.{opening_at, on_opening}
use Rattle.sheet_carts.specs.inner.Scan.{carts_from}

-- ---- what a count does to the sheet

abbrev pub with_zones : Sheet → ℕ → Sheet
with_zones sh n = made n sh.carts (parts_of sh)

abbrev pub with_carts : Sheet → ℕ → Sheet
with_carts sh m = made sh.zones m (parts_of sh)

-- ---- the rest of the work, from the last field to the first

-- the cart count, and what follows it
unfoldable pub count_from : List ℕ → Sheet → ℕ → SheetRead
count_from s sh at =
    taking sheet_refused 1 s 1 (outside at) 6 is_cart_count λ m next.
    carts_from s m 0 (with_carts sh m) (replicate 16 0) next.at

-- the gaps of n zones from z on; then the cart count
unfoldable pub zones_from : List ℕ → ℕ → ℕ → Sheet → ℕ → SheetRead
zones_from s zero z sh at = count_from s sh at
zones_from s (suc n) z sh at =
    taking sheet_refused 1 s 2 (outside at) 5 is_gap λ follow c2.
    taking sheet_refused 1 s 2 c2 5 is_gap λ cross c3.
    zones_from s n (z + 1) (with_gaps sh z follow cross) c3.at

-- the whole pass: version, length, zone count, zones, cart count, carts
unfoldable pub scan : List ℕ → SheetRead
scan s = on_opening sheet_refused (opening_at s 1 1 24) λ n c. zones_from s n 0 (with_zones blank n) c.at
