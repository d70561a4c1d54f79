-- Entering a zone as the tables tell it: as soon as the cart is ready and clear of every cart ahead.
use Rattle.std.specs.Prelude.{ℕ, ◌+◌, ◌*◌, ◌≤◌, ◌<◌, max, ◌≡◌, true, List, get_or, eqb}
use Rattle.words.specs.Lists.{pick}
use Rattle.words.specs.Limits.{most_time}
use Rattle.words.specs.inner.Limits.{latest_leaving}
use Rattle.sets.specs.inner.Member.{has}
use Rattle.times.specs.Times.{largest, gap}
use Rattle.sheet_table.specs.inner.Parts.{follow, cross, lane, zone}
use Rattle.crossing.specs.inner.Tables.{given_of}
use Rattle.sheet_table.specs.declared.Table.{Table}

-- "that cart's leaving time plus the zone's gap"; the leaving time of cart d from zone z stands at 16 * z + d
abbrev pub clear_by : List ℕ → ℕ → ℕ → ℕ → ℕ
clear_by leave z gap d = get_or leave (16 * z + d) 0 + gap

-- the same with the sheet's gap for cart c behind cart d
abbrev pub clear_of : Table → List ℕ → ℕ → ℕ → ℕ → ℕ
clear_of sheet leave z c d = clear_by leave z (gap (given_of sheet) z d c) d

-- the latest of a time and the times that a rule gives to the members of a set
unfoldable pub latest : (ℕ → ℕ) → ℕ → ℕ → ℕ
latest rule members time = max time (largest (λ d. pick (has members d) (rule d) 0) 16)

-- no time of a table is past `most`
abbrev pub AtMost : ℕ → List ℕ → Type 0
AtMost most table = (x : ℕ) → get_or table x 0 ≤ most

-- what entering the zone of cart c's step at x asks of the tables
pub record Enterable (sheet : Table) (ahead : List ℕ) (mates : ℕ) (leave : List ℕ) (x c : ℕ) : Type 0 where
  pub step_128 : x < 128
  pub cart_16 : c < 16
  pub zone_24 : get_or (zone sheet) x 0 < 24
  pub mates_are : (d : ℕ) → has (get_or ahead x 0) d ≡ true → has mates d ≡ eqb (get_or (lane sheet) d 0) (get_or (lane sheet) c 0)
  pub follow_most : AtMost most_time (follow sheet)
  pub cross_most : AtMost most_time (cross sheet)
  pub leave_most : AtMost latest_leaving leave
