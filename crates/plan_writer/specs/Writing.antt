-- A plan read, and written again into lent room.
use Rattle.std.specs.Prelude.{ℕ, List, [], ◌∷◌, ◌++◌, length, drop, leb}
use Rattle.words.specs.Checks.{Check, check, done, first_failing}
use Rattle.words.specs.declared.Outcome.{Outcome}
use Rattle.sheet.specs.Reading.{sheet_of}
use Rattle.plan.specs.Reading.{orders_of, reading_checks}
use Rattle.plan.specs.Valid.{plan_length}
use Rattle.plan.specs.Written.{written}
use Rattle.plan_writer.specs.declared.PlanWritten.{PlanWritten}

-- "writing it again 1 to 21 and 28": "Planning and writing need exactly the plan's length in room"
abbrev pub writing_checks : List ℕ → List ℕ → ℕ → List Check
writing_checks s p room = reading_checks s p ++ (check 28 0 (leb (plan_length (sheet_of s)) room) ∷ [])

abbrev pub not_written : Outcome → PlanWritten
not_written outcome = record { outcome = outcome; length = 0 }

abbrev pub wrote : List ℕ → PlanWritten
wrote s = record { outcome = done; length = plan_length (sheet_of s) }

-- the room with the plan at its start: "bytes beyond are untouched"
abbrev pub with_plan : List ℕ → List ℕ → List ℕ → List ℕ
with_plan s p room = written (sheet_of s).zones (orders_of (sheet_of s) p) ++ drop (plan_length (sheet_of s)) room

-- what writing again answers, with room for so many bytes
unfoldable pub write_again : List ℕ → List ℕ → ℕ → PlanWritten
write_again s p room = first_failing not_written (wrote s) (writing_checks s p room)

-- what the room then holds: on refusal what it held
unfoldable pub room_after : List ℕ → List ℕ → List ℕ → List ℕ
room_after s p room = first_failing (λ _. room) (with_plan s p room) (writing_checks s p (length room))
