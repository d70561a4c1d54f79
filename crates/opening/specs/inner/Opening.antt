-- What a sheet and a plan begin with, as one pass over the bytes meets it: version, length, zone count.
use Rattle.std.specs.Prelude.{ℕ, ◌+◌, Bool, ◌&&◌, List, length, leb, eqb, Result, Ok, Err}
use Rattle.words.specs.declared.Outcome.{Outcome}
use Rattle.fields.specs.Field.{outside}
use Rattle.fields.specs.inner.Field.{taking}
use Rattle.fields.specs.declared.Cursor.{Cursor}
use Rattle.sheet.specs.Checks.{is_one}

abbrev pub is_between : ℕ → ℕ → ℕ → Bool
is_between least most n = leb least n && leb n most

-- with a zone count that passes; the numbers of the checks follow each other from that of a cut field on
unfoldable pub opening_by : List ℕ → ℕ → (ℕ → Bool) → Result (ℕ × Cursor) Outcome
opening_by s first passes =
    taking Err first s 1 (outside 0) (first + 1) is_one λ version c.
    taking Err first s 2 c (first + 2) (λ total. eqb total (length s)) λ total c2.
    taking Err first s 1 c2 (first + 3) passes λ n c3.
    Ok (n, c3)

-- with zones from least to most
abbrev pub opening_at : List ℕ → ℕ → ℕ → ℕ → Result (ℕ × Cursor) Outcome
opening_at s first least most = opening_by s first (is_between least most)

-- what each case of the answer says: the zone count and the next cursor, to go on with, or the refusal
abbrev pub on_opening : {R : Type 0} → (Outcome → R) → Result (ℕ × Cursor) Outcome → (ℕ → Cursor → R) → R
on_opening refuse (Ok (n, next)) go = go n next
on_opening refuse (Err outcome) go = refuse outcome
