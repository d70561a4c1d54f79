-- A field as a scan takes it: there with its value and the next cursor, or cut.
use Rattle.std.specs.Prelude.{ℕ, ◌+◌, Bool, List, Option, Some, None}
use Rattle.words.specs.Lists.{pick}
use Rattle.words.specs.Checks.{refused}
use Rattle.words.specs.inner.Checks.{named}
use Rattle.words.specs.declared.Outcome.{Outcome}
use Rattle.fields.specs.declared.Cursor.{Cursor}
use Rattle.fields.specs.Field.{value, is_there}

-- the cursor w bytes further, in the same cart and step
abbrev pub past : Cursor → ℕ → Cursor
past c w = record { at = c.at + w; cart = c.cart; step = c.step }

-- the refusal of what stands at a cursor
abbrev pub refused_at : ℕ → Cursor → Outcome
refused_at number c = named (refused number c.at) c.cart c.step

-- the field of w bytes at a cursor
unfoldable pub field_at : List ℕ → ℕ → Cursor → Option (ℕ × Cursor)
field_at s w c = pick (is_there s c.at w) (Some (value s c.at w, past c w)) None

-- what each case of the answer says: the value and the next cursor, to go on with, or `cut` at the field
abbrev pub on_field : {R : Type 0} → (Outcome → R) → ℕ → Cursor → Option (ℕ × Cursor) → (ℕ → Cursor → R) → R
on_field refuse cut c (Some (v, next)) go = go v next
on_field refuse cut c None go = refuse (refused_at cut c)

-- one field of a scan: there, else cut; passing, else refused with its number; then on with its value and the next cursor
unfoldable pub taking : {R : Type 0} → (Outcome → R) → ℕ → List ℕ → ℕ → Cursor → ℕ → (ℕ → Bool) → (ℕ → Cursor → R) → R
taking refuse cut s w c number passes go =
    on_field refuse cut c (field_at s w c) λ v next.
    pick (passes v) (go v next) (refuse (refused_at number c))
