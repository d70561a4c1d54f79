-- The carts of a sheet and what follows them, as one pass meets them. Each definition is the rest of the work from a place on.
use Rattle.std.specs.Prelude.{ℕ, zero, suc, ◌+◌, ◌*◌, Bool, false, ◌&&◌, ◌||◌, List, length, get_or, set, ltb, eqb, Result, Ok, Err}
use Rattle.words.specs.Lists.{pick, any_below}
use Rattle.words.specs.Checks.{refused}
use Rattle.fields.specs.Field.{in_cart, in_step}
use Rattle.fields.specs.inner.Field.{refused_at}
use Rattle.fields.specs.declared.Cursor.{Cursor}
use Rattle.sheet.specs.Reading.{sheet_refused, sheet_done}
use Rattle.sheet.specs.declared.Sheet.{Sheet}
use Rattle.sheet.specs.declared.SheetRead.{SheetRead}
use Rattle.sheet_filling.specs.inner.Filled.{with_cart, with_step}
use Rattle.sheet_cart.specs.inner.Parts.{head_at, step_at}
use Rattle.sheet_cart.specs.declared.CartHead.{CartHead}
use Rattle.words.specs.declared.Outcome.{Outcome}
use Rattle.sheet_cart.specs.declared.Step.{Step}

-- ---- what a head and a step do to the sheet

abbrev pub put_cart : Sheet → ℕ → CartHead → Sheet
put_cart sh i h = with_cart sh i h.lane h.arrival h.steps

abbrev pub put_step : Sheet → ℕ → Step → Sheet
put_step sh x step = with_step sh x step.zone step.passing step.travel

-- ---- the rest of the work, from the last field to the first

-- whether cart i arrives before a lower-numbered one of its lane
abbrev pub early : List ℕ → List ℕ → ℕ → Bool
early lane arrival i =
    any_below (λ e. eqb (get_or lane e 0) (get_or lane i 0) && ltb (get_or arrival i 0) (get_or arrival e 0)) i

-- the arrivals of the carts from i on, n of them, whose places are given
unfoldable pub lanes_from : Sheet → List ℕ → ℕ → ℕ → SheetRead
lanes_from sh spot zero i = sheet_done sh
lanes_from sh spot (suc n) i =
    pick (early sh.lane sh.arrival i) (sheet_refused (refused_at 14 (in_cart i (get_or spot i 0)))) (lanes_from sh spot n (i + 1))

-- after all fields: 13, then 14
unfoldable pub finish : List ℕ → Sheet → List ℕ → ℕ → SheetRead
finish s sh spot at = pick (eqb at (length s)) (lanes_from sh spot sh.carts 0) (sheet_refused (refused 13 at))

-- what each case of the answers says, of a head and of a step: what is read and the next cursor, to go on with, or the refusal
abbrev pub on_part : {A : Type 0} → Result (A × Cursor) Outcome → (A → Cursor → SheetRead) → SheetRead
on_part (Ok (part, next)) go = go part next
on_part (Err outcome) go = sheet_refused outcome

-- n steps from j on, of the k that cart i has, where those before name the zones that pass the test; then on
unfoldable pub steps_from : List ℕ → ℕ → ℕ → ℕ → ℕ → (ℕ → Bool) → Sheet → ℕ → (Sheet → ℕ → SheetRead) → SheetRead
steps_from s i k zero j named sh at go = go sh at
steps_from s i k (suc n) j named sh at go =
    on_part (step_at s sh.zones named j k (in_step i j at)) λ step next.
    steps_from s i k n (j + 1) (λ z. named z || eqb z step.zone) (put_step sh (8 * i + j) step) next.at go

-- n carts from i on, with the places of the arrivals so far; then what follows the carts
unfoldable pub carts_from : List ℕ → ℕ → ℕ → Sheet → List ℕ → ℕ → SheetRead
carts_from s zero i sh spot at = finish s sh spot at
carts_from s (suc n) i sh spot at =
    on_part (head_at s (in_cart i at)) λ h next.
    steps_from s i h.steps h.steps 0 (λ z. false) (put_cart sh i h) next.at λ sh' at'.
    carts_from s n (i + 1) sh' (set spot i h.place) at'
