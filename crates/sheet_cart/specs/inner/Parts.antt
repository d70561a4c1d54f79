-- A cart's head and one step of its route, as one pass over the bytes meets them.
use Rattle.std.specs.Prelude.{ℕ, Bool, List, leb, ltb, Result, Ok, Err}
use Rattle.words.specs.Lists.{pick}
use Rattle.fields.specs.inner.Field.{refused_at, taking}
use Rattle.fields.specs.declared.Cursor.{Cursor}
use Rattle.sheet.specs.Checks.{is_lane, is_arrival, is_step_count, is_passing, most_travel}
use Rattle.words.specs.declared.Outcome.{Outcome}
use Rattle.sheet_cart.specs.declared.CartHead.{CartHead}
use Rattle.sheet_cart.specs.declared.Step.{Step}

-- lane, arrival and step count of the cart at c
unfoldable pub head_at : List ℕ → Cursor → Result (CartHead × Cursor) Outcome
head_at s c =
    taking Err 1 s 1 c 7 is_lane λ lane c2.
    taking Err 1 s 4 c2 8 is_arrival λ arrival c3.
    taking Err 1 s 1 c3 9 is_step_count λ steps c4.
    Ok (record { lane = lane; arrival = arrival; place = c2.at; steps = steps }, c4)

-- step j of k at c, of a route whose earlier steps name the zones that pass the test; n zones
unfoldable pub step_at : List ℕ → ℕ → (ℕ → Bool) → ℕ → ℕ → Cursor → Result (Step × Cursor) Outcome
step_at s n named j k c =
    taking Err 1 s 1 c 10 (λ z. ltb z n) λ z c2.
    pick (named z) (Err (refused_at 11 c))
    (taking Err 1 s 2 c2 12 is_passing λ p c3.
    taking Err 1 s 2 c3 12 (λ t. leb t (most_travel j k)) λ t c4.
    Ok (record { zone = z; passing = p; travel = t }, c4))
