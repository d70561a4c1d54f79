-- Every entry of a valid sheet's steps, used or not, is in the range of its field.
use Prim.Native.Nat.{ℕ, ◌+◌, ◌*◌, ◌/◌, ◌%◌, ◌≤◌, ◌<◌}
use mathlib.Core.Path.{◌≡◌}
use native.Mathlib.Omega.{arith}
use native.Mathlib.Decide.{dec_lt}
use lib.ListN.{get_or}
use Rattle.words.specs.Limits.{most_time}
use Rattle.sheet.specs.Valid.{steps, Valid, ValidStep}
use Rattle.sheet.specs.declared.Sheet.{Sheet}
use Rattle.sheet_filling.specs.inner.Filled.{Entries}

-- what holds of all entries, where step j of cart i stands at 8 * i + j
by_step : (P : ℕ → Type 0) → ((i j : ℕ) → j < 8 → P (8 * i + j)) → (x : ℕ) → P x
by_step P h x = let is : 8 * (x / 8) + x % 8 ≡ x = omega arith in rw is at (h (x / 8) (x % 8) (omega arith))

module _ (sheet : Sheet) (v : Valid sheet) where
  pub steps_entries : Entries 16 255 sheet.steps
  steps_entries = record {
    count = v.shaped.steps_16;
    range = λ i. elim (dec_lt i sheet.carts) [ yes l ↦ omega (arith, (v.cart i l).steps_most) | no n ↦ omega (arith, v.unused.no_steps i (omega arith)) ];
  }

  -- a step is one of a cart's
  step_valid : (i j : ℕ) → j < steps sheet i → ValidStep sheet i j
  step_valid i j l =
      elim (dec_lt i sheet.carts) [ yes h ↦ (v.cart i h).step j l | no n ↦ absurd (omega (arith, v.unused.no_steps i (omega arith))) ]

  pub zone_entries : Entries 128 255 sheet.zone
  zone_entries = record {
    count = v.shaped.zone_128;
    range = by_step (λ x. get_or sheet.zone x 0 ≤ 255) λ i j m. elim (dec_lt j (steps sheet i))
        [ yes l ↦ omega (arith, (step_valid i j l).zone_below, v.zones_most) | no n ↦ omega (arith, v.unused.no_zone i j m (omega (arith, n))) ];
  }

  pub passing_entries : Entries 128 most_time sheet.passing
  passing_entries = record {
    count = v.shaped.passing_128;
    range = by_step (λ x. get_or sheet.passing x 0 ≤ most_time) λ i j m. elim (dec_lt j (steps sheet i))
        [ yes l ↦ (step_valid i j l).passing_most | no n ↦ omega (arith, v.unused.no_passing i j m (omega (arith, n))) ];
  }

  pub travel_entries : Entries 128 most_time sheet.travel
  travel_entries = record {
    count = v.shaped.travel_128;
    range = by_step (λ x. get_or sheet.travel x 0 ≤ most_time) λ i j m. elim (dec_lt j (steps sheet i))
        [ yes l ↦ (step_valid i j l).travel_most | no n ↦ omega (arith, v.unused.no_travel i j m (omega (arith, n))) ];
  }
