-- Request #104, beside the table: which cart and step a refusal tells, by where its place lies in the layout.
use Rattle.std.specs.Prelude.{ℕ, ◌+◌, ◌≤◌, ◌<◌, ◌≡◌, List, ◌↔◌}
use Rattle.words.specs.declared.Outcome.{Outcome}
use Rattle.sheet.specs.Layout.{cart_count, cart_at, step_count, zone_at}

-- a refusal of the sheet: "from 1 to 14"
abbrev pub OfSheet : Outcome → Type 0
OfSheet o = (1 ≤ o.number) × (o.number ≤ 14)

module _ (s : List ℕ) where
  -- "inside a cart's part of the sheet"
  pub record LiesInCart (i place : ℕ) : Type 0 where
    pub present : i < cart_count s
    pub from : cart_at s i ≤ place
    pub before : place < cart_at s (i + 1)

  -- "inside a step"
  pub record LiesInStep (i j place : ℕ) : Type 0 where
    pub inside_cart : LiesInCart i place
    pub present : j < step_count s i
    pub from : zone_at s i j ≤ place
    pub before : place < zone_at s i (j + 1)

  pub record Told (o : Outcome) : Type 0 where
    -- "that cart's number plus one"
    pub which_cart : OfSheet o → (i : ℕ) → (o.cart ≡ i + 1) ↔ LiesInCart i o.place
    -- "and its step plus one when it is inside a step, else 0"
    pub which_step : OfSheet o → (j : ℕ) → (o.step ≡ j + 1) ↔ ((i : ℕ) × LiesInStep i j o.place)
    -- "For 13 both are 0; for 14 the step is 0."
    pub after_carts : o.number ≡ 13 → (o.cart ≡ 0) × (o.step ≡ 0)
    pub at_arrival : o.number ≡ 14 → o.step ≡ 0
    pub others : (OfSheet o → ⊥) → (o.cart ≡ 0) × (o.step ≡ 0)
