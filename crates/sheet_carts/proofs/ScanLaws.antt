-- One turn of each loop of the scan, over what is left: `m - i` of m carts, `k - j` of k steps.
use Prim.Native.Nat.{ℕ, ◌+◌, ◌-◌, ◌*◌, ◌≤◌, ◌<◌}
use mathlib.Core.Path.{◌≡◌}
use mathlib.Core.Bool.{Bool, true, false, ◌||◌}
use mathlib.Core.List.{List}
use lib.Dec.{eqb}
use lib.ListN.{length, get_or, set}
use borrow.Author.Tests.{eq-eqb, ne_eqb}
use Rattle.words.specs.Checks.{refused}
use Rattle.words.specs.declared.Outcome.{Outcome}
use Rattle.words.proofs.Left.{left_suc, left_zero}
use Rattle.fields.specs.Field.{in_cart, in_step}
use Rattle.fields.specs.inner.Field.{refused_at}
use Rattle.fields.specs.declared.Cursor.{Cursor}
use Rattle.sheet.specs.Reading.{sheet_refused, sheet_done}
use Rattle.sheet.specs.declared.Sheet.{Sheet}
use Rattle.sheet.specs.declared.SheetRead.{SheetRead}
use Rattle.sheet_cart.specs.inner.Parts.{head_at, step_at}
use Rattle.sheet_cart.specs.declared.CartHead.{CartHead}
use Rattle.sheet_cart.specs.declared.Step.{Step}
use Rattle.sheet_carts.specs.inner.Scan.{early, lanes_from, finish, steps_from, carts_from, put_cart, put_step}
use Rattle.std.specs.Prelude.{Ok, Err}

module _ (s : List ℕ) (m i : ℕ) (sh : Sheet) (spot : List ℕ) (at : ℕ) where
  pub carts_end : m ≤ i → carts_from s (m - i) i sh spot at ≡ finish s sh spot at
  unfolding carts_from
  carts_end h = rw (left_zero m i h)

  module _ (c : Cursor) (here : c ≡ in_cart i at) where
    pub carts_refused : i < m → (outcome : Outcome) → head_at s c ≡ Err outcome → carts_from s (m - i) i sh spot at ≡ sheet_refused outcome
    unfolding carts_from
    carts_refused h outcome e = rw (left_suc m i h, ← here, e)

    pub carts_head : i < m → (h : CartHead) (next : Cursor) → head_at s c ≡ Ok (h, next)
        → (named : ℕ → Bool) → named ≡ (λ z. false) → (put : Sheet) → put ≡ put_cart sh i h
        → carts_from s (m - i) i sh spot at ≡ steps_from s i h.steps h.steps 0 named put next.at
        (λ sh' at'. carts_from s (m - (i + 1)) (i + 1) sh' (set spot i h.place) at')
    unfolding carts_from
    carts_head l h next e named none put q = rw (left_suc m i l, ← here, e, none, q)

module _ (s : List ℕ) (i k j : ℕ) (named : ℕ → Bool) (sh : Sheet) (at : ℕ) (go : Sheet → ℕ → SheetRead) where
  pub steps_end : k ≤ j → steps_from s i k (k - j) j named sh at go ≡ go sh at
  unfolding steps_from
  steps_end h = rw (left_zero k j h)

  module _ (c : Cursor) (here : c ≡ in_step i j at) where
    pub steps_refused : j < k → (outcome : Outcome) → step_at s sh.zones named j k c ≡ Err outcome
        → steps_from s i k (k - j) j named sh at go ≡ sheet_refused outcome
    unfolding steps_from
    steps_refused h outcome e = rw (left_suc k j h, ← here, e)

    pub steps_next : j < k → (step : Step) (next : Cursor) → step_at s sh.zones named j k c ≡ Ok (step, next)
        → (more : ℕ → Bool) → more ≡ (λ z. named z || eqb z step.zone) → (put : Sheet) → put ≡ put_step sh (8 * i + j) step
        → steps_from s i k (k - j) j named sh at go ≡ steps_from s i k (k - (j + 1)) (j + 1) more put next.at go
    unfolding steps_from
    steps_next h step next e more with put q = rw (left_suc k j h, ← here, e, with, q)

module _ (s : List ℕ) (sh : Sheet) (spot : List ℕ) (at : ℕ) where
  pub finish_refused : (at ≡ length s → ⊥) → finish s sh spot at ≡ sheet_refused (refused 13 at)
  unfolding finish
  finish_refused n = rw (ne_eqb _ _ n)

  pub finish_lanes : at ≡ length s → finish s sh spot at ≡ lanes_from sh spot sh.carts 0
  unfolding finish
  finish_lanes e = rw (eq-eqb _ _ e)

module _ (sh : Sheet) (spot : List ℕ) (m i : ℕ) where
  pub lanes_refused : i < m → early sh.lane sh.arrival i ≡ true
      → lanes_from sh spot (m - i) i ≡ sheet_refused (refused_at 14 (in_cart i (get_or spot i 0)))
  unfolding lanes_from
  lanes_refused h e = rw (left_suc m i h, e)

  pub lanes_next : i < m → early sh.lane sh.arrival i ≡ false → lanes_from sh spot (m - i) i ≡ lanes_from sh spot (m - (i + 1)) (i + 1)
  unfolding lanes_from
  lanes_next h e = rw (left_suc m i h, e)

  pub lanes_end : m ≤ i → lanes_from sh spot (m - i) i ≡ sheet_done sh
  unfolding lanes_from
  lanes_end h = rw (left_zero m i h)

pub ruleset finishing = (finish_refused, finish_lanes, lanes_refused, lanes_next, lanes_end)
