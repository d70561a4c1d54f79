-- The steps as far as they are read, as tables: a row of 8 for each cart, filled one after the other.
use Prim.Native.Nat.{ℕ, ◌+◌, ◌*◌, ◌<◌}
use mathlib.Core.Path.{◌≡◌, refl}
use mathlib.Core.List.{List}
use native.Mathlib.Omega.{arith}
use lib.ListN.{set, replicate}
use Rattle.words.proofs.Rows.{front, front_none, front_put, front_next, front_all}
use Rattle.sheet.specs.Layout.{cart_count, step_count}
use Rattle.sheet.specs.Reading.{step_table}

module _ (s : List ℕ) where
  -- all steps of the carts below i, and the steps below j of cart i
  abbrev pub passed : ℕ → ℕ → (ℕ → ℕ → ℕ) → List ℕ
  passed i j rule = front 128 8 (step_count s) rule i j

  module _ (rule : ℕ → ℕ → ℕ) where
    pub passed_none : replicate 128 0 ≡ passed 0 0 rule
    passed_none = front_none 128 8 (step_count s) rule

    pub passed_put : (i j : ℕ) → i < 16 → j < 8 → set (passed i j rule) (8 * i + j) (rule i j) ≡ passed i (j + 1) rule
    passed_put i j hi hj = front_put 128 8 (step_count s) rule i j (omega arith) hj

    -- the last step of cart i ends it
    pub passed_cart : (i : ℕ) → passed i (step_count s i) rule ≡ passed (i + 1) 0 rule
    passed_cart i = front_next 128 8 (step_count s) rule i (step_count s i) refl

    -- the steps of all carts are the sheet's
    pub passed_all : passed (cart_count s) 0 rule ≡ step_table s rule
    passed_all = front_all 128 8 (step_count s) rule (cart_count s)
