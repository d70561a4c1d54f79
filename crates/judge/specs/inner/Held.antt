-- A sheet in a table, and orders, as they were read: what judging over the table asks and says, whatever the numbers of zones and carts are.
use Rattle.std.specs.Prelude.{ℕ, List, ◌≡◌, length}
use Rattle.sheet.specs.Valid.{Valid}
use Rattle.plan.specs.Valid.{ValidOrders}
use Rattle.plan.specs.declared.Orders.{Orders}
use Rattle.sheet_filling.specs.inner.Filled.{sheet_in}
use Rattle.words.specs.Checks.{first_failing}
use Rattle.sheet.specs.declared.Sheet.{Sheet}
use Rattle.judge.specs.declared.Judged.{Judged}
use Rattle.judge.specs.Judging.{judged, verdict_checks, judge_refused, with_times}
use Rattle.sheet_table.specs.declared.Table.{Table}

module _ (sheet : Sheet) (orders : Orders) where
  -- readable orders judged, with these words lent: the answer, and what the words then hold
  abbrev pub JudgedAs : List ℕ → Judged → List ℕ → Type 0
  JudgedAs words answer after =
      (answer ≡ first_failing (judge_refused sheet orders) (judged sheet orders) (verdict_checks sheet orders (length words)))
      × (after ≡ first_failing (λ _. words) (with_times sheet orders words) (verdict_checks sheet orders (length words)))

pub record HeldIn (table : Table) (orders : Orders) : Type 0 where
  pub zones : ℕ
  pub carts : ℕ
  pub valid : Valid (sheet_in zones carts table)
  pub valid_orders : ValidOrders (sheet_in zones carts table) orders

abbrev pub JudgedIn : Table → Orders → List ℕ → Judged → List ℕ → Type 0
JudgedIn table orders words answer after =
    (zones carts : ℕ) → Valid (sheet_in zones carts table) → ValidOrders (sheet_in zones carts table) orders
    → JudgedAs (sheet_in zones carts table) orders words answer after
