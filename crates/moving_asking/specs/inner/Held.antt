-- A sheet and a plan's orders in tables, as they were read: what a request over them asks and says, whatever lists the orders have.
use Rattle.std.specs.Prelude.{ℕ, ◌≡◌, List, Result, IfOk}
use Rattle.sheet.specs.Valid.{Valid}
use Rattle.plan.specs.Valid.{ValidOrders}
use Rattle.plan_reader.specs.inner.Scan.{orders_in}
use Rattle.sheet_filling.specs.inner.Filled.{sheet_in}
use Rattle.moving_record.specs.declared.Record.{Record}
use Rattle.words.specs.Checks.{done, first_failing}
use Rattle.words.specs.inner.Checks.{Leaves}
use Rattle.words.specs.declared.Outcome.{Outcome}
use Rattle.sheet.specs.declared.Sheet.{Sheet}
use Rattle.plan.specs.declared.Orders.{Orders}
use Rattle.crossing.specs.inner.Tables.{crossing_of}
use Rattle.judge_one_move.specs.inner.Standing.{Standing}
use Rattle.moving_asking.specs.declared.Asked.{Asked}
use Rattle.moving_asking.specs.Asking.{has_moved, record_checks, request_checks, not_moved}
use Rattle.sheet_table.specs.declared.Table.{Table}

module _ (sheet : Sheet) (orders : Orders) (lent : Record) (cart : ℕ) where
  -- what the checks of the record and the cart say
  abbrev pub tested_of : Outcome
  tested_of = first_failing (λ outcome. outcome) done (record_checks sheet orders lent cart)

  -- what is answered once the plan is read
  abbrev pub ask_of : Asked
  ask_of = first_failing (not_moved sheet orders lent cart) (has_moved lent cart) (request_checks sheet orders lent cart)

module _ (table : Table) (ahead : List ℕ) (carts : ℕ) where
  pub record Askable : Type 0 where
    pub zones : ℕ
    pub count : List ℕ
    pub list : List ℕ
    pub valid : Valid (sheet_in zones carts table)
    pub valid_orders : ValidOrders (sheet_in zones carts table) (orders_in count list ahead)

  -- the refusal; or no check fails, and the answer is for each zone the carts that have left it
  pub record TestedIn (lent : Record) (cart : ℕ) (tested : Result (List ℕ) Outcome) : Type 0 where
    pub outcome_is : (zones : ℕ) (count list : List ℕ) → Valid (sheet_in zones carts table)
        → ValidOrders (sheet_in zones carts table) (orders_in count list ahead)
        → Leaves (λ outcome. outcome) (tested_of (sheet_in zones carts table) (orders_in count list ahead) lent cart) (λ _. done) tested
    pub standing : IfOk tested (Standing (crossing_of table ahead) lent.position)

  abbrev pub AskedIn : Record → ℕ → Asked → Type 0
  AskedIn lent cart answer =
      (zones : ℕ) (count list : List ℕ) → Valid (sheet_in zones carts table) → ValidOrders (sheet_in zones carts table) (orders_in count list ahead)
      → answer ≡ ask_of (sheet_in zones carts table) (orders_in count list ahead) lent cart
