-- The chain as tables tell it, and what following it asks of them.
use Rattle.std.specs.Prelude.{ℕ, ◌<◌, ◌≡◌, Bool, List, get_or, eqb}
use Rattle.words.specs.Checks.{first_failing}
use Rattle.moves.specs.Moves.{Permitted}
use Rattle.moves.specs.Rings.{follow}
use Rattle.routes.specs.Moves.{system}
use Rattle.sheet.specs.Valid.{Valid}
use Rattle.sheet.specs.declared.Sheet.{Sheet}
use Rattle.sheet_table.specs.inner.Parts.{steps, zone}
use Rattle.sheet_filling.specs.inner.Filled.{sheet_in}
use Rattle.plan.specs.Valid.{ValidOrders}
use Rattle.plan.specs.declared.Orders.{Orders}
use Rattle.crossing.specs.inner.Tables.{crossing_of}
use Rattle.judge_one_move.specs.inner.Standing.{Standing}
use Rattle.judge_ring.specs.inner.Tables.{wanted_in, point_of, Pointable}
use Rattle.moving_record.specs.declared.Record.{Record}
use Rattle.moving_asking.specs.Asking.{record_checks}
use Rattle.moving_why.specs.Why.{chain_refused, chain_by, chain_from}
use Rattle.moving_why.specs.declared.Chain.{Chain}
use Rattle.sheet_table.specs.declared.Table.{Table}

-- whether cart c stands in its last zone
abbrev pub last_in : List ℕ → List ℕ → ℕ → Bool
last_in steps at c = eqb (get_or at c 0) (get_or steps c 0)

abbrev pub chain_in : Table → List ℕ → Orders → List ℕ → List ℕ → ℕ → Chain
chain_in sheet ahead orders at left c =
    chain_by (system (crossing_of sheet ahead)) at (point_of sheet orders.count orders.list at left) (wanted_in (steps sheet) (zone sheet) at)
    (last_in (steps sheet) at) c

-- carts can be pointed to and tested, and the pointing comes within 16 carts to one that may move
pub record Followable (sheet : Table) (ahead : List ℕ) (orders : Orders) (at left : List ℕ) (c : ℕ) : Type 0 where
  pub pointable : Pointable sheet orders.count orders.list at
  pub standing : Standing (crossing_of sheet ahead) at left
  pub cart : c < 16
  pub far : ℕ
  pub far_few : far < 16
  pub free : Permitted (system (crossing_of sheet ahead)) at (follow (point_of sheet orders.count orders.list at left) far c)

module _ (sheet : Sheet) (orders : Orders) (lent : Record) (cart : ℕ) where
  -- what is answered once the plan is read
  abbrev pub why_of : Chain
  why_of = first_failing chain_refused (chain_from sheet orders lent cart) (record_checks sheet orders lent cart)

module _ (table : Table) (orders : Orders) (carts : ℕ) where
  -- a sheet and a plan's orders in tables, as they were read
  pub record PlanIn : Type 0 where
    pub zones : ℕ
    pub valid : Valid (sheet_in zones carts table)
    pub valid_orders : ValidOrders (sheet_in zones carts table) orders

  -- the answer of such a plan
  abbrev pub WhyIn : Record → ℕ → Chain → Type 0
  WhyIn lent cart answer =
      (zones : ℕ) → Valid (sheet_in zones carts table) → ValidOrders (sheet_in zones carts table) orders
      → answer ≡ why_of (sheet_in zones carts table) orders lent cart
