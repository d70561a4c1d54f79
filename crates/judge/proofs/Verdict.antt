-- Where the carts settle tells the verdict: all are out, or there is a lowest cart that is stuck.
use Prim.Native.Nat.{ℕ, ◌<◌}
use mathlib.Core.Path.{◌≡◌, sym, ap, ◌∙◌}
use mathlib.Core.Logic.{◌↔◌}
use mathlib.Core.Bool.{true, false, not-eq-not}
use lib.ListN.{get_or}
use lib.Dec.{eqb}
use Rattle.std.specs.Prelude.{Option, Some, None}
use Rattle.moves.specs.System.{System, carts, pos, start}
use Rattle.moves.specs.Runs.{end}
use Rattle.moves.specs.inner.Runs.{AllComeOut}
use Rattle.routes.specs.Lists.{all_below}
use Rattle.routes.specs.Crossing.{Crossing}
use Rattle.routes.specs.Moves.{moves_of}
use Rattle.routes.proofs.Moves.{out_are}
use Rattle.times.specs.Times.{Given}
use Rattle.times.specs.Running as running
use Rattle.times.proofs.Running.{end_says, out_says}
use Rattle.sheet.specs.Valid.{Valid}
use Rattle.sheet.specs.declared.Sheet.{Sheet}
use Rattle.plan.specs.Valid.{ValidOrders}
use Rattle.plan.specs.declared.Orders.{Orders}
use Rattle.crossing.specs.inner.Tables.{crossing_by, sheet_crossing, sheet_fronts}
use Rattle.crossing.specs.Plans.{plan_crossing}
use Rattle.crossing.proofs.Tables.{carts_16, steps_is}
use Rattle.crossing.proofs.Plans.{plan_system_lem}
use Rattle.judge_one_move.specs.declared.Run.{Run}
use Rattle.judge_ring.specs.Ring.{lowest_stuck}
use Rattle.judge_verdict.specs.inner.Verdict.{Runs}
use Rattle.judge.specs.Judging.{plan_system, at_end, is_out}

module _ (sheet : Sheet) (orders : Orders) where
  abbrev X : Crossing
  X = sheet_crossing sheet orders.ahead

  abbrev P : Crossing
  P = plan_crossing sheet orders

  abbrev S : System
  S = plan_system sheet orders

  pub plan_carts : carts S ≡ 16
  unfolding crossing_by
  plan_carts = carts_16 sheet.steps sheet.zone (sheet_fronts sheet) orders.ahead

  -- how far cart c goes, as the sheet's table tells it
  pub out_at : (c : ℕ) → c < 16 → pos S.out c ≡ moves_of (get_or sheet.steps c 0)
  unfolding crossing_by
  out_at c l = out_are (plan_crossing sheet orders) c ∙ ap moves_of (steps_is sheet.steps sheet.zone (sheet_fronts sheet) orders.ahead c l)

  -- "The judge accepts exactly when" all come out
  pub accepts_out : (is_out sheet orders ≡ true) ↔ AllComeOut S (start S)
  accepts_out = out_says (plan_crossing sheet orders)

  -- the same of the orders as sets
  pub tables_out : Valid sheet → ValidOrders sheet orders → running.is_out X ≡ is_out sheet orders
  unfolding running.is_out
  tables_out v w = ap (λ (T : System). all_below (λ c. eqb (pos (end T (start T)) c) (pos T.out c)) (carts T)) (plan_system_lem sheet v orders w)

  -- what the verdict over tables tells of the plan
  module _ (v : Valid sheet) (w : ValidOrders sheet orders) (G : Given) (run : Run) (stuck : Option ℕ) (runs : Runs X G run stuck) where
    pub settled_end : run.at ≡ at_end sheet orders
    settled_end = runs.settled.is_end ∙ ap (λ (T : System). end T (start T)) (plan_system_lem sheet v orders w)

    pub stuck_lowest : (c : ℕ) → stuck ≡ Some c → (c < 16) × (c ≡ lowest_stuck S (at_end sheet orders))
    stuck_lowest c e = (
      (runs.lowest c e).0,
      (runs.lowest c e).1 ∙ ap (λ (T : System). lowest_stuck T run.at) (plan_system_lem sheet v orders w) ∙ ap (lowest_stuck S) settled_end,
    )

    pub verdict_is : (stuck ≡ None) ↔ (is_out sheet orders ≡ true)
    verdict_is = (
      λ e. sym (tables_out v w) ∙ (end_says X).1 (sym runs.settled.is_end ∙ runs.out.0 e),
      λ e. runs.out.1 (runs.settled.is_end ∙ (end_says X).0 (tables_out v w ∙ e)),
    )

    pub accepted : stuck ≡ None → is_out sheet orders ≡ true
    accepted = verdict_is.0

    pub locked : (c : ℕ) → stuck ≡ Some c → is_out sheet orders ≡ false
    locked c e = (not-eq-not {b = false}).0 (λ t. let none : stuck ≡ None = verdict_is.1 t in cc)
