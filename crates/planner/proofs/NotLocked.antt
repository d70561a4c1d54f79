-- "for every valid sheet it isn't locked", by each rule: planned orders are readable, read back the same, and accepted with the planner's finish.
use Prim.Native.Nat.{ℕ, ◌≤◌}
use mathlib.Core.Path.{◌≡◌, refl, sym, ap, ap₂, subst, ◌∙◌}
use mathlib.Core.Bool.{true}
use mathlib.Core.List.{List}
use lib.ListN.{length}
use borrow.Author.Tests.{le-leb}
use Rattle.words.specs.Checks.{first_failing}
use Rattle.words.proofs.First.{pass_answers}
use Rattle.words.proofs.Entries.{length_entries}
use Rattle.moves.specs.System.{System, start}
use Rattle.moves.specs.inner.Runs.{AllComeOut}
use Rattle.routes.specs.Crossing.{Crossing}
use Rattle.routes.specs.Moves.{system}
use Rattle.routes.specs.inner.Orders.{OnlyVisitors}
use Rattle.routes.specs.Plans.{plan}
use Rattle.routes.specs.inner.Plans.{Complete}
use Rattle.times.specs.Times.{Given, finish}
use Rattle.times.specs.inner.Times.{EnteringTimes}
use Rattle.times.proofs.Finish.{finish_unique}
use Rattle.times.proofs.SameOrders.{system_same, entering_orders}
use Rattle.sheet.specs.Reading.{sheet_done, sheet_of, read_sheet}
use Rattle.sheet.specs.Valid.{Valid}
use Rattle.sheet.specs.declared.Sheet.{Sheet}
use Rattle.plan.specs.Reading.{plan_done, orders_of, read_plan}
use Rattle.plan.specs.Written.{written}
use Rattle.plan.specs.Valid.{ValidOrders, plan_length}
use Rattle.plan.specs.declared.Orders.{Orders}
use Rattle.plan.specs.declared.PlanRead.{PlanRead}
use Rattle.plan.proofs.Readable.{readable_whole}
use Rattle.plan.proofs.Further.{further_read}
use Rattle.plan.proofs.RoundTrip.{written_length, written_readable}
use Rattle.crossing.specs.Plans.{given_by, sheet_given, routes_of, lists_of, plan_crossing}
use Rattle.crossing.proofs.Orders.{lists_are, orders_valid}
use Rattle.judge.specs.Judging as judging
use Rattle.judge.specs.declared.Judged.{Judged}
use Rattle.judge.proofs.Verdict.{accepts_out}
use Rattle.judge.proofs.Words.{judged_times}
use Rattle.removal.specs.Pairs.{Unplanned, front_in}
use Rattle.removal.specs.inner.Plannable.{Plannable}
use Rattle.removal.specs.inner.Passable.{Passable}
use Rattle.removal.specs.Removal.{passing_lists}
use Rattle.times.specs.Running.{is_out}
use Rattle.times.proofs.Running.{out_says, all_made, entering_made}
use Rattle.removal.proofs.Pairs.{Visiting}
use Rattle.removal.proofs.Planned.{planned_complete, planned_orders_lem, planned_lane}
use Rattle.planner_orders.specs.inner.Unplanned.{ordered}
use Rattle.planner_orders.proofs.Sheets.{sheet_plannable}
use Rattle.planner.specs.Planning.{unplanned, finish_of, ordered_by, planned_orders, planned}
use Rattle.planner.specs.declared.Rule.{Rule}
use Rattle.planner.proofs.Rules.{as_ordered, rule_passable}

module _ (sheet : Sheet) (v : Valid sheet) (rule : Rule) where
  abbrev U : Unplanned
  U = unplanned sheet

  abbrev orders : Orders
  orders = planned_orders sheet rule

  abbrev G : Given
  G = sheet_given sheet

  able : Plannable U
  able = sheet_plannable sheet v

  good : Passable U (ordered_by sheet rule)
  good = rule_passable sheet v rule

  abbrev lists : List (List ℕ)
  lists = passing_lists U (ordered_by sheet rule)

  full : Complete (routes_of sheet) lists
  full = planned_complete U able (ordered_by sheet rule) good

  -- ---- the orders

  pub planned_valid : ValidOrders sheet orders
  unfolding given_by
  planned_valid = orders_valid sheet v lists full (planned_lane U able (ordered_by sheet rule) good)

  planned_lists : lists_of sheet orders ≡ lists
  unfolding passing_lists
  planned_lists = lists_are sheet v lists full (length_entries sheet.zones 0 _)

  -- "Plans written are read back to the same orders"
  pub planned_read : (s : List ℕ) → read_sheet s ≡ sheet_done sheet → read_plan s (written sheet.zones orders) ≡ plan_done sheet orders
  planned_read s e = written_readable s sheet orders e planned_valid

  pub planned_length : length (written sheet.zones orders) ≡ plan_length sheet
  planned_length = written_length sheet v orders planned_valid

  -- ---- the moves and times are those of the rule's orders

  -- the rule's orders, and the plan's
  abbrev F : Crossing
  F = ordered U (ordered_by sheet rule).before

  is_ordered : ordered_by sheet rule ≡ F
  is_ordered = as_ordered U (ordered_by sheet rule) good

  out : is_out F ≡ true
  out = ap is_out (sym is_ordered) ∙ good.comes_out

  same_orders : (z d c : ℕ) → Visiting U c z → (plan (front_in U) (routes_of sheet) lists).before z d c ≡ F.before z d c
  same_orders = planned_orders_lem U able (ordered_by sheet rule) good

  abbrev P : Crossing
  P = plan_crossing sheet orders

  planned_crossing : P ≡ plan (front_in U) (routes_of sheet) lists
  planned_crossing = ap (plan (front_in U) (routes_of sheet)) planned_lists

  planned_system : system P ≡ system F
  planned_system = ap system planned_crossing ∙ system_same (routes_of sheet) (front_in U) F.front (plan (front_in U) (routes_of sheet) lists).before
      F.before (λ _ _. refl) same_orders

  -- "it isn't locked"
  pub planned_accepted : judging.is_out sheet orders ≡ true
  planned_accepted =
      (accepts_out sheet orders).1 (subst (λ (S : System). AllComeOut S (start S)) (sym planned_system) ((out_says F).0 out))

  only : OnlyVisitors F
  only z d c b = (good.both z d c b).0

  -- the judge's times are those of the rule's orders
  judged_times_are : EnteringTimes F G (judging.entering_time sheet orders)
  judged_times_are c s h =
      subst (λ (X : Crossing). EnteringTimes X G (judging.entering_time sheet orders)) planned_crossing
      (judged_times sheet orders v planned_valid planned_accepted) c s h
      ∙ entering_orders (routes_of sheet) (front_in U) F.front (plan (front_in U) (routes_of sheet) lists).before F.before (λ _ _. refl) same_orders G
      (judging.entering_time sheet orders) c s h

  pub planned_finish : (planned sheet rule).finish ≡ (judging.judged sheet orders).finish
  unfolding planned finish
  planned_finish =
      ap (finish_of sheet) is_ordered
      ∙ finish_unique F G only (all_made F out) _ (entering_made F G only out) (judging.entering_time sheet orders) judged_times_are

  -- ---- the judge's answer

  pub planned_judged : (s : List ℕ) → read_sheet s ≡ sheet_done sheet → (room : ℕ) → 128 ≤ room
      → judging.judge s (written sheet.zones orders) room ≡ judging.judged sheet orders
  unfolding judging.judge
  planned_judged s e room h =
      further_read _ _ s p (judging.verdict_checks (sheet_of s) (orders_of (sheet_of s) p) room) number
      ∙ ap₂ verdict (ap (λ (r : PlanRead). r.sheet) is) (ap (λ (r : PlanRead). r.orders) is)
      ∙ pass_answers (judging.judge_refused sheet orders) (judging.judged sheet orders) (judging.verdict_checks sheet orders room)
      (planned_accepted, (le-leb 128 room h, tt))
    where
      p : List ℕ
      p = written sheet.zones orders

      number : (read_plan s p).outcome.number ≡ 0
      number = ap (λ (r : PlanRead). r.outcome.number) (planned_read s e)

      -- what the bytes say is what was written
      is : plan_done (sheet_of s) (orders_of (sheet_of s) p) ≡ plan_done sheet orders
      is = sym (readable_whole s p number) ∙ planned_read s e

      verdict : Sheet → Orders → Judged
      verdict read told = first_failing (judging.judge_refused read told) (judging.judged read told) (judging.verdict_checks read told room)
