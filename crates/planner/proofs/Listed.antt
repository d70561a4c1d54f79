-- A table that stands for passable orders: its lists are the plan's, and the carts that settle over it give the finish.
use Prim.Native.Nat.{ℕ}
use mathlib.Core.Path.{◌≡◌, sym, ap, ◌∙◌}
use mathlib.Core.Bool.{true}
use mathlib.Core.List.{List}
use Rattle.moves.specs.System.{System}
use Rattle.routes.specs.Crossing.{Crossing}
use Rattle.routes.specs.Moves.{system}
use Rattle.routes.specs.inner.Orders.{OnlyVisitors}
use Rattle.times.specs.Times.{largest, Given, finish}
use Rattle.times.specs.Running.{moves_made, is_out, entering_time}
use Rattle.times.proofs.Rules.{times_keep}
use Rattle.sheet.specs.Valid.{Valid}
use Rattle.sheet.specs.declared.Sheet.{Sheet}
use Rattle.plan.specs.declared.Orders.{Orders}
use Rattle.plan_lists.specs.inner.Sets.{who_visits}
use Rattle.plan_reader.proofs.ValidLaws.{valid_routes}
use Rattle.crossing.specs.inner.Tables.{sheet_fronts, crossing_by, sheet_crossing}
use Rattle.crossing.specs.Plans.{sheet_given, orders_by}
use Rattle.crossing.specs.inner.Sound.{Sound}
use Rattle.judge_entering.specs.Times.{times_of}
use Rattle.judge_finish.specs.inner.Finish.{last_leaving}
use Rattle.judge_finish.proofs.Finish.{finish_is}
use Rattle.judge_running.specs.inner.Settled.{SettlesAs}
use Rattle.judge_running.proofs.Verdict.{settled_times}
use Rattle.removal.specs.Pairs.{Unplanned}
use Rattle.removal.specs.inner.Passable.{Passable}
use Rattle.removal.proofs.Spare.{finish_same}
use Rattle.planner_orders.specs.inner.Unplanned.{ordered}
use Rattle.planner_orders.specs.inner.Stands.{StandsFor}
use Rattle.planner_orders.proofs.Settled.{stands_system, stands_sound, stands_out, stands_times}
use Rattle.planner_lists.specs.inner.Places.{Placeable, Listed}
use Rattle.planner_lists.proofs.Lists.{strict_placeable, lists_are}
use Rattle.planner.specs.Planning.{unplanned, finish_of}
use Rattle.planner.specs.inner.Lists.{OfCrossing}
use Rattle.planner.proofs.Rules.{as_ordered}

module _ (sheet : Sheet) (v : Valid sheet) (F : Crossing) (good : Passable (unplanned sheet) F)
    {ahead : List ℕ} (stands : StandsFor (unplanned sheet) F ahead) where
  abbrev U : Unplanned
  U = unplanned sheet

  abbrev X : Crossing
  X = sheet_crossing sheet ahead

  abbrev G : Given
  G = sheet_given sheet

  -- the orders over the sheet's own routes
  abbrev Z : Crossing
  Z = ordered U F.before

  only : OnlyVisitors Z
  only z d c b = (good.both z d c b).0

  own : StandsFor U Z ahead
  own = record { sheet_sized = stands.sheet_sized; ahead_is = stands.ahead_is }

  pub listed_placeable : {who : List ℕ} → who ≡ who_visits sheet.steps sheet.zone → Placeable sheet.steps sheet.zone ahead who
  listed_placeable {who} is = strict_placeable _ _ _ _ _ _ _ _ _ _ F good ahead stands who (valid_routes sheet v) is

  pub listed_sound : Sound X G
  listed_sound = stands_sound _ _ _ _ _ _ _ _ _ _ F.before only ahead own v.shaped.steps_16

  module _ {at left enter order : List ℕ} {made : ℕ} (settled : SettlesAs X G at left enter order made) where
    out : is_out Z ≡ true
    out = ap is_out (sym (as_ordered U F good)) ∙ good.comes_out

    all_out : at ≡ (system X).out
    all_out =
        (stands_out _ _ _ _ _ _ _ _ _ _ F.before only ahead own at left enter order made settled).0 out
        ∙ ap (λ (S : System). S.out) (sym (stands_system _ _ _ _ _ _ _ _ _ _ F.before only ahead own))

    finish_told : largest (last_leaving sheet.steps sheet.passing enter) 16 ≡ finish_of sheet F
    unfolding finish crossing_by
    finish_told =
        finish_is sheet.steps sheet.zone (sheet_fronts sheet) ahead sheet.lane sheet.arrival sheet.passing sheet.travel sheet.follow
        sheet.cross enter
        (times_keep X G listed_sound.only (times_of enter) (settled_times X G at left enter order made settled all_out))
        ∙ finish_same Z G (times_of enter) (entering_time Z G (moves_made Z))
        (stands_times sheet.steps sheet.zone _ _ _ _ _ _ _ _ F.before only ahead own at left enter order made settled out)
        ∙ ap (finish_of sheet) (sym (as_ordered U F good))

    pub lists_told : {who : List ℕ} → who ≡ who_visits sheet.steps sheet.zone → {r : Orders} → Listed sheet.steps sheet.zone ahead who r
        → {last : ℕ} → last ≡ largest (last_leaving sheet.steps sheet.passing enter) 16 → OfCrossing sheet F (record { orders = r; finish = last })
    unfolding orders_by
    lists_told {who} is {r} listed told =
        let (counts, lists) = lists_are _ _ _ _ _ _ _ _ _ _ F good ahead stands who is r listed in
        record { count_is = counts; list_is = lists; finish_is = told ∙ finish_told }
