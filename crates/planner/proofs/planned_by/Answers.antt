-- Each way out is what reading the sheet and the room's length say.
use native.Mathlib.Omega.{arith}
use Rattle.std.proofs.lemmas.Result.{err_from_is_err_and}
use Rattle.sheet_filling.proofs.Ranges.{steps_entries}
use Rattle.plan_reader.proofs.ValidLaws.{valid_routes}
use Rattle.planner.proofs.Answers.{plan_refused, plan_valid, plan_short, plan_length_is, plan_writable, plan_done}
use Rattle.planner.proofs.planned_by.Goals as goal

pub returns-in_err-read : goal.returns-in_err-read
returns-in_err-read c =
    let r = err_from_is_err_and c.from_residual.result c.from_residual.ensures.1 in
    let h = plan_refused _ _ _ c.in_err-read.ensures.0 c.in_err-read.ensures.1 c.args.room.now in
    record { answer = rw (r.1, r.2) h.0; holds = h.1 }

pub step_counts-counts-requires : goal.step_counts-counts-requires
step_counts-counts-requires c = steps_entries _ (plan_valid _ _ c.in_ok-read.ensures)

pub overflow_add-length : goal.overflow_add-length
overflow_add-length c = omega (arith, (plan_valid _ _ c.in_ok-read.ensures).zones_most)

pub overflow_add-length-2 : goal.overflow_add-length-2
overflow_add-length-2 c = omega (arith, (plan_valid _ _ c.in_ok-read.ensures).zones_most, c.sum_of.ensures.1)

pub returns-then-room-length : goal.returns-then-room-length
returns-then-room-length c =
    let summed = rw c.step_counts-counts.ensures at c.sum_of.ensures.0 in
    let h = plan_short _ _ c.in_ok-read.ensures _ _ summed _ c.if-room-length.true in
    record { answer = rw c.refused.ensures h.0; holds = h.1 }

pub who_visits-who-requires : goal.who_visits-who-requires
who_visits-who-requires c = rw c.step_counts-counts.ensures (valid_routes _ (plan_valid _ _ c.in_ok-read.ensures))

pub orders_by-planned-requires : goal.orders_by-planned-requires
orders_by-planned-requires c = ((_, plan_valid _ _ c.in_ok-read.ensures), rw c.step_counts-counts.ensures at c.who_visits-who.ensures)

pub write_plan-requires : goal.write_plan-requires
write_plan-requires c =
    let by = c.orders_by-planned.ensures _ (plan_valid _ _ c.in_ok-read.ensures) in
    let summed = rw c.step_counts-counts.ensures at c.sum_of.ensures.0 in
    (plan_writable _ _ c.in_ok-read.ensures _ _ summed _ by _ c.if-room-length.false, plan_length_is _ _ c.in_ok-read.ensures _ _ summed _ by)

pub returns : goal.returns
returns c =
    let by = c.orders_by-planned.ensures _ (plan_valid _ _ c.in_ok-read.ensures) in
    let summed = rw c.step_counts-counts.ensures at c.sum_of.ensures.0 in
    let h = plan_done _ _ c.in_ok-read.ensures _ _ summed _ by _ c.if-room-length.false _ c.write_plan.ensures in
    record { answer = rw c.done.ensures h.0; holds = h.1 }
