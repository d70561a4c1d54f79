-- Each way out is what reading the plan and the room's length say.
use native.Mathlib.Omega.{arith}
use Rattle.std.proofs.lemmas.Result.{err_from_is_err_and}
use Rattle.sheet_filling.proofs.Ranges.{steps_entries}
use Rattle.plan_writer.proofs.AgainLaws.{again_refused, again_sheet, again_length, again_short, again_writable, again_done}
use Rattle.plan_writer.proofs.written_again.Goals as goal

pub returns-in_err-n : goal.returns-in_err-n
returns-in_err-n c =
    let r = err_from_is_err_and c.from_residual.result c.from_residual.ensures.1 in
    let h = again_refused _ _ _ c.in_err-n.ensures.0 c.in_err-n.ensures.1 c.args.room.now in
    record { answer = rw (r.1, r.2) h.0; holds = h.1 }

pub overflow_add-total : goal.overflow_add-total
overflow_add-total c = omega (arith, (again_sheet _ _ _ _ c.in_ok-n.ensures).zones_most)

pub step_counts-requires : goal.step_counts-requires
step_counts-requires c = steps_entries _ (again_sheet _ _ _ _ c.in_ok-n.ensures)

pub overflow_add-total-2 : goal.overflow_add-total-2
overflow_add-total-2 c = omega (arith, (again_sheet _ _ _ _ c.in_ok-n.ensures).zones_most, c.sum_of.ensures.1)

pub returns-then-room-total : goal.returns-then-room-total
returns-then-room-total c =
    let summed = rw c.step_counts.ensures at c.sum_of.ensures.0 in
    let h = again_short _ _ _ _ c.in_ok-n.ensures _ summed _ c.if-room-total.true in
    record { answer = rw c.refused.ensures h.0; holds = h.1 }

pub write_plan-requires : goal.write_plan-requires
write_plan-requires c =
    let summed = rw c.step_counts.ensures at c.sum_of.ensures.0 in
    (again_writable _ _ _ _ c.in_ok-n.ensures _ summed _ c.if-room-total.false, again_length _ _ _ _ c.in_ok-n.ensures _ summed)

pub returns : goal.returns
returns c =
    let summed = rw c.step_counts.ensures at c.sum_of.ensures.0 in
    let h = again_done _ _ _ _ c.in_ok-n.ensures _ summed _ c.if-room-total.false _ c.write_plan.ensures in
    record { answer = rw c.done.ensures h.0; holds = h.1 }
