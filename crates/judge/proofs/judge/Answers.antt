-- How reading both was left decides, or what the orders read are judged.
use mathlib.Core.Path.{◌∙◌}
use Rattle.plan_reader.proofs.ReadLaws.{valid_sheet, valid_orders}
use Rattle.judge.proofs.Reading.{judge_refused, judge_read}
use Rattle.judge.proofs.judge.Goals as goal

pub judge_orders-requires : goal.judge_orders-requires
judge_orders-requires c = record {
  zones = _;
  carts = _;
  valid = valid_sheet _ _ _ _ _ c.in-Ok.ensures;
  valid_orders = valid_orders _ _ _ _ c.in-Ok.field-0 c.in-Ok.ensures;
}

pub returns-in-Ok : goal.returns-in-Ok
returns-in-Ok c =
    let valid = valid_sheet _ _ _ _ c.in-Ok.field-0 c.in-Ok.ensures in
    let valid_orders = valid_orders _ _ _ _ c.in-Ok.field-0 c.in-Ok.ensures in
    let h = judge_read _ _ _ _ _ c.in-Ok.ensures _ _ (c.judge_orders.ensures _ _ valid valid_orders) in
    record { answer = h.0; holds = h.1 }

pub returns-in-Err : goal.returns-in-Err
returns-in-Err c = let h = judge_refused _ _ _ _ c.in-Err.ensures.0 c.in-Err.ensures.1 in
    record { answer = c.not_judged.ensures ∙ rw c.no_ring.ensures h.0; holds = h.1 }
