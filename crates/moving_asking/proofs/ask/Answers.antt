-- How reading both was left decides, or the request's own checks do.
use mathlib.Core.Path.{◌∙◌}
use Rattle.plan_reader.proofs.ReadLaws.{valid_sheet, valid_orders}
use Rattle.plan_reader.proofs.ValidLaws.{valid_lanes}
use Rattle.moving_asking.proofs.AskLaws.{ask_refused, ask_read}
use Rattle.moving_asking.proofs.ask.Goals as goal

pub of-ground-requires : goal.of-ground-requires
of-ground-requires c = valid_lanes _ (valid_sheet _ _ _ _ _ c.in-Ok.ensures)

pub ask_plan-requires : goal.ask_plan-requires
ask_plan-requires c = rw (c.of-ground.ensures.0, c.of-ground.ensures.1) record {
  zones = _;
  count = _;
  list = _;
  valid = valid_sheet _ _ _ _ _ c.in-Ok.ensures;
  valid_orders = valid_orders _ _ _ _ _ c.in-Ok.ensures;
}

pub returns-in-Ok : goal.returns-in-Ok
returns-in-Ok c = (rw (c.of-ground.ensures.0, c.of-ground.ensures.1) at c.ask_plan.ensures) _ _ _
    (valid_sheet _ _ _ _ _ c.in-Ok.ensures) (valid_orders _ _ _ _ _ c.in-Ok.ensures)
    ∙ ask_read _ _ _ _ _ _ c.in-Ok.ensures

pub returns-in-Err : goal.returns-in-Err
returns-in-Err c = c.no_move.ensures ∙ ask_refused _ _ _ _ _ c.in-Err.ensures.0 c.in-Err.ensures.1
