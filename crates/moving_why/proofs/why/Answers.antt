-- What reading both answered decides, or what the test and the chain say.
use mathlib.Core.Path.{◌∙◌}
use Rattle.plan_reader.proofs.ReadLaws.{valid_sheet, valid_orders}
use Rattle.moving_why.proofs.WhyLaws.{why_refused, why_read}
use Rattle.moving_why.proofs.why.Goals as goal

pub why_plan-requires : goal.why_plan-requires
why_plan-requires c = record {
  zones = _;
  valid = valid_sheet _ _ _ _ _ c.in-Ok.ensures;
  valid_orders = valid_orders _ _ _ _ _ c.in-Ok.ensures;
}

pub returns-in-Ok : goal.returns-in-Ok
returns-in-Ok c = c.why_plan.ensures _ (valid_sheet _ _ _ _ _ c.in-Ok.ensures) (valid_orders _ _ _ _ _ c.in-Ok.ensures)
    ∙ why_read _ _ _ _ _ _ c.in-Ok.ensures

pub returns-in-Err : goal.returns-in-Err
returns-in-Err c = c.no_chain.ensures ∙ why_refused _ _ _ _ _ c.in-Err.ensures.0 c.in-Err.ensures.1
