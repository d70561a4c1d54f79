-- The theorems of demands 1 and 2, at what plan ensures.
use Rattle.demands.proofs.DemandOne.{planning_a_sheet}
use Rattle.demands.proofs.DemandTwo.{planned_rightly}
use Rattle.demands.proofs.planning_a_sheet.Goals as goal

pub returns : goal.returns
returns c = record {
  demand_one = planning_a_sheet _ _ _ _ _ c.plan.ensures.answer c.plan.ensures.holds;
  demand_two = planned_rightly _ _ _ _ _ c.plan.ensures.answer c.plan.ensures.holds;
}
