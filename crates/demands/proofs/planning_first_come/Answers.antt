-- The theorems of demand 1 and of request #101, at what plan_first ensures.
use Rattle.demands.proofs.DemandOne.{planning_a_sheet}
use Rattle.demands.proofs.DemandTwo.{planned_rightly}
use Rattle.demands.proofs.planning_first_come.Goals as goal

pub returns : goal.returns
returns c = record {
  demand_one = planning_a_sheet _ _ _ _ _ c.plan_first.ensures.answer c.plan_first.ensures.holds;
  accepted = planned_rightly _ _ _ _ _ c.plan_first.ensures.answer c.plan_first.ensures.holds;
}
