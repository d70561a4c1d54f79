-- The theorems of demand 1 and of request #101, at what plan_better ensures.
use Rattle.demands.proofs.DemandOne.{planning_a_sheet}
use Rattle.demands.proofs.DemandTwo.{planned_rightly}
use Rattle.demands.proofs.BetterOfTwo.{better_of_two}
use Rattle.demands.proofs.planning_the_better.Goals as goal

pub returns : goal.returns
returns c = record {
  demand_one = planning_a_sheet _ _ _ _ _ c.plan_better.ensures.answer c.plan_better.ensures.holds;
  accepted = planned_rightly _ _ _ _ _ c.plan_better.ensures.answer c.plan_better.ensures.holds;
  never_later = better_of_two _ _ _ _ c.plan_better.ensures.answer c.plan_better.ensures.holds;
}
