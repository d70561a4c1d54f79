-- The theorems of the demands, at what judge ensures.
use Rattle.demands.proofs.DemandOne.{judging_a_plan}
use Rattle.demands.proofs.DemandTwo.{judged_rightly}
use Rattle.demands.proofs.DemandThree.{ring_shown}
use Rattle.demands.proofs.judging_a_plan.Goals as goal

pub returns : goal.returns
returns c = record {
  demand_one = judging_a_plan _ _ _ _ _ c.judge.ensures.answer c.judge.ensures.holds;
  demand_two = judged_rightly _ _ _ _ _ c.judge.ensures.answer c.judge.ensures.holds;
  demand_three = ring_shown _ _ _ _ c.judge.ensures.answer;
}
