-- The theorems of demand 1 and of request #106, at what net ensures.
use Rattle.demands.proofs.DemandOne.{netting_a_plan}
use Rattle.demands.proofs.PetriNet.{net_beside, net_text_lem}
use Rattle.demands.proofs.netting_a_plan.Goals as goal

pub returns : goal.returns
returns c = record {
  demand_one = netting_a_plan _ _ _ _ _ c.net.ensures.answer c.net.ensures.holds;
  beside = net_beside _ _ c.args.room.now _ c.net.ensures.answer;
  text = net_text_lem _ _ _ _ c.net.ensures.answer _ c.net.ensures.holds;
}
