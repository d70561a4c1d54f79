-- The theorem of demand 1, at what passing_list ensures.
use Rattle.demands.proofs.DemandOne.{handing_a_list}
use Rattle.demands.proofs.handing_a_list.Goals as goal

pub returns : goal.returns
returns c = record { demand_one = handing_a_list _ _ _ _ c.passing_list.ensures }
