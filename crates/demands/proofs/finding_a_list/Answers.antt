-- The theorem of demand 1, at the operation's own contract.
use Rattle.demands.proofs.DemandOne.{finding_a_list}
use Rattle.demands.proofs.finding_a_list.Goals as goal

pub returns : goal.returns
returns c = record { demand_one = finding_a_list _ _ _ _ c.find_list.ensures.is }
