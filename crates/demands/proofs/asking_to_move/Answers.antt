-- The theorem of demand 1, at what ask ensures.
use Rattle.demands.proofs.DemandOne.{asking_to_move}
use Rattle.demands.proofs.asking_to_move.Goals as goal

pub returns : goal.returns
returns c = record { demand_one = asking_to_move _ _ _ _ _ c.ask.ensures }
