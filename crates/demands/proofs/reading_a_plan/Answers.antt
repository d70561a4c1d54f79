-- The theorem of demand 1, and that just their bytes give orders, at the operation's own contract; a slice's elements are bytes.
use Rattle.demands.proofs.DemandOne.{reading_a_plan}
use Rattle.demands.proofs.ItsBytes.{just_their_bytes}
use Rattle.demands.proofs.reading_a_plan.Goals as goal

pub returns : goal.returns
returns c = record {
  demand_one = reading_a_plan _ _ _ c.read_plan.ensures;
  tight = just_their_bytes _ _ _ (λ k. (c.type_inv.s k).fits) (λ k. (c.type_inv.p k).fits) c.read_plan.ensures;
}
