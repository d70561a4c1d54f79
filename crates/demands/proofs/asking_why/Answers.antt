-- The theorems of demand 1 and of request #105, at what why ensures.
use Rattle.demands.proofs.DemandOne.{asking_why}
use Rattle.demands.proofs.WhyNot.{chain_shown, never_held}
use Rattle.demands.proofs.asking_why.Goals as goal

pub returns : goal.returns
returns c = record {
  demand_one = asking_why _ _ _ _ _ c.why.ensures;
  chain_shown = chain_shown _ _ _ _ _ c.why.ensures;
  never_held = never_held _ _ _ _ _ c.why.ensures;
}
