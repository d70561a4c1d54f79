-- The theorems of demands 1 and 2, at the operation's own contract; a slice's elements are bytes.
use Rattle.demands.proofs.DemandOne.{writing_again}
use Rattle.demands.proofs.DemandTwo.{written_again_same}
use Rattle.demands.proofs.writing_again.Goals as goal

pub returns : goal.returns
returns c = record {
  demand_one = writing_again _ _ _ _ _ c.write_again.ensures.answer c.write_again.ensures.holds;
  demand_two = written_again_same _ _ _ _ _ (λ k. (c.type_inv.p k).fits) c.write_again.ensures.answer c.write_again.ensures.holds;
}
