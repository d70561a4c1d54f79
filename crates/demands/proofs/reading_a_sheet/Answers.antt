-- The theorem of demand 1, and that just its bytes give a sheet, at the operation's own contract; a slice's elements are bytes.
use Rattle.demands.proofs.DemandOne.{reading_a_sheet}
use Rattle.demands.proofs.ItsBytes.{just_its_bytes}
use Rattle.demands.proofs.reading_a_sheet.Goals as goal

pub returns : goal.returns
returns c = record {
  demand_one = reading_a_sheet _ _ c.read_sheet.ensures;
  tight = just_its_bytes _ _ (λ k. (c.type_inv.s k).fits) c.read_sheet.ensures;
}
