-- Each call of the closure gives the zone that the definition has, and changes nothing.
use Rattle.std.proofs.Common.{rules}
use Rattle.words.proofs.Made.{made_table}
use Rattle.judge_ring.proofs.wanted_zones.Goals as goal

pub returns : goal.returns
returns c = made_table c.from_fn.ensures.items _ (λ i y q h call. search rules)
