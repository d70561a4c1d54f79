-- Entry by entry, the number of the zone's visitors.
use Rattle.std.proofs.Common.{rules}
use Rattle.words.proofs.Made.{made_table}
use Rattle.planner_lists.proofs.counts.Goals as goal

pub returns : goal.returns
returns c = made_table c.from_fn.ensures.items _ (λ i y q h call. search rules)
