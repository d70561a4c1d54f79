-- One less than the set has the same members above the lowest, and not the lowest.
use Rattle.sets.proofs.Laws.{rest_and}
use Rattle.sets.proofs.carts.rest.Goals as goal

pub returns : goal.returns
returns c = rest_and c.args.set c.requires
