-- `a & b` is what both have, and that is a just where all of a is in b.
use Rattle.sets.proofs.Laws.{within_and}
use Rattle.sets.proofs.carts.within.Goals as goal

pub returns : goal.returns
returns c = within_and c.args.a c.args.b
