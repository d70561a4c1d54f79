-- `1 << i` has the one member i: the law over the width, at 16 digits.
use Rattle.sets.proofs.Laws.{has_with}
use Rattle.sets.proofs.carts.with.Goals as goal

pub returns : goal.returns
returns c = has_with 16 c.args.set c.args.i c.requires
