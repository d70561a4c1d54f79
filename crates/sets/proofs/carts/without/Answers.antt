-- What the set shares with `1 << i` goes: the law over the width, at 16 digits.
use Rattle.sets.proofs.Laws.{has_without}
use Rattle.sets.proofs.carts.without.Goals as goal

pub returns : goal.returns
returns c = has_without 16 c.args.set c.args.i c.requires
