-- `1 << i` has the one member i: the law over the width, at 32 digits.
use borrow.Author.Rules.{rules}
use Rattle.sets.proofs.Laws.{has_with}
use Rattle.sets.proofs.zones.with.Goals as goal

pub returns : goal.returns
returns c = has_with 32 c.args.set c.args.i (search rules)
