-- What the set shares with `1 << i` goes: the law over the width, at 32 digits.
use borrow.Author.Rules.{rules}
use Rattle.sets.proofs.Laws.{has_without}
use Rattle.sets.proofs.zones.without.Goals as goal

pub returns : goal.returns
returns c = has_without 32 c.args.set c.args.i (search rules)
