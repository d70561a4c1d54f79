-- Digit by digit.
use Rattle.sets.proofs.Laws.{has_or}
use Rattle.sets.proofs.carts.joined.Goals as goal

pub returns : goal.returns
returns c = has_or c.args.a c.args.b
