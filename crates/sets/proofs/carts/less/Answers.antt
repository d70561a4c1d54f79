-- What a shares with b goes.
use Rattle.sets.proofs.Laws.{has_less}
use Rattle.sets.proofs.carts.less.Goals as goal

pub returns : goal.returns
returns c = has_less c.args.a c.args.b
