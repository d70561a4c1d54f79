-- The cart joins the zone's set alone.
use Rattle.judge_one_move.proofs.Stored.{joined}
use Rattle.judge_one_move.proofs.join.Goals as goal

pub returns : goal.returns
returns c = joined c.args.left.now _ _ _ c.requires.0 c.requires.2 c.with.ensures
