use Rattle.judge_entering.proofs.Sides.{foremost_start, foremost_turn}
use Rattle.judge_entering.proofs.foremost.Goals as goal

pub loop-mates-init : goal.loop-mates-init
loop-mates-init c = foremost_start c.args.on.now

pub loop-mates-preserved : goal.loop-mates-preserved
loop-mates-preserved c = foremost_turn c.args.on.now _ _ _ _ c.loop-mates.invariant c.first.ensures c.joined-set.ensures
