-- The loop keeps the lowest of each lane passed.
use Rattle.judge_entering.specs.inner.Lanes.{Foremost}
use Rattle.judge_entering.proofs.foremost.Given as goal

abbrev pub invariant-loop-mates : goal.invariant-loop-mates
invariant-loop-mates l = Foremost l.on l.mates-index l.set
