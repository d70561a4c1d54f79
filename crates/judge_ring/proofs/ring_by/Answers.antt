-- The ring is written when its first cart comes again.
use Rattle.judge_ring.proofs.SoFar.{so_far_start, so_far_next, so_far_end}
use Rattle.judge_ring.proofs.ring_by.Goals as goal

pub loop-d-init : goal.loop-d-init
loop-d-init c = so_far_start _ _ c.requires.1 _ _ _ c.requires.0 c.follow_on.ensures.0 c.least_from-first.ensures.0

pub loop-d-preserved : goal.loop-d-preserved
loop-d-preserved c = so_far_next _ _ c.requires.1 _ _ _ _ _ _ c.loop-d.invariant c.loop-d-test.true

pub returns : goal.returns
returns c = so_far_end _ _ c.requires.1 _ _ _ _ _ _ c.loop-d.invariant c.loop-d-test.false
