use mathlib.Core.Path.{◌≡◌, ◌∙◌}
use native.Mathlib.Omega.{arith}
use Rattle.judge_entering.proofs.Sides.{present_start, present_turn, present_absent}
use Rattle.judge_entering.proofs.present_lanes.Goals as goal
use Rattle.judge_entering.proofs.present_lanes.Goals.{then-steps-gt0, else-steps-gt0}

pub loop-c-init : goal.loop-c-init
loop-c-init c = present_start _

pub loop-c-preserved : goal.loop-c-preserved
loop-c-preserved c =
    elim c.if-steps-gt0.branch [
      | then-steps-gt0 w ↦
          w.on-is
          ∙ present_turn _ _ _ _ _ (omega (arith, w.lane-l.ensures, c.requires c.loop-c.c)) w.lane-l.ensures
          (rw c.steps.ensures at w.if-steps-gt0.true) c.loop-c.invariant w.with.ensures
      | else-steps-gt0 w ↦
          w.on-is ∙ c.loop-c.invariant ∙ present_absent _ _ (omega (arith, c.steps.ensures, w.if-steps-gt0.false))
    ]

pub returns : goal.returns
returns c = let all : c.loop-c.c ≡ 16 = omega arith in rw all at c.loop-c.invariant
