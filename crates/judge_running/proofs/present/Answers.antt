use mathlib.Core.Path.{◌≡◌, ◌∙◌}
use native.Mathlib.Omega.{arith}
use Rattle.judge_running.proofs.Inside.{present_none, present_with, present_as_before}
use Rattle.judge_running.proofs.present.Goals as goal
use Rattle.judge_running.proofs.present.Goals.{then-steps-gt0, else-steps-gt0}

pub loop-c-init : goal.loop-c-init
loop-c-init c = present_none _

pub loop-c-preserved : goal.loop-c-preserved
loop-c-preserved c =
    elim c.if-steps-gt0.branch [
      | then-steps-gt0 w ↦ w.set-is ∙ present_with _ _ _ _ (rw c.steps.ensures at w.if-steps-gt0.true) c.loop-c.invariant w.with-set.ensures
      | else-steps-gt0 w ↦ w.set-is ∙ present_as_before _ _ _ (rw c.steps.ensures at w.if-steps-gt0.false) c.loop-c.invariant
    ]

pub returns : goal.returns
returns c = let all : c.loop-c.c ≡ 16 = omega arith in rw all at c.loop-c.invariant
