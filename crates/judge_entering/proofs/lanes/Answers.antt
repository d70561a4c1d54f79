use Prim.Native.Nat.{◌<◌}
use mathlib.Core.Path.{◌≡◌, ◌∙◌}
use native.Mathlib.Omega.{arith}
use Rattle.judge_entering.proofs.LaneLaws.{made_start, mates_turn, latest_start, front_turn, latest_turn, front_absent, latest_absent, made_all}
use Rattle.judge_entering.proofs.lanes.Goals as goal
use Rattle.judge_entering.proofs.lanes.Goals.{then-steps-gt0, else-steps-gt0}

pub loop-c-init : goal.loop-c-init
loop-c-init c = (made_start _, latest_start _)

pub loop-c-preserved : goal.loop-c-preserved
loop-c-preserved c = let inside : c.lane-l.result < 16 = omega (arith, c.lane-l.ensures, c.requires c.loop-c.c) in (
  elim c.if-steps-gt0.branch [
    | then-steps-gt0 w ↦
        w.lanes-is
        ∙ front_turn _ _ _ (omega arith) inside c.lane-l.ensures (rw c.steps.ensures at w.if-steps-gt0.true) _ _ _
        c.loop-c.invariant.1 (mates_turn _ _ _ _ _ _ inside c.lane-l.ensures c.loop-c.invariant.0 c.with.ensures)
    | else-steps-gt0 w ↦
        w.lanes-is
        ∙ mates_turn _ _ _ _ _ _ inside c.lane-l.ensures c.loop-c.invariant.0 c.with.ensures
        ∙ front_absent _ _ _ (omega arith) inside c.lane-l.ensures (omega (arith, c.steps.ensures, w.if-steps-gt0.false)) _
  ],
  elim c.if-steps-gt0.branch [
    | then-steps-gt0 w ↦
        w.latest-is
        ∙ latest_turn _ _ _ (omega arith) inside c.lane-l.ensures (rw c.steps.ensures at w.if-steps-gt0.true) _ _ (omega arith)
        c.loop-c.invariant.1
    | else-steps-gt0 w ↦
        w.latest-is
        ∙ c.loop-c.invariant.1
        ∙ latest_absent _ _ _ (omega arith) inside c.lane-l.ensures (omega (arith, c.steps.ensures, w.if-steps-gt0.false))
  ],
)

pub returns : goal.returns
returns c = let all : c.loop-c.c ≡ 16 = omega arith in rw all at c.loop-c.invariant.0 ∙ made_all _
