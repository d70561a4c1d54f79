-- A cart that has started is free; else the cart in front decides.
use native.Mathlib.Omega.{arith}
use Rattle.judge_entering.proofs.Holding.{started_not, held_says}
use Rattle.judge_entering.proofs.lane_holds.Goals as goal

pub returns-then-at-c-gt0 : goal.returns-then-at-c-gt0
returns-then-at-c-gt0 c = λ sheet ahead are. started_not sheet _ are _ c.requires.0 ahead c.args.at.now c.if-at-c-gt0.true

pub returns : goal.returns
returns c = λ sheet ahead are. held_says sheet _ are _ c.requires.0 ahead c.args.at.now
    (omega (arith, c.if-at-c-gt0.false)) _ c.front_gone.ensures
