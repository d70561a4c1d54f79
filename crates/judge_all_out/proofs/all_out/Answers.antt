-- Each turn in which a cart moves leaves fewer moves to make; after one in which none moves the run is at its end.
use mathlib.Core.Path.{refl}
use Rattle.crossing.proofs.Tables.{carts_16}
use Rattle.judge_running.proofs.Inside.{present_inside}
use Rattle.judge_all_out.proofs.Turns.{moved_none, fewer_left, settling_end}
use Rattle.judge_all_out.proofs.all_out.Goals as goal

pub loop-still-init : goal.loop-still-init
loop-still-init c = (moved_none _ _ 16 24 c.requires (carts_16 _ _ _ _) refl, rw c.present-inside.ensures (present_inside _ _ _ _))

pub loop-still-smaller : goal.loop-still-smaller
loop-still-smaller c = fewer_left _ _ _ _ c.in-Some.ensures.0 c.in-Some.ensures.2

pub returns : goal.returns
returns c = settling_end _ _ _ _ c.in_default.ensures.0 c.in_default.ensures.1 c.in_default.ensures.2
