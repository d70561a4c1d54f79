-- The loop keeps that the carts passed have moved on, and may not move where no move was made; and which carts the lane does not hold.
use Prim.Native.Nat.{◌-◌}
use lib.Count.{count_trailing_zeros}
use Rattle.crossing.specs.inner.Tables.{crossing_of, given_of}
use Rattle.judge_running.proofs.Turns.{Sweeping}
use Rattle.judge_running.proofs.sweep.Given as goal

abbrev pub invariant-loop-turn : goal.invariant-loop-turn
invariant-loop-turn l = Sweeping (crossing_of l.sheet l.ahead) (given_of l.sheet) l.initial.run l.run l.turn l.still

abbrev pub decreases-loop-turn : goal.decreases-loop-turn
decreases-loop-turn l = 16 - count_trailing_zeros 16 l.turn
