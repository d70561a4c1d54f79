-- The loop keeps the moves made so far, and which carts are asked next; it ends where no move is left.
use Prim.Native.Nat.{◌+◌, ◌-◌, min}
use Rattle.crossing.specs.inner.Tables.{crossing_of, given_of}
use Rattle.judge_running.proofs.Turns.{Settling}
use Rattle.judge_running.proofs.settle.Given as goal

abbrev pub invariant-loop-going : goal.invariant-loop-going
invariant-loop-going l = Settling (crossing_of l.sheet l.ahead) (given_of l.sheet) l.run l.going

abbrev pub decreases-loop-going : goal.decreases-loop-going
decreases-loop-going l = 144 - l.run.made + min 1 l.going
