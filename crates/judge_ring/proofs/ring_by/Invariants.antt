-- The loop keeps the part of the ring that is written.
use Prim.Native.Nat.{◌-◌}
use Rattle.judge_ring.proofs.SoFar.{SoFar}
use Rattle.judge_ring.proofs.ring_by.Given as goal

abbrev pub invariant-loop-d : goal.invariant-loop-d
invariant-loop-d l = SoFar l.to l.wanted l.c l.first l.cart l.zone l.n l.d

abbrev pub decreases-loop-d : goal.decreases-loop-d
decreases-loop-d l = 16 - l.n
