-- The loop keeps the marking of a firing sequence; each round in which a transition has fired leaves fewer moves.
use Rattle.net_firing.specs.inner.Net.{crossing_in}
use Rattle.net_firing.specs.inner.Marking.{Marked}
use Rattle.net_firing.proofs.Rounds.{moves_left}
use Rattle.net_firing.proofs.fire_all.Given as goal

abbrev pub invariant-loop : goal.invariant-loop
invariant-loop l = Marked (crossing_in l.net) l.on

abbrev pub decreases-loop : goal.decreases-loop
decreases-loop l = moves_left (crossing_in l.net) l.on.position
