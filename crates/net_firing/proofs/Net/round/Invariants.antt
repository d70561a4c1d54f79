-- The loop keeps that the carts passed have been asked: where none has fired, none of them can.
use Rattle.net_firing.specs.inner.Net.{crossing_in}
use Rattle.net_firing.specs.inner.Marking.{Asked}
use Rattle.net_firing.proofs.Net.round.Given as goal

abbrev pub invariant-loop-c : goal.invariant-loop-c
invariant-loop-c l = Asked (crossing_in l.self) l.initial.on l.on l.fired l.c
