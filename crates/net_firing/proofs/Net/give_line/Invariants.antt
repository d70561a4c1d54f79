-- The loop keeps that the carts passed have got their tokens.
use Rattle.net_firing.specs.inner.Marking.{LineGives}
use Rattle.net_firing.proofs.Net.give_line.Given as goal

abbrev pub invariant-loop-e : goal.invariant-loop-e
invariant-loop-e l = LineGives l.self.lanes l.lines l.c l.e l.more
