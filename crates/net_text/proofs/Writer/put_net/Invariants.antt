-- The loop keeps that the lines of the carts passed are written.
use Rattle.words.specs.Lists.{each}
use Rattle.net_firing.specs.inner.Net.{crossing_in}
use Rattle.net_text.specs.Lines.{cart_lines}
use Rattle.net_text.specs.inner.Writing.{Wrote}
use Rattle.net_text.proofs.Writer.put_net.Given as goal

abbrev pub invariant-loop-c : goal.invariant-loop-c
invariant-loop-c l = Wrote (each l.c 0 (cart_lines (crossing_in l.net))) l.initial.self l.self
