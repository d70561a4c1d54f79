-- The loop keeps that the lines of the positions passed are written.
use Rattle.words.specs.Lists.{each}
use Rattle.net_firing.specs.inner.Net.{crossing_in}
use Rattle.net_text.specs.Lines.{position_lines}
use Rattle.net_text.specs.inner.Writing.{Wrote}
use Rattle.net_text.proofs.Writer.put_cart.Given as goal

abbrev pub invariant-loop-p : goal.invariant-loop-p
invariant-loop-p l = Wrote (each l.p 0 (position_lines (crossing_in l.net) l.c)) l.initial.self l.self
