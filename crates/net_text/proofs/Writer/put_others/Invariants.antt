-- The loop keeps that the lines with the carts passed are written.
use Rattle.words.specs.Lists.{each}
use Rattle.net_text.specs.inner.Writing.{Wrote}
use Rattle.net_text.specs.inner.Tables.{other_in}
use Rattle.net_text.proofs.Writer.put_others.Given as goal

abbrev pub invariant-loop-d : goal.invariant-loop-d
invariant-loop-d l = Wrote (each l.d 0 (other_in l.net.sheet.now l.front l.ahead l.c l.p)) l.initial.self l.self
