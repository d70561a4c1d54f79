-- The loop keeps that the first j steps were entered in turn.
use Rattle.moving_record.specs.inner.Tables.{InTurn}
use Rattle.sheet_table.specs.inner.Parts as parts
use Rattle.moving_record.proofs.in_turn.Given as goal

abbrev pub invariant-loop-j : goal.invariant-loop-j
invariant-loop-j l = InTurn (parts.zone l.sheet) l.ahead l.left l.c l.j
