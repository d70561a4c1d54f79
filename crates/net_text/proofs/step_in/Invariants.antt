-- The loop keeps that none of the steps passed is in the zone.
use Rattle.net_text.proofs.TableLines.{NotYet}
use Rattle.net_text.proofs.step_in.Given as goal

abbrev pub invariant-loop-j : goal.invariant-loop-j
invariant-loop-j l = NotYet l.net.sheet.now l.d l.z l.j
