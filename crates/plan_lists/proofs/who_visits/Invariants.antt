-- The loops keep that the carts passed, and the steps passed of this one, are in their zones' sets.
use mathlib.Core.Path.{◌≡◌}
use Rattle.plan_lists.proofs.VisitLaws.{walked}
use Rattle.sheet_table.specs.inner.Parts as parts
use Rattle.plan_lists.proofs.who_visits.Given as goal

abbrev pub invariant-loop-j : goal.invariant-loop-j
invariant-loop-j l = l.who ≡ walked l.counts (parts.zone l.sheet) l.i l.j

abbrev pub invariant-loop-i : goal.invariant-loop-i
invariant-loop-i l = l.who ≡ walked l.counts (parts.zone l.sheet) l.i 0
