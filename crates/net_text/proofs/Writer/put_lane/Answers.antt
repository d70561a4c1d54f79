-- The stop line's three lines, where both tests hold.
use mathlib.Core.Path.{sym, ◌∙◌}
use borrow.Author.Tests.{eq-eqb, ne_eqb}
use Rattle.net_text.proofs.LineLaws.{wrote_none, wrote_then}
use Rattle.net_text.proofs.Writer.put_lane.Goals as goal
use Rattle.net_text.proofs.Writer.put_lane.Goals.{else-p-eq0-via-then-p-eq0+else-eq, else-p-eq0-via-else-p-eq0}

pub returns-then-eq : goal.returns-then-eq
returns-then-eq c = rw (eq-eqb _ _ c.if-p-eq0.true, sym c.eq.ensures ∙ c.if-eq.true)
    (wrote_then c.put.ensures (wrote_then c.put-then-eq.ensures c.put-then-eq-2.ensures))

pub returns-else-p-eq0 : goal.returns-else-p-eq0
returns-else-p-eq0 c = elim c.else-p-eq0.branch [
  | else-p-eq0-via-then-p-eq0+else-eq w ↦ rw (eq-eqb _ _ w.if-p-eq0.true, sym w.eq.ensures ∙ w.if-eq.false) wrote_none
  | else-p-eq0-via-else-p-eq0 w ↦ rw (ne_eqb _ _ w.if-p-eq0.false) wrote_none
]
