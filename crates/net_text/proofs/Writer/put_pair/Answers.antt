-- A pair's three lines, where the other cart is in the set.
use mathlib.Core.Path.{sym, ◌∙◌}
use Rattle.net_text.proofs.LineLaws.{wrote_none, wrote_then}
use Rattle.net_text.proofs.TableLines.{pair_is, pair_none}
use Rattle.net_text.proofs.Writer.put_pair.Goals as goal

pub returns-then-has : goal.returns-then-has
returns-then-has c = let a = c.args in
    rw (pair_is a.net.now.sheet.now a.ahead a.c a.p a.d _ _ (sym c.has.ensures ∙ c.if-has.true) c.zone-z.ensures c.step_in-q.ensures.0)
    (wrote_then c.put.ensures (wrote_then c.put-then-has.ensures c.put-then-has-2.ensures))

pub returns-else-has : goal.returns-else-has
returns-else-has c = let a = c.args in
    rw (pair_none a.net.now.sheet.now a.ahead a.c a.p a.d (sym c.has.ensures ∙ c.if-has.false)) wrote_none
