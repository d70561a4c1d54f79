use mathlib.Core.Path.{◌∙◌}
use native.Mathlib.Omega.{arith}
use Rattle.plan_lists.proofs.VisitLaws.{walked_none, walked_step, walked_route, walked_all}
use Rattle.plan_lists.proofs.who_visits.Goals as goal

pub loop-i-init : goal.loop-i-init
loop-i-init c = walked_none _ _

pub loop-j-preserved : goal.loop-j-preserved
loop-j-preserved c = rw c.zone-z.ensures (walked_step _ _ _ _ _ _
    (c.requires.known c.loop-i.i c.loop-j.j (omega arith)) (omega (arith, c.with.type_inv))
    c.loop-j.invariant (rw c.zone-z.ensures at c.with.ensures))

pub loop-i-preserved : goal.loop-i-preserved
loop-i-preserved c = c.loop-j.invariant ∙ walked_route _ _ _ _ (omega arith)

pub returns : goal.returns
returns c = c.loop-i.invariant ∙ walked_all _ _ _ (omega arith)
