use Prim.Native.Nat.{◌-◌}
use mathlib.Core.Path.{◌∙◌}
use native.Mathlib.Omega.{arith}
use Rattle.plan_lists.proofs.LeadLaws.{allowed_none, allowed_next, leads_none, leads_next, leads_all}
use Rattle.plan_lists.proofs.may_lead.Goals as goal

pub loop-i-init : goal.loop-i-init
loop-i-init c = (allowed_none _, leads_none _)

pub loop-i-preserved : goal.loop-i-preserved
loop-i-preserved c = (
  rw c.lane-l.ensures (allowed_next _ _ _ (omega arith) _ c.loop-i.invariant.0 _
      (omega (arith, c.requires (c.loop-i.i - 1))) (omega (arith, c.without.type_inv))
      (rw c.lane-l.ensures at c.without.ensures)),
  rw c.lane-l.ensures
      (leads_next _ _ _ (omega arith) _ c.loop-i.invariant.0 _
      (omega (arith, c.requires (c.loop-i.i - 1))) (omega arith) c.loop-i.invariant.1),
)

pub returns : goal.returns
returns c = c.loop-i.invariant.1 ∙ leads_all _ _ (omega arith)
