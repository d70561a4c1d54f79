-- Cart by cart: the candidate is taken over the choice, or the choice stays.
use mathlib.Core.Path.{sym, ◌∙◌}
use Rattle.planner_costs.proofs.Scanning.{scan_start, scan_over, scan_stays, scan_end}
use Rattle.planner_costs.proofs.largest_at.Goals as goal

pub loop-others-init : goal.loop-others-init
loop-others-init c = scan_start _ _ _ c.requires.so_far

pub loop-others-preserved-then-is_taken : goal.loop-others-preserved-then-is_taken
loop-others-preserved-then-is_taken c = scan_over _ _ _ _ _ c.lowest-a.ensures.1
    c.rest-others.ensures c.requires.is_step c.lowest-a.ensures.0 _ (record { sfits = c.cost_of-cost.type_inv })
    (rw (c.passing.ensures, c.cross-gap.ensures, c.zone-z.ensures) at c.cost_of-cost.ensures) _ c.loop-others.invariant
    (sym c.is_taken.ensures ∙ c.if-is_taken.true)

pub loop-others-preserved : goal.loop-others-preserved
loop-others-preserved c = scan_stays _ _ _ _ _ c.lowest-a.ensures.1
    c.rest-others.ensures c.requires.is_step c.lowest-a.ensures.0 _ (record { sfits = c.cost_of-cost.type_inv })
    (rw (c.passing.ensures, c.cross-gap.ensures, c.zone-z.ensures) at c.cost_of-cost.ensures) _ c.loop-others.invariant
    (sym c.is_taken.ensures ∙ c.if-is_taken.false)

pub returns : goal.returns
returns c = scan_end _ _ _ c.loop-others-test.false _ c.loop-others.invariant
