use mathlib.Core.Path.{◌≡◌, refl, ◌∙◌}
use native.Mathlib.Omega.{arith}
use Rattle.planner_groups.proofs.Sets.{least_more, least_skip, least_none}
use Rattle.planner_groups.proofs.at_least.Goals as goal
use Rattle.planner_groups.proofs.at_least.Goals.{then-least-ranks, else-least-ranks}

pub loop-c-init : goal.loop-c-init
loop-c-init c = least_none _

pub loop-c-preserved : goal.loop-c-preserved
loop-c-preserved c = let so_far = c.loop-c.invariant in
    elim c.if-least-ranks.branch [
      | then-least-ranks w ↦ w.set-is ∙ least_more c.args.ranks.now _ _ _ _ so_far refl _ w.if-least-ranks.true w.with-set.ensures
      | else-least-ranks w ↦ w.set-is ∙ least_skip c.args.ranks.now _ _ _ _ so_far refl w.if-least-ranks.false
    ]

pub returns : goal.returns
returns c = let ends : c.loop-c.c ≡ 16 = omega arith in
    rw ends at c.loop-c.invariant
