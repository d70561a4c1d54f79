-- The lane holds the cart, or the zone decides.
use mathlib.Core.Path.{refl, sym, ◌∙◌}
use Rattle.judge_entering.proofs.Holding.{front_16}
use Rattle.judge_one_move.proofs.Steps.{x_few, free_says, held_says}
use Rattle.judge_one_move.proofs.may_go_in.Goals as goal

pub lane_holds-requires : goal.lane_holds-requires
lane_holds-requires c = (c.requires.1, front_16 _ _ c.args.ground.now.lanes_are _ c.requires.1)

pub returns-then-lane_holds : goal.returns-then-lane_holds
returns-then-lane_holds c = held_says _ _ _ _ c.requires.0 _ c.requires.1 c.requires.2 _ refl
    (sym (c.lane_holds.ensures _ _ c.args.ground.now.lanes_are) ∙ c.if-lane_holds.true)

pub may_enter-requires : goal.may_enter-requires
may_enter-requires c = x_few _ _ _ _ c.requires.0 _ c.requires.1 c.requires.2 _ (rw c.from.ensures)

pub returns : goal.returns
returns c = free_says _ _ _ _ c.requires.0 _ c.requires.1 c.requires.2 _ (rw c.from.ensures)
    (sym (c.lane_holds.ensures _ _ c.args.ground.now.lanes_are) ∙
    c.if-lane_holds.false) _ c.may_enter.ensures
