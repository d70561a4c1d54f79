-- The opposite is decided and run; where it comes out it is kept, else this direction is.
use Prim.Native.Nat.{◌+◌, ◌*◌}
use mathlib.Core.Path.{ap, ◌∙◌}
use mathlib.Core.Bool.{true, false, not}
use native.Mathlib.Omega.{arith}
use Rattle.planner_trials.proofs.Deciding.{opposite_sound, opposite_decided, this_sound, this_decided}
use Rattle.planner_trials.proofs.Told.{out_is}
use Rattle.planner_trials.proofs.decide_either.Goals as goal

pub zone-requires : goal.zone-requires
zone-requires c = c.requires.candidate.step_below

pub overflow_mul-other : goal.overflow_mul-other
overflow_mul-other c = omega (arith, c.requires.underway.told.zone_most c.args.choice.step, c.zone.ensures)

pub overflow_add-other : goal.overflow_add-other
overflow_add-other c = omega (arith, c.requires.underway.told.zone_most c.args.choice.step, c.requires.candidate.first_below, c.zone.ensures)

pub bounds-known-zone : goal.bounds-known-zone
bounds-known-zone c = omega (
  arith,
  c.requires.underway.told.zone_most c.args.choice.step,
  c.requires.candidate.first_below,
  c.zone.ensures,
)

pub overflow_cast-other : goal.overflow_cast-other
overflow_cast-other c = omega (arith, c.requires.underway.told.places.below (16 * c.zone.result + c.args.choice.first))

pub decide-requires : goal.decide-requires
decide-requires c = (
  omega (
    arith,
    c.requires.underway.told.places.below
        (16 * c.zone.result + c.args.choice.first),
  ),
  c.requires.candidate.step_below,
)

pub verdict_of-stuck-requires : goal.verdict_of-stuck-requires
verdict_of-stuck-requires c = opposite_sound _ _ _ _ _ _ _ c.requires.candidate _ _ _
    (rw c.zone.ensures at c.decide.ensures) (c.requires.ranks, c.requires.pairs, c.requires.underway)

pub returns-then-is_none : goal.returns-then-is_none
returns-then-is_none c = opposite_decided _ _ _ _ _ _ _ c.requires.candidate _ _ _
    (rw c.zone.ensures at c.decide.ensures) _ _ c.verdict_of-stuck.ensures (out_is _ false (c.is_none.ensures ∙ ap not c.if-is_none.true))

pub turn_round-requires : goal.turn_round-requires
turn_round-requires c = (omega (arith, c.requires.underway.told.places.below (16 * c.zone.result + c.args.choice.first)), c.requires.candidate.step_below)

pub verdict_of-requires : goal.verdict_of-requires
verdict_of-requires c = this_sound _ _ _ _ _ _ _ c.requires.candidate _ _ _ (rw c.zone.ensures at c.decide.ensures) _ _ c.verdict_of-stuck.ensures
    (out_is _ true (c.is_none.ensures ∙ ap not c.if-is_none.false)) _ _ (rw c.zone.ensures at c.turn_round.ensures.0)
    (c.requires.ranks, c.requires.pairs, c.requires.underway)

pub returns : goal.returns
returns c = rw c.turn_round.ensures.1 (this_decided _ _ _ _ _ _ _ c.requires.candidate _ _ _ (rw c.zone.ensures at c.decide.ensures) _ _
    c.verdict_of-stuck.ensures (out_is _ true (c.is_none.ensures ∙ ap not c.if-is_none.false)) _ _ (rw c.zone.ensures at c.turn_round.ensures.0) _ _
    c.verdict_of.ensures)
