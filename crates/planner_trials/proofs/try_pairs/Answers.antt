use mathlib.Core.Path.{sym, ◌∙◌}
use mathlib.Core.Bool.{true, false}
use Rattle.planner_trials.proofs.Choosing.{trial_lanes}
use Rattle.planner_trials.proofs.Told.{out_is, none_out}
use Rattle.planner_trials.proofs.Pairs.{tried_none, pairs_choosable, pairs_tried, pairs_decidable, tried_more, tries_fall}
use Rattle.planner_trials.proofs.Pairs.{pairs_failed}
use Rattle.planner_trials.proofs.try_pairs.Goals as goal

pub rears-rears-requires : goal.rears-rears-requires
rears-rears-requires c = trial_lanes _ _ _ _ _ _ _ _ c.requires.runs_out c.requires.underway

pub loop-choice-init : goal.loop-choice-init
loop-choice-init c = tried_none _ _ _ _ _ _ _ c.requires

pub choose-requires : goal.choose-requires
choose-requires c = (pairs_choosable _ _ _ _ _ _ _ c.requires _ _ _ _ c.loop-choice.invariant, c.rears-rears.ensures)

pub decide_either-requires : goal.decide_either-requires
decide_either-requires c = pairs_decidable _ _ _ _ _ _ _ c.requires _ _ _ _ c.loop-choice.invariant _ c.choose.ensures c.in-Some.choice c.in-Some.is

pub returns-then-is_some : goal.returns-then-is_some
returns-then-is_some c = pairs_failed _ _ _ _ _ _ _ c.requires _ _ _ _ c.loop-choice.invariant _ c.choose.ensures c.in-Some.choice c.in-Some.is
    _ _ _ _ _ c.decide_either.ensures (out_is _ true (sym c.is_some.ensures ∙ c.if-is_some.true))

pub loop-choice-smaller : goal.loop-choice-smaller
loop-choice-smaller c = tries_fall _ _ _ _ _ _ _ c.requires _ _ _ _ c.loop-choice.invariant _ c.choose.ensures c.in-Some.choice c.in-Some.is
    _ _ _ _ _ c.decide_either.ensures (none_out _ (out_is _ false (sym c.is_some.ensures ∙ c.if-is_some.false)))

pub loop-choice-preserved : goal.loop-choice-preserved
loop-choice-preserved c = tried_more _ _ _ _ _ _ _ c.requires _ _ _ _ c.loop-choice.invariant _ c.choose.ensures c.in-Some.choice c.in-Some.is
    _ _ _ _ _ c.decide_either.ensures (none_out _ (out_is _ false (sym c.is_some.ensures ∙ c.if-is_some.false)))

pub returns : goal.returns
returns c = pairs_tried _ _ _ _ _ _ _ c.requires _ _ _ _ c.loop-choice.invariant _ c.choose.ensures c.in_default.is
