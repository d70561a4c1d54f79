-- The opened group's first run comes out, so its trial is under way.
use Rattle.planner_trials.proofs.Group.{opened_sound, opened_trial, opened_tried}
use Rattle.planner_trials.proofs.try_opened.Goals as goal

pub verdict_of-requires : goal.verdict_of-requires
verdict_of-requires c = opened_sound _ _ _ _ _ _ _ _ _ c.requires _ _ _ c.open_group.ensures

pub try_pairs-requires : goal.try_pairs-requires
try_pairs-requires c = opened_trial _ _ _ _ _ _ _ _ _ c.requires _ _ _ c.open_group.ensures _ _ c.verdict_of.ensures

pub returns : goal.returns
returns c = opened_tried _ _ _ _ _ _ _ _ _ c.requires _ _ _ c.open_group.ensures _ _ _ _ c.try_pairs.ensures
