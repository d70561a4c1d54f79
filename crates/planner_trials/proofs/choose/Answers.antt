-- The calls get what a trial under way gives, and their answers make the choice.
use Rattle.planner_trials.proofs.Choosing.{trial_leavable, trial_ready, trial_range, chosen_told}
use Rattle.planner_trials.proofs.choose.Goals as goal

pub finish_of-finish-requires : goal.finish_of-finish-requires
finish_of-finish-requires c = trial_leavable _ _ _ _ _ _ _ _ c.requires.0.runs_out c.requires.0.underway

pub spare_times-requires : goal.spare_times-requires
spare_times-requires c = trial_ready _ _ _ _ _ _ _ _ c.requires.0.runs_out _ c.requires.1 _
    c.finish_of-finish.ensures c.requires.0.underway

pub largest_cost-requires : goal.largest_cost-requires
largest_cost-requires c = trial_range _ _ _ _ _ _ _ _ c.requires.0.runs_out _ _
    c.finish_of-finish.ensures c.spare_times.ensures c.requires.0.underway

pub returns : goal.returns
returns c = chosen_told _ _ _ _ _ _ _ _ c.finish_of-finish.ensures c.spare_times.ensures _ c.largest_cost.ensures
