-- What the opened group's trial ends with, the group closed; or the tables put back.
use Rattle.planner_trials.proofs.Group.{group_tried, group_failed}
use Rattle.planner_trials.proofs.try_group.Goals as goal

pub try_opened-requires : goal.try_opened-requires
try_opened-requires c = c.requires

pub returns-then-try_opened : goal.returns-then-try_opened
returns-then-try_opened c = group_tried _ _ _ _ _ _ _ _ _ c.requires _ _ _ _
    c.try_opened.ensures c.if-try_opened.true

pub returns : goal.returns
returns c = group_failed _ _ _ _ _ _ _ _ _ c.requires _ _ _ _
    c.try_opened.ensures c.if-try_opened.false
