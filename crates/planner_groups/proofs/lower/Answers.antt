-- One less than a power of 2 has every lower digit.
use Rattle.planner_groups.proofs.Starting.{bit_least, lower_has}
use Rattle.planner_groups.proofs.lower.Goals as goal

pub overflow_sub-result : goal.overflow_sub-result
overflow_sub-result c = bit_least 16 c.args.c c.requires

pub returns : goal.returns
returns c = lower_has 16 c.args.c c.requires
