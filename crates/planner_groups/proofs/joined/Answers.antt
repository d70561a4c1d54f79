-- What is shared joins the set, or nothing does.
use Rattle.planner_groups.proofs.Sets.{joined_on, joined_off}
use Rattle.planner_groups.proofs.joined.Goals as goal

pub returns-then-on : goal.returns-then-on
returns-then-on c = rw c.if-on.true (joined_on c.args.old c.args.more c.args.among)

pub returns : goal.returns
returns c = rw c.if-on.false (joined_off c.args.old c.args.more c.args.among)
