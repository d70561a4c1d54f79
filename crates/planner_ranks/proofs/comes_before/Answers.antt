-- Pairs are compared as the rule says; written out, for a wrong order is then refused at values.
use Rattle.std.proofs.Common.{arith}
use Rattle.std.proofs.lemmas.Bool.Decides.{nat_tests}
use Rattle.planner_ranks.proofs.comes_before.Goals as goal

pub returns : goal.returns
returns c = grind (arith, nat_tests)
