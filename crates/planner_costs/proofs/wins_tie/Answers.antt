-- Keys are compared as the rule's levels say.
use native.Mathlib.Omega.{arith}
use Rattle.std.proofs.lemmas.Bool.Decides.{nat_tests}
use Rattle.planner_costs.specs.inner.Tables.{wins_tie}
use Rattle.planner_costs.proofs.wins_tie.Goals as goal

pub returns : goal.returns
unfolding wins_tie
returns c = grind (arith, nat_tests)
