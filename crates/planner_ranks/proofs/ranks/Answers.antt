-- The table has the ranks of the carts passed; in the end of all.
use native.Mathlib.Omega.{arith}
use Rattle.words.proofs.Filling.{table_none, table_next}
use Rattle.planner_ranks.proofs.Ranking.{ranked_all}
use Rattle.planner_ranks.proofs.ranks.Goals as goal

pub loop-c-init : goal.loop-c-init
loop-c-init c = table_none 16 _

pub loop-c-preserved : goal.loop-c-preserved
loop-c-preserved c = table_next 16 _ _ _ _ (omega arith) c.rank_of.ensures c.loop-c.invariant

pub returns : goal.returns
returns c = ranked_all _ _ _ _ (omega arith) (omega arith) c.loop-c.invariant
