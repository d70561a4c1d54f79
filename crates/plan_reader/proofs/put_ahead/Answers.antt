-- The table has the sets of the steps passed; in the end of all.
use mathlib.Core.Path.{◌∙◌}
use native.Mathlib.Omega.{arith}
use Rattle.words.proofs.Filling.{table_none, table_next, table_all}
use Rattle.plan_reader.specs.inner.Scan.{ahead_of}
use Rattle.plan_reader.proofs.put_ahead.Goals as goal

pub loop-x-init : goal.loop-x-init
loop-x-init c = c.requires.1 ∙ table_none 128 _

pub loop-x-preserved : goal.loop-x-preserved
loop-x-preserved c = table_next 128 _ _ _ _ (omega arith) c.ahead_at.ensures c.loop-x.invariant

pub returns : goal.returns
unfolding ahead_of
returns c = c.loop-x.invariant ∙ table_all 128 _ _ (omega arith)
