-- The loop puts the set of each step passed.
use mathlib.Core.Path.{◌≡◌}
use Rattle.words.specs.Lists.{table}
use Rattle.sheet_table.specs.inner.Parts.{steps, zone}
use Rattle.plan_reader.specs.inner.Scan.{ahead_at}
use Rattle.plan_reader.proofs.put_ahead.Given as goal

abbrev pub invariant-loop-x : goal.invariant-loop-x
invariant-loop-x l = l.ahead ≡ table 128 l.x (ahead_at (steps l.sheet) (zone l.sheet) l.before)
