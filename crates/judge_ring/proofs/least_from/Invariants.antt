-- The loop keeps the lowest cart passed, and what is left to pass.
use Prim.Native.Nat.{◌-◌, ◌≤◌, ◌<◌, min}
use mathlib.Core.Path.{◌≡◌}
use Rattle.moves.specs.Rings.{least_from}
use Rattle.judge_ring.specs.inner.Tables.{by_table}
use Rattle.judge_ring.proofs.least_from.Given as goal

abbrev pub invariant-loop : goal.invariant-loop
invariant-loop l = (least_from (by_table l.to) 16 l.c ≡ min l.least (least_from (by_table l.to) (16 - l.counter) l.d)) × (l.least ≤ l.d) × (l.d < 16)
