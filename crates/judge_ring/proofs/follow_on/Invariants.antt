-- The loop keeps where pointing has led so far.
use Prim.Native.Nat.{◌<◌}
use mathlib.Core.Path.{◌≡◌}
use Rattle.moves.specs.Rings.{follow}
use Rattle.judge_ring.specs.inner.Tables.{by_table}
use Rattle.judge_ring.proofs.follow_on.Given as goal

abbrev pub invariant-loop : goal.invariant-loop
invariant-loop l = (l.d ≡ follow (by_table l.to) l.counter l.c) × (l.d < 16)
