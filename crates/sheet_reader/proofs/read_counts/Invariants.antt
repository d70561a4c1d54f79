-- The loop keeps that the work from its start is the work that is left.
use Prim.Native.Nat.{◌-◌}
use mathlib.Core.Path.{◌≡◌}
use Rattle.sheet_filling.specs.inner.Filled.{sheet_in}
use Rattle.sheet_reader.specs.inner.Scan.{zones_from}
use Rattle.sheet_reader.proofs.read_counts.Given as goal

abbrev pub invariant-loop-z : goal.invariant-loop-z
invariant-loop-z l = zones_from l.s l.n 0 (sheet_in l.n 0 l.initial.sheet) l.initial.at ≡ zones_from l.s (l.n - l.z) l.z (sheet_in l.n 0 l.sheet) l.at
