-- The loop keeps, of the sheet with any number of zones, that the checks from its start are those that are left.
use Prim.Native.Nat.{ℕ, ◌-◌}
use mathlib.Core.Path.{◌≡◌}
use Rattle.sheet_filling.specs.inner.Filled.{sheet_in}
use Rattle.sheet_carts.specs.inner.Scan.{lanes_from}
use Rattle.sheet_carts.proofs.finished.Given as goal

abbrev pub invariant-loop-i : goal.invariant-loop-i
invariant-loop-i l = (n : ℕ) → lanes_from (sheet_in n l.m l.sheet) l.spot l.m 0 ≡ lanes_from (sheet_in n l.m l.sheet) l.spot (l.m - l.i) l.i
