-- The invariants say that the work from the loop's start is the work that is left: of the carts, and within one of its steps.
use Prim.Native.Nat.{◌+◌, ◌-◌}
use mathlib.Core.Path.{◌≡◌}
use Rattle.sets.specs.inner.Member.{has}
use Rattle.sheet_filling.specs.inner.Filled.{sheet_in}
use Rattle.sheet_carts.specs.inner.Scan.{carts_from, steps_from}
use Rattle.sheet_carts.proofs.scan_carts.Given as goal

abbrev pub invariant-loop-j : goal.invariant-loop-j
invariant-loop-j l =
    steps_from l.s l.i l.k l.k 0 (has l.initial.seen) (sheet_in l.n l.m l.initial.sheet) l.initial.at
    (λ sh at'. carts_from l.s (l.m - (l.i + 1)) (l.i + 1) sh l.spot at')
    ≡ steps_from l.s l.i l.k (l.k - l.j) l.j (has l.seen) (sheet_in l.n l.m l.sheet) l.at
    (λ sh at'. carts_from l.s (l.m - (l.i + 1)) (l.i + 1) sh l.spot at')

abbrev pub invariant-loop-i : goal.invariant-loop-i
invariant-loop-i l =
    carts_from l.s l.m 0 (sheet_in l.n l.m l.initial.sheet) l.initial.spot l.initial.at ≡ carts_from l.s (l.m - l.i) l.i (sheet_in l.n l.m l.sheet) l.spot l.at
