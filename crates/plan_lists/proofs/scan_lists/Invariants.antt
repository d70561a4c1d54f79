-- The invariants say that the work from the loop's start is the work that is left: of the zones, and within one of its entries.
use Prim.Native.Nat.{◌+◌, ◌-◌}
use mathlib.Core.Path.{◌≡◌}
use Rattle.plan_lists.specs.inner.Scan.{no_lists, lists_in, carts_from, lists_from}
use Rattle.plan_lists.proofs.scan_lists.Given as goal

abbrev pub invariant-loop-e : goal.invariant-loop-e
invariant-loop-e l =
    (l.orders.ahead ≡ l.fn.orders.ahead)
    × (carts_from l.p l.visitors l.lead l.z l.k 0 0 (lists_in l.initial.orders l.initial.before l.initial.late) l.initial.at
    (lists_from l.p l.who l.lead (l.n - (l.z + 1)) (l.z + 1)) ≡ carts_from l.p l.visitors l.lead l.z (l.k - l.e) l.e l.seen
    (lists_in l.orders l.before l.late) l.at (lists_from l.p l.who l.lead (l.n - (l.z + 1)) (l.z + 1)))

abbrev pub invariant-loop-z : goal.invariant-loop-z
invariant-loop-z l =
    (l.orders.ahead ≡ l.fn.orders.ahead)
    × (lists_from l.p l.who l.lead l.n 0 no_lists l.initial.at ≡ lists_from l.p l.who l.lead (l.n - l.z) l.z
    (lists_in l.orders l.before l.late) l.at)
