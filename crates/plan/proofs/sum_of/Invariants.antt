-- The loop keeps the sum of the bytes passed, at most 255 for each.
use Prim.Native.Nat.{◌*◌, ◌≤◌}
use mathlib.Core.Path.{◌≡◌}
use lib.ListN.{get_or}
use Rattle.plan.specs.Valid.{sum_below}
use Rattle.plan.proofs.sum_of.Given as goal

abbrev pub invariant-loop-byte : goal.invariant-loop-byte
invariant-loop-byte l = (l.sum ≡ sum_below l.byte-index (λ e. get_or l.bytes e 0)) × (l.sum ≤ 255 * l.byte-index)
