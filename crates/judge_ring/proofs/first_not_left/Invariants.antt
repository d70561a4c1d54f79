-- The loop keeps what the rest of the list says.
use Prim.Native.Nat.{◌+◌, ◌*◌, ◌-◌}
use mathlib.Core.Path.{◌≡◌}
use mathlib.Core.Bool.{not}
use lib.ListN.{get_or}
use Rattle.words.specs.Lists.{entries}
use Rattle.sets.specs.inner.Member.{has}
use Rattle.routes.specs.Lists.{first_of}
use Rattle.judge_ring.specs.inner.Tables.{first_not_left}
use Rattle.judge_ring.proofs.first_not_left.Given as goal

abbrev pub invariant-loop-k : goal.invariant-loop-k
invariant-loop-k l = first_not_left l.orders.count l.orders.list l.left l.z ≡ first_of (λ d. not (has (get_or l.left l.z 0) d))
    (entries (l.n - l.k) l.k λ j. get_or l.orders.list (16 * l.z + j) 0)
