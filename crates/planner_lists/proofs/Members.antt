-- A set told by a test has as many members as pass it.
use Prim.Native.Nat.{ℕ, ◌<◌}
use mathlib.Core.Path.{◌≡◌, refl, sym, ap, ◌∙◌}
use mathlib.Core.Bool.{Bool, true, false, ◌&&◌, and-false}
use lib.Dec.{ltb}
use lib.Count.{ones}
use borrow.Author.Tests.{lt-ltb}
use Rattle.sets.specs.inner.Member.{has}
use Rattle.sets.specs.Counting.{count_below, set_below}
use Rattle.sets.proofs.Laws.{has_same}
use Rattle.sets.proofs.Counting.{has_all, ones_set}

pub ones_upto : (m set : ℕ) (test : ℕ → Bool) → ((d : ℕ) → has set d ≡ test d) → ((d : ℕ) → test d ≡ true → d < m) → ones set ≡ count_below m test
ones_upto m set test is below =
    ap ones (has_same set (set_below m test) (λ d. is d ∙ sym (has_all m test d ∙ inside d (test d) refl))) ∙ ones_set m test
  where
    inside : (d : ℕ) (t : Bool) → test d ≡ t → (ltb d m && test d) ≡ test d
    inside d true passes = rw (lt-ltb d m (below d passes))
    inside d false fails = rw (fails, and-false (ltb d m))
