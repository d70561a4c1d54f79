-- What `all` answers, at each number below n in turn, of a closure that changes nothing: whether a fact holds at each of them, where a call answers whether it holds at one.
use Prim.Native.Nat.{ℕ, ◌<◌}
use mathlib.Core.Path.{◌≡◌, refl}
use mathlib.Core.List.{List}
use mathlib.Core.Bool.{Bool, true, false, false≢true}
use native.Mathlib.Omega.{arith}
use lib.ListN.{length, get_or}
use denote.Param.Members.{Mut, Called}
use Rattle.std.specs.Prelude.{MatchBool, ◌↔◌}
use Rattle.std.specs.Iterator.{ChecksAll}
use Rattle.std.specs.List.{range_with_len, AllWithin, HoldsAt}
use Rattle.std.specs.declared.ops.Range.{Range}
use Rattle.std.proofs.iter.Yields.{nat_range_steps}
use Rattle.std.proofs.lemmas.Iterator.{cases_from_all, YieldsList-from_range}
use Rattle.std.proofs.lemmas.List.FromFn.{length-range_with_len, get_or-range_with_len}

pub calls_all : {F : Type 0} {g : Mut F (ℕ × Unit {0}) Bool} (f : F) (s u : Range ℕ) (n : ℕ) (r : Bool) (P : ℕ → Type 0) → s ≡ record { start = 0; end = n }
    → ChecksAll nat_range_steps g s f r u
    → ((k : ℕ) (q : F) → Called g f (k, tt) true q → (q ≡ f) × P k)
    → ((k : ℕ) (q : F) → Called g f (k, tt) false q → ¬ (P k))
    → (r ≡ true) ↔ ((k : ℕ) → k < n → P k)
calls_all f s u n r P from ran holds fails =
    by r (cases_from_all u f r P (λ k. ¬ (P k)) ran (YieldsList-from_range 0 n n from (omega arith)) holds fails)
  where
    all : List ℕ
    all = range_with_len 0 n

    here : (k : ℕ) → k < n → get_or all k 0 ≡ k
    here k l = omega (arith, get_or-range_with_len 0 n k 0 l)

    by : (b : Bool) → MatchBool b (AllWithin P all 0 (length all)) ((k : ℕ) × (k < length all) × HoldsAt (λ k. ¬ (P k)) all k)
        → (b ≡ true) ↔ ((k : ℕ) → k < n → P k)
    by true h = (λ _ k l. rw (here k l) at (h k 0 (omega arith) (omega (arith, length-range_with_len 0 n))), λ _. refl)
    by false (k, l, h) =
        let below : k < n = omega (arith, length-range_with_len 0 n) in
        (λ e. absurd (false≢true e), λ every. absurd (rw (here k below) at (h 0) (every k below)))
