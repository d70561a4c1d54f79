-- Calls of a closure that changes nothing, at each number below n in turn: what they are asked, as `array::from_fn` asks it, and what a search by them finds.
use Prim.Native.Nat.{ℕ, ◌<◌}
use mathlib.Core.Path.{◌≡◌, sym, subst}
use mathlib.Core.List.{List, [], ◌∷◌}
use mathlib.Core.Bool.{Bool, true, false}
use native.Mathlib.Omega.{arith}
use lib.ListN.{length, get_or}
use denote.Param.Members.{Mut, Called}
use Rattle.std.specs.Prelude.{Some, MatchBool}
use Rattle.std.specs.List.{FoldsTo}
use Rattle.std.specs.Iterator.{CallableAtEachTurn, Yields, ChecksAny}
use Rattle.std.specs.Array.{index_steps}
use Rattle.std.specs.List.{range_with_len, AllWithin, HoldsAt}
use Rattle.std.specs.declared.ops.Range.{Range}
use Rattle.std.proofs.iter.Yields.{nat_range_steps}
use Rattle.std.proofs.lemmas.Iterator.{cases_from_any, YieldsList-from_range}
use Rattle.std.proofs.lemmas.List.FromFn.{length-range_with_len, get_or-range_with_len}
use Rattle.words.specs.Lists.{any_below}
use Rattle.words.proofs.Any.{any_found, none_any}

module _ {F : Type 0} (g : Mut F (ℕ × Unit {0}) ℕ) (f : F) (n : ℕ) where
  abbrev Turn : F → ℕ → F → Type 0
  Turn p i q = (r : ℕ) × Called g p (i, tt) r q

  module _ (stays : (i r : ℕ) (q : F) → Called g f (i, tt) r q → q ≡ f) (takes : (i : ℕ) → i < n → g.pre f (i, tt)) where
    each_taken : (done : List ℕ) (s t i u : ℕ) (q : F) → Yields (index_steps n) s done t → FoldsTo Turn f done q → index_steps n t (Some i) u → g.pre q (i, tt)
    each_taken [] s t i u q y c e = rw (← c) (takes i (omega (arith, e)))
    each_taken (j ∷ done) s t i u q y c e =
        each_taken done y.0 t i u q y.2 (subst (λ (p : F). FoldsTo Turn p done q) (stays j c.1.0 c.0 c.1.1) c.2) e

    pub calls_taken : CallableAtEachTurn (index_steps n) Turn (λ p i. g.pre p (i, tt)) 0 f
    calls_taken = record { at = λ done t q i u y c e. each_taken done 0 t i u q y c e }

-- whether a closure answers true at some number below n, where it answers by a test
pub calls_any : {F : Type 0} {g : Mut F (ℕ × Unit {0}) Bool} (f : F) (s u : Range ℕ) (n : ℕ) (r : Bool) (test : ℕ → Bool) → s ≡ record { start = 0; end = n }
    → ChecksAny nat_range_steps g s f r u → ((k : ℕ) (b : Bool) (q : F) → Called g f (k, tt) b q → (q ≡ f) × (b ≡ test k)) → r ≡ any_below test n
calls_any f s u n r test from ran says =
    by r (cases_from_any u f r (λ k. test k ≡ true) (λ k. test k ≡ false) ran (YieldsList-from_range 0 n n from (omega arith))
    (λ k q c. sym (says k true q c).1) (λ k q c. ((says k false q c).0, sym (says k false q c).1)))
  where
    all : List ℕ
    all = range_with_len 0 n

    here : (k : ℕ) → k < n → get_or all k 0 ≡ k
    here k l = omega (arith, get_or-range_with_len 0 n k 0 l)

    by : (b : Bool) → MatchBool b ((k : ℕ) × (k < length all) × HoldsAt (λ k. test k ≡ true) all k)
        (AllWithin (λ k. test k ≡ false) all 0 (length all)) → b ≡ any_below test n
    by true (k, l, h) = let below : k < n = omega (arith, length-range_with_len 0 n) in sym (any_found test n k below (rw (here k below) at (h 0)))
    by false h = sym (none_any test n λ k l. rw (here k l) at (h k 0 (omega arith) (omega (arith, length-range_with_len 0 n))))
