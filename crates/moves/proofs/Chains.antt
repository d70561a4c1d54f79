-- Where all carts can come out, whoever points from a cart that is not out comes to a cart that may move, and passes no cart twice:
-- carts that are held and repeat would be a ring, and so a cycle of moves.
use Prim.Native.Nat.{ℕ, zero, suc, ◌+◌, ◌-◌, ◌≤◌, ◌<◌}
use mathlib.Core.Path.{◌≡◌, sym, ap, ◌∙◌}
use mathlib.Core.Logic.{◌≢◌}
use mathlib.Core.Bool.{Bool, true, false, true≢false}
use mathlib.Core.Option
use mathlib.Core.Option.{Option, none, some}
use mathlib.Core.List.{List}
use native.Mathlib.Omega.{arith}
use lib.ListN.{length, get_or}
use Rattle.words.specs.Lists.{entries}
use Rattle.words.proofs.Entries.{length_entries, at_entry}
use Rattle.moves.specs.System.{System, carts, pos, start}
use Rattle.moves.specs.Search.{lowest}
use Rattle.moves.specs.inner.Search.{IsLowest}
use Rattle.moves.specs.Moves.{NotOut, is_permitted}
use Rattle.moves.specs.inner.Moves.{Held}
use Rattle.moves.specs.inner.Runs.{AllComeOut}
use Rattle.moves.specs.inner.Records.{Meetable}
use Rattle.moves.specs.Rings.{follow}
use Rattle.moves.specs.inner.Rings.{Points}
use Rattle.moves.specs.Chains.{held_for, chain_of}
use Rattle.moves.specs.inner.Chains.{HeldBy}
use Rattle.moves.proofs.Search.{lowest_is}
use Rattle.moves.proofs.Positions.{pos_inside}
use Rattle.moves.proofs.Moves.{permitted_says, waited_not_out}
use Rattle.moves.proofs.Pointing.{follow_add, follow_repeats}
use Rattle.moves.proofs.Cycles.{WaitsOn, ring_cycle, out_iff_no_cycle}

module _ (S : System) (meet : Meetable S) (all : AllComeOut S (start S)) (s : List ℕ) (to : ℕ → ℕ) (points : Points S s to)
    (c : ℕ) (not_out : NotOut S s c) where
  abbrev passed : ℕ → ℕ
  passed i = follow to i c

  abbrev is_free : ℕ → Bool
  is_free i = is_permitted S s (passed i)

  -- while nobody may move, each cart passed is held, and so the next is not out
  module _ (n : ℕ) (none_free : (i : ℕ) → i < n → is_free i ≡ false) where
    held_if : (i : ℕ) → i < n → NotOut S s (passed i) → Held S s (passed i)
    held_if i l here = record { not_out = here; not_permitted = λ m. true≢false (sym ((permitted_says S s (passed i)).1 m) ∙ none_free i l) }

    still_in : (i : ℕ) → i ≤ n → NotOut S s (passed i)
    still_in zero l = not_out
    still_in (suc i) l =
        let here = still_in i (omega arith) in
        waited_not_out S meet s (passed i) (passed (suc i)) here (points (passed i) (held_if i l here))

    is_held : (i : ℕ) → i < n → Held S s (passed i)
    is_held i l = held_if i l (still_in i (omega arith))

    -- no cart is passed twice
    not_twice : (i k : ℕ) → k + i < n → follow to (suc k) (passed i) ≢ passed i
    not_twice i k l again = (out_iff_no_cycle S meet).0 all (ring_cycle S meet s to (passed i) k on again)
      where
        on : WaitsOn S s to (passed i) k
        on j h = let held = is_held (j + i) (omega arith) in rw (follow_add to j i c) (held.not_out, points (passed (j + i)) held)

  -- so one of the carts may move
  some_free : ¬ ((i : ℕ) → i < carts S → is_free i ≡ false)
  some_free none_free =
      let r = follow_repeats to (carts S) c (λ i l. pos_inside S.out (passed i) (pos s (passed i)) (still_in (carts S) none_free i l)) in
      not_twice (carts S) none_free r.enter r.turn (omega (arith, r.in_time)) r.again

  -- carts that are held, and then one that may move, are such a chain
  free_chain : (n : ℕ) → n < carts S → is_free n ≡ true → ((i : ℕ) → i < n → is_free i ≡ false) → HeldBy S s c (entries (suc n) 0 passed)
  free_chain n l free lower =
      record {
        some = omega (arith, long);
        few = omega (arith, long);
        begins = link 0 (omega arith);
        waits = λ i h. rw (link i (omega (arith, long)), link (suc i) (omega (arith, long))) (points (passed i) (is_held n lower i (omega (arith, long))));
        may_move =
            let last : length (entries (suc n) 0 passed) - 1 ≡ n = omega (arith, long) in
            rw (last, link n (omega arith)) ((permitted_says S s (passed n)).0 free);
        no_cart_twice = λ i j h k.
            let turn = j - i - 1 in
            let round : suc turn + i ≡ j = omega arith in
            rw (link i (omega (arith, long)), link j (omega (arith, long))) (λ same.
            not_twice n lower i turn (omega (arith, long)) (follow_add to (suc turn) i c ∙ ap (λ (x : ℕ). follow to x c) round ∙ sym same));
      }
    where
      long : length (entries (suc n) 0 passed) ≡ suc n
      long = length_entries (suc n) 0 passed

      link : (i : ℕ) → i < suc n → get_or (entries (suc n) 0 passed) i 0 ≡ passed i
      link = at_entry (suc n) passed

  pub held_by : HeldBy S s c (chain_of S s to c)
  unfolding held_for
  held_by = go (lowest is_free (carts S)) (lowest_is is_free (carts S))
    where
      go : (o : Option ℕ) → IsLowest is_free (carts S) o → HeldBy S s c (entries (suc (Option.get_or o (carts S))) 0 passed)
      go none none_free = absurd (some_free none_free)
      go (some n) (l, free, lower) = free_chain n l free lower
