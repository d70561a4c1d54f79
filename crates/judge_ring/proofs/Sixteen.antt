-- A list by a rule, as 16 entries: a table filled so far.
use Prim.Native.Nat.{ℕ, zero, suc, ◌+◌, ◌<◌}
use mathlib.Core.Path.{◌≡◌, refl, sym, ap, ◌∙◌}
use mathlib.Core.List.{List, ◌∷◌, map}
use native.Mathlib.Omega.{arith}
use native.Mathlib.Decide.{dec_lt}
use lib.ListN.{get_or, get_or-eq_default}
use lib.Dec.{ltb}
use borrow.Author.Tests.{lt-ltb, le-ltb}
use Rattle.words.specs.Lists.{pick, entries, table}
use Rattle.words.proofs.Entries.{length_entries, at_entry, same_entries}
use Rattle.judge_ring.specs.Ring.{sixteen}

pub map_entries : (wanted rule : ℕ → ℕ) (n i : ℕ) → map wanted (entries n i rule) ≡ entries n i (λ x. wanted (rule x))
unfolding entries
map_entries wanted rule zero i = refl
map_entries wanted rule (suc n) i = ap (λ (l : List ℕ). wanted (rule i) ∷ l) (map_entries wanted rule n (i + 1))

pub sixteen_filled : (rule : ℕ → ℕ) (n : ℕ) → sixteen (entries n 0 rule) ≡ table 16 n rule
sixteen_filled rule n = same_entries 16 _ _ λ x _. go x (dec_lt x n)
  where
    go : (x : ℕ) → Dec (x < n) → get_or (entries n 0 rule) x 0 ≡ pick (ltb x n) (rule x) 0
    go x (yes l) = at_entry n rule x l ∙ sym (rw (lt-ltb x n l))
    go x (no m) = get_or-eq_default (entries n 0 rule) 0 {n = x} (omega (arith, m, length_entries n 0 rule)) ∙ sym (rw (le-ltb x n (omega (arith, m))))
