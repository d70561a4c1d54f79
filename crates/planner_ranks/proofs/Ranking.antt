-- A table of ranks counted cart by cart, and they are the removal rule's.
use Prim.Native.Nat.{ℕ, zero, suc, ◌+◌, ◌≤◌, ◌<◌}
use mathlib.Core.Path.{◌≡◌, refl, sym, ap, ◌∙◌}
use mathlib.Core.Bool.{Bool, true, false, cond}
use mathlib.Core.List.{List}
use native.Mathlib.Numerals.{add-one}
use native.Mathlib.Omega.{arith}
use lib.ListN.{get_or}
use Rattle.std.specs.List.{count_by, range_with_len}
use Rattle.std.proofs.lemmas.List.{map-id}
use Rattle.std.proofs.lemmas.List.FromFn.{sum_by-map-range_with_len_more}
use Rattle.words.specs.Lists.{table}
use Rattle.words.proofs.Filling.{table_used, table_unused}
use Rattle.sets.specs.Counting.{bit, count_below}
use Rattle.sets.proofs.Counting.{count_same}
use Rattle.removal.specs.Pairs.{Unplanned, rank}
use Rattle.planner_ranks.specs.inner.Ranks.{comes_before_in, rank_in, Ranks}

-- ---- counting

bit_is : (b : Bool) → cond b 1 0 ≡ bit b
bit_is true = refl
bit_is false = refl

-- a count up from 0 is one down from m
pub count_range : (m : ℕ) (test : ℕ → Bool) → count_by test (range_with_len 0 m) ≡ count_below m test
unfolding count_below
count_range zero test = refl
count_range (suc m) test =
    ap (λ n. count_by test (range_with_len 0 n)) (sym (add-one m))
    ∙ (simp map-id at (sum_by-map-range_with_len_more (λ i. cond (test i) 1 0) (λ (i : ℕ). i) 0 m m (omega arith)))
    ∙ omega (arith, count_range m test, bit_is (test m))

-- one cart more
pub count_next : (n : ℕ) (test : ℕ → Bool) (b : Bool) (rank more : ℕ) → rank ≡ count_below n test → more ≡ bit b → b ≡ test n
    → rank + more ≡ count_below (n + 1) test
unfolding count_below
count_next n test b rank more so_far is e = rw (add-one n, so_far, is, e) (omega arith)

-- all m counted
pub rank_all : (arrival : List ℕ) (m n c rank : ℕ) → n ≡ m → rank ≡ count_below n (λ d. comes_before_in arrival d c) → rank ≡ rank_in arrival m c
rank_all arrival m n c rank e counted =
    counted ∙ ap (λ (k : ℕ). count_below k (λ d. comes_before_in arrival d c)) e ∙ sym (count_range m (λ d. comes_before_in arrival d c))

-- ---- the table

pub ranked_all : (arrival : List ℕ) (m n : ℕ) (ranks : List ℕ) → m ≤ 16 → n ≡ m → ranks ≡ table 16 n (rank_in arrival m) → Ranks arrival m ranks
ranked_all arrival m n ranks few e filled =
    rw (filled, e) (record { each_rank = table_used 16 m (rank_in arrival m) few; of_none = table_unused 16 m (rank_in arrival m) })

-- ---- what they mean

module _ (arrival : List ℕ) (U : Unplanned) (same : (c : ℕ) → U.given.arrival c ≡ get_or arrival c 0) where
  rank_is : (c : ℕ) → rank_in arrival U.carts c ≡ rank U c
  unfolding rank
  rank_is c = count_range U.carts _ ∙ count_same U.carts _ _ λ d _. rw (same d, same c)

  -- they are the ranks of the removal rule, of any carts with these arrivals
  pub ranks_are : (ranks : List ℕ) → Ranks arrival U.carts ranks → (c : ℕ) → c < U.carts → get_or ranks c 0 ≡ rank U c
  ranks_are ranks told c h = told.each_rank c h ∙ rank_is c
