-- What opening a group of ranks adds to the orders present, and that a group in which no pair is undecided can be left.
use Prim.Native.Nat.{ℕ, ◌≤◌, ◌<◌}
use mathlib.Core.Path.{◌≡◌, refl, sym, ap₂, ◌∙◌}
use mathlib.Core.Bool.{Bool, true, false, false≢true, not, ◌&&◌, ◌||◌, and-true, and-false, not-and_self, not-eq-not}
use mathlib.Core.List.{List}
use native.Mathlib.Omega.{arith}
use lib.Dec.{leb, ltb}
use borrow.Author.Tests.{ltb-true, ltb-false, lt-ltb, le-ltb}
use Rattle.removal.specs.Pairs.{Unplanned, Order, is_decided, rank, is_pair}
use Rattle.removal.specs.Present.{in_group, goes_before, is_undecided}
use Rattle.removal.specs.inner.Solved.{SolvedBelow}
use Rattle.removal.proofs.Present.{group_says, pair_of}
use Rattle.removal.proofs.Candidates.{Undecided, undecided_says}
use Rattle.planner_orders.specs.inner.Holds.{Holds, Below}
use Rattle.planner_orders.proofs.Ranks.{leb_not, pair_by_lem, opens_by, goes_more}

module _ (U : Unplanned) (z d c : ℕ) where
  -- opening a group adds the pairs with one rank in it and the other above, lower rank first
  module _ (low high : ℕ) (decided : List Order) (rising : low ≤ high) (below : Below U low decided) where
    abbrev r : ℕ
    r = rank U d

    abbrev q : ℕ
    q = rank U c

    -- a pair with a rank at or above `low` is not decided
    not_decided : (z a b : ℕ) → (rank U a < low → rank U b < low → ⊥) → is_decided decided z a b ≡ false
    not_decided z a b h = go (is_decided decided z a b) refl
      where
        go : (t : Bool) → is_decided decided z a b ≡ t → t ≡ false
        go true e = absurd (h (below.both z a b e).0 (below.both z a b e).1)
        go false e = refl

    opens_pair : pair_of U low high decided z d c ≡ (pair_of U low low decided z d c || (in_group low high r && leb high q))
    opens_pair =
        rw (
          pair_by_lem low high r q (is_decided decided z d c) (is_decided decided z c d),
          pair_by_lem low low r q (is_decided decided z d c) (is_decided decided z c d),
          leb_not low r,
          leb_not high q,
        )
        (opens_by (ltb r low) (ltb r high) (ltb q low) (ltb q high) (ltb r q) (is_decided decided z d c) (is_decided decided z c d)
        (λ e. lt-ltb r high (omega (arith, ltb-true r low e))) (λ e. lt-ltb q high (omega (arith, ltb-true q low e)))
        (λ e. not_decided z d c (λ a b. false≢true (sym e ∙ ap₂ ◌&&◌ (lt-ltb r low a) (lt-ltb q low b))))
        (λ e f. lt-ltb r q (omega (arith, ltb-true r high e, ltb-false q high f)))
        (λ e f. le-ltb r q (omega (arith, ltb-false r high e, ltb-true q high f))))

    pub opens_before : goes_before U low high decided z d c ≡ (goes_before U low low decided z d c || (is_pair U z d c && (in_group low high r && leb high q)))
    opens_before = goes_more U z d c low high low low decided decided (in_group low high r && leb high q) (λ _. opens_pair)

    -- every pair of two ranks in it is undecided
    pub opens_undecided : is_undecided U low high decided z d c ≡ (is_pair U z d c && (in_group low high r && in_group low high q))
    unfolding is_undecided
    opens_undecided = go (in_group low high r) refl
      where
        go : (t : Bool) → in_group low high r ≡ t
            → (is_pair U z d c && (t && in_group low high q) && not (is_decided decided z d c || is_decided decided z c d))
            ≡ (is_pair U z d c && (t && in_group low high q))
        go true e =
            let (least, _) = (group_says low high r).0 e in
            rw (not_decided z d c (λ a b. omega arith), not_decided z c d (λ a b. omega arith)) (and-true _)
        go false e = rw (and-false (is_pair U z d c))

  -- no pair is between groups
  pub none_undecided : (low : ℕ) (decided : List Order) → is_undecided U low low decided z d c ≡ false
  unfolding is_undecided
  none_undecided low decided = rw (leb_not low (rank U d), not-and_self (ltb (rank U d) low), and-false (is_pair U z d c))

-- once no pair of it is undecided and its orders are those of the ranks below the next, the tables hold the start of the next group
pub leaves_group : (U : Unplanned) (low high : ℕ) (decided : List Order) (ahead behind undecided : List ℕ)
    → ((z d c : ℕ) → goes_before U low high decided z d c ≡ goes_before U high high decided z d c) → ((z d c : ℕ) → ¬ (Undecided U low high decided z d c))
    → Holds U low high decided ahead behind undecided → Holds U high high decided ahead behind undecided
leaves_group U low high decided ahead behind undecided closed none holds = record {
  sheet_sized = holds.sheet_sized;
  ahead_128 = holds.ahead_128;
  behind_128 = holds.behind_128;
  undecided_128 = holds.undecided_128;
  at_step = λ c j h. let is = holds.at_step c j h in record {
    ahead_is = λ d. is.ahead_is d ∙ closed _ d c;
    behind_is = λ d. is.behind_is d ∙ closed _ c d;
    undecided_is = λ d. is.undecided_is d ∙ not_undecided _ d c ∙ sym (none_undecided U _ d c high decided);
  };
  unused = holds.unused;
}
  where
    not_undecided : (z d c : ℕ) → is_undecided U low high decided z d c ≡ false
    not_undecided z d c = (not-eq-not {b = false}).0 (λ e. none z d c ((undecided_says U low high decided z d c).0 e))

-- where the ranks below `low` are solved, the orders decided are of these
pub solved_below : (U : Unplanned) (low : ℕ) (decided : List Order) → SolvedBelow U low decided → Below U low decided
solved_below U low decided solved = record { both = λ z d c e. let ((_, first), (_, second)) = (solved.of_pairs z d c e).ranks in (first, second) }
