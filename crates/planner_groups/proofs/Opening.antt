-- A table joined place by place; three tables joined so are those of the opened group.
use Prim.Native.Nat.{ℕ, ◌+◌, ◌*◌, ◌/◌, ◌≤◌, ◌<◌}
use mathlib.Core.Path.{◌≡◌, refl, sym, ap, ap₂, ◌∙◌}
use mathlib.Core.Bool.{Bool, true, false, not, ◌&&◌, ◌||◌, and-false, not-not}
use mathlib.Core.List.{List}
use native.Mathlib.Decide.{dec_lt, ℕ_discrete}
use native.Mathlib.Omega.{arith}
use lib.ListN.{length, get_or, set, length-set}
use lib.Seq.{get_or-set_same, get_or-set_other}
use lib.Dec.{leb, ltb}
use Rattle.words.proofs.Tables.{row_at}
use Rattle.sets.specs.inner.Member.{has, Less}
use Rattle.sets.specs.Counting.{set_below}
use Rattle.sets.proofs.Laws.{has_none, has_same}
use Rattle.routes.specs.Crossing.{zone}
use Rattle.removal.specs.Pairs.{Unplanned, rank, is_pair}
use Rattle.removal.specs.Present.{in_group}
use Rattle.removal.proofs.Pairs.{pair_says}
use Rattle.planner_orders.specs.inner.Unplanned.{unordered, SheetSized}
use Rattle.planner_orders.proofs.Ranks.{leb_not}
use Rattle.planner_orders.proofs.Added.{pair_turned}
use Rattle.planner_orders.proofs.Groups.{opens_before, opens_undecided, none_undecided}
use Rattle.planner_groups.specs.inner.Pairs.{HasRanks}
use Rattle.planner_groups.specs.inner.Opening.{Joined, Opens}
use Rattle.planner_groups.proofs.Sets.{set_has}

-- ---- place by place

-- the table `now` is `old`, where at the places below x the steps of a set of carts are joined by their pairs among another set
pub record JoinedTo (carts among : ℕ) (pairs : List ℕ) (x : ℕ) (old now : List ℕ) : Type 0 where
  pub sized : length now ≡ length old
  pub passed : (k : ℕ) → k < x → k < length old → Joined (get_or old k 0) (get_or pairs k 0) among (has carts (k / 8)) (get_or now k 0)
  pub to_come : (k : ℕ) → x ≤ k → get_or now k 0 ≡ get_or old k 0

module _ (carts among : ℕ) (pairs old : List ℕ) where
  pub joined_none : JoinedTo carts among pairs 0 old old
  joined_none = record { sized = refl; passed = λ k l _. absurd (omega arith); to_come = λ k l. refl }

  pub joined_next : (x : ℕ) (now : List ℕ) (v : ℕ) → JoinedTo carts among pairs x old now
      → Joined (get_or now x 0) (get_or pairs x 0) among (has carts (x / 8)) v → JoinedTo carts among pairs (x + 1) old (set now x v)
  joined_next x now v so_far new = record {
    sized = length-set now x v ∙ so_far.sized;
    passed = λ k below inside. go k below inside (ℕ_discrete k x);
    to_come = λ k past. get_or-set_other now x k v 0 (λ e. omega arith) ∙ so_far.to_come k (omega arith);
  }
    where
      go : (k : ℕ) → k < x + 1 → k < length old → Dec (k ≡ x) → Joined (get_or old k 0) (get_or pairs k 0) among (has carts (k / 8)) (get_or (set now x v) k 0)
      go k below inside (yes e) = rw (e, get_or-set_same now x v 0 (omega (arith, so_far.sized)), ← so_far.to_come x (omega arith)) new
      go k below inside (no n) = rw (get_or-set_other now x k v 0 n) (so_far.passed k (omega (arith, n)) inside)

-- ---- the sets of carts in the group and above it

-- a set that joins nothing to nothing
joined_empty : (among : ℕ) (on : Bool) (old more r : ℕ) → old ≡ 0 → more ≡ 0 → Joined old more among on r → r ≡ 0
joined_empty among on old more r none no_more is =
    has_same r 0 λ d. is d ∙ rw (none, no_more, has_none d, and-false on)

joined_unused : (carts among : ℕ) (pairs old now : List ℕ) → JoinedTo carts among pairs 128 old now
    → length old ≡ 128 → (k : ℕ) → get_or old k 0 ≡ 0 → get_or pairs k 0 ≡ 0 → get_or now k 0 ≡ 0
joined_unused carts among pairs old now is long k none no_more =
    elim (dec_lt k 128) [
      | yes l ↦ joined_empty among (has carts (k / 8)) (get_or old k 0) (get_or pairs k 0) (get_or now k 0) none no_more (is.passed k l (omega arith))
      | no m ↦ is.to_come k (omega (arith, m)) ∙ none
    ]

module _ (U : Unplanned) (sized : SheetSized U) where
  -- who is in a pair is a cart
  pair_cart : (z d c : ℕ) → is_pair U z d c ≡ true → d < U.carts
  pair_cart z d c e = let ((v, _), _) = (pair_says U z d c).0 e in sized.able.cart_below d z v

  -- the carts of a step's pairs that are in a set of carts, as the set's test tells
  among_pairs : (z c set sharing : ℕ) (test : ℕ → Bool) → ((d : ℕ) → d < U.carts → has set d ≡ test d) → ((d : ℕ) → has sharing d ≡ is_pair U z d c)
      → (d : ℕ) → (has sharing d && has set d) ≡ (is_pair U z d c && test d)
  among_pairs z c set sharing test is pairs d = ap (λ (b : Bool). b && has set d) (pairs d) ∙ go (is_pair U z d c) refl
    where
      go : (t : Bool) → is_pair U z d c ≡ t → (t && has set d) ≡ (t && test d)
      go true e = is d (pair_cart z d c e)
      go false e = refl

module _ (low high : ℕ) (ranks pairs : List ℕ) (from above within : ℕ)
    (from_is : from ≡ set_below 16 (λ c. leb low (get_or ranks c 0))) (above-is : above ≡ set_below 16 (λ c. leb high (get_or ranks c 0)))
    (within-is : Less from above within) where
  module _ (U : Unplanned) (sized : SheetSized U) (has_ranks : HasRanks U ranks) (c : ℕ) (l : c < U.carts) where
    at_least : (least set : ℕ) → set ≡ set_below 16 (λ d. leb least (get_or ranks d 0)) → has set c ≡ leb least (rank U c)
    at_least least set is = set_has 16 _ set is c (omega (arith, sized.carts_most)) ∙ ap (leb least) (has_ranks.at_cart c l)

    above_says : has above c ≡ leb high (rank U c)
    above_says = at_least high above above-is

    within_says : has within c ≡ in_group low high (rank U c)
    within_says =
        within-is c
        ∙ ap₂ (λ (a b : Bool). a && not b) (at_least low from from_is) (above_says ∙ leb_not high (rank U c))
        ∙ ap (λ (b : Bool). leb low (rank U c) && b) (not-not (ltb (rank U c) high))

  -- the test of a join, the pair and the other's test, in the order of the laws
  turn_about : (on pair test : Bool) → (on && (pair && test)) ≡ (pair && (test && on))
  turn_about true true true = refl
  turn_about true true false = refl
  turn_about true false test = refl
  turn_about false true true = refl
  turn_about false true false = refl
  turn_about false false test = refl

  swap_about : (on pair test : Bool) → (on && (pair && test)) ≡ (pair && (on && test))
  swap_about true true test = refl
  swap_about true false test = refl
  swap_about false true test = refl
  swap_about false false test = refl

  pub opens : (ahead behind undecided ahead' behind' undecided' : List ℕ) → JoinedTo above within pairs 128 ahead ahead'
      → JoinedTo within above pairs 128 behind behind' → JoinedTo within within pairs 128 undecided undecided'
      → Opens low high ranks pairs ahead behind undecided ahead' behind' undecided'
  opens ahead behind undecided ahead' behind' undecided' a-is b-is u-is = record {
    holds = λ U decided has_ranks has_pairs rising below old.
        let p = old.sheet_sized in
        record {
          sheet_sized = p;
          ahead_128 = a-is.sized ∙ old.ahead_128;
          behind_128 = b-is.sized ∙ old.behind_128;
          undecided_128 = u-is.sized ∙ old.undecided_128;
          at_step = λ c j h.
              let z = zone (unordered U) c j in
              let is = old.at_step c j h in
              let few : j < 8 = omega (arith, p.ranged.steps_most c) in
              let l = p.able.cart_below c z (j, h, refl) in
              let place : 8 * c + j < 128 = omega (arith, p.carts_most) in
              let in-above = above_says U p has_ranks c l in
              let in_group_lem = within_says U p has_ranks c l in
              let row = row_at c j few in
              let shared = among_pairs U p z c in
              let pair : (d : ℕ) → has (get_or pairs (8 * c + j) 0) d ≡ is_pair U z d c = λ d. has_pairs.at_step c j d h in
              record {
                ahead_is = λ d.
                    a-is.passed (8 * c + j) place (omega (arith, old.ahead_128)) d
                    ∙ ap₂ ◌||◌ (is.ahead_is d)
                    (ap₂ ◌&&◌ (ap (has above) row ∙ in-above) (shared within _ (λ d. in_group low high (rank U d)) (within_says U p has_ranks) pair d)
                    ∙ turn_about (leb high (rank U c)) (is_pair U z d c) (in_group low high (rank U d)))
                    ∙ sym (opens_before U z d c low high decided rising below);
                behind_is = λ d.
                    b-is.passed (8 * c + j) place (omega (arith, old.behind_128)) d
                    ∙ ap₂ ◌||◌ (is.behind_is d)
                    (ap₂ ◌&&◌ (ap (has within) row ∙ in_group_lem) (shared above _ (λ d. leb high (rank U d)) (above_says U p has_ranks) pair d)
                    ∙ swap_about (in_group low high (rank U c)) (is_pair U z d c) (leb high (rank U d))
                    ∙ ap (λ (b : Bool). b && (in_group low high (rank U c) && leb high (rank U d))) (pair_turned U z d c))
                    ∙ sym (opens_before U z c d low high decided rising below);
                undecided_is = λ d.
                    u-is.passed (8 * c + j) place (omega (arith, old.undecided_128)) d
                    ∙ ap₂ ◌||◌ (is.undecided_is d ∙ none_undecided U z d c low decided)
                    (ap₂ ◌&&◌ (ap (has within) row ∙ in_group_lem) (shared within _ (λ d. in_group low high (rank U d)) (within_says U p has_ranks) pair d)
                    ∙ turn_about (in_group low high (rank U c)) (is_pair U z d c) (in_group low high (rank U d)))
                    ∙ sym (opens_undecided U z d c low high decided rising below);
              };
          unused = λ c j few past.
              let (no_ahead, no-behind, no-undecided) = old.unused c j few past in
              let none = has_pairs.unused c j few past in (
                joined_unused _ _ _ _ _ a-is old.ahead_128 (8 * c + j) no_ahead none,
                joined_unused _ _ _ _ _ b-is old.behind_128 (8 * c + j)
                    no-behind none,
                joined_unused _ _ _ _ _ u-is old.undecided_128 (8 * c + j) no-undecided none,
              );
        };
  }
