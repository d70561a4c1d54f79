-- At the start the sets of a step are its zone's visitors, parted by lane and by number.
use Prim.Native.Nat.{ℕ, zero, suc, ◌+◌, ◌-◌, ◌*◌, ◌/◌, ◌%◌, ◌^◌, ◌≤◌, ◌<◌}
use mathlib.Core.Path.{◌≡◌, refl, sym, ap, ◌∙◌, subst}
use mathlib.Core.Bool.{Bool, true, false, not, ◌&&◌, and_comm, and-true}
use mathlib.Core.List.{List, []}
use native.Mathlib.Nat.{one-mul, mod-eq_of_lt, two-pow-succ, div-add-mod}
use native.Mathlib.Decide.{dec_lt, ℕ_discrete}
use native.Mathlib.Omega.{arith}
use lib.ListN.{length, get_or, set, replicate, length-set, length-replicate, get_or-eq_default}
use lib.Seq.{get_or-set_same, get_or-set_other}
use lib.Pow.{pow-lt}
use lib.Dec.{ltb, eqb}
use borrow.Author.Tests.{lt-ltb, le-ltb, eq-eqb, ne_eqb}
use Rattle.words.proofs.Tests.{eqb_turned}
use Rattle.words.proofs.Tables.{row_at, column_at}
use Rattle.sets.specs.inner.Member.{has, Without, Less}
use Rattle.sets.specs.Counting.{set_below}
use Rattle.sets.proofs.Laws.{has_none, has_same}
use Rattle.sets.proofs.Counting.{has_all}
use Rattle.plan_lists.specs.inner.Sets.{Routes, who_visits}
use Rattle.moves.proofs.Positions.{zeros_pos}
use Rattle.routes.specs.Crossing.{steps, zone}
use Rattle.routes.proofs.Places.{named_says}
use Rattle.crossing.specs.inner.Tables.{crossing_by}
use Rattle.crossing.specs.Plans.{given_by}
use Rattle.crossing.proofs.Tables.{steps_is}
use Rattle.removal.specs.Pairs.{Unplanned, visits, same_lane, is_pair}
use Rattle.sheet_table.specs.inner.Parts as parts
use Rattle.judge_entering.specs.inner.Lanes.{mates_of}
use Rattle.judge_entering.proofs.LaneLaws.{in_own}
use Rattle.planner_orders.specs.inner.Unplanned.{unplanned_of, unordered, SheetSized}
use Rattle.planner_orders.specs.inner.Holds.{StepHolds, Holds}
use Rattle.planner_orders.proofs.Ranks.{start_before}
use Rattle.planner_orders.proofs.Groups.{none_undecided}
use Rattle.planner_groups.specs.inner.Pairs.{HasPairs}
use Rattle.planner_groups.specs.inner.Starting.{visiting_at, Starts}
use Rattle.planner_groups.proofs.Visitors.{visiting_says}
use Rattle.sheet_table.specs.declared.Table.{Table}

-- ---- the carts with lower numbers

set_full : (n : ℕ) → set_below n (λ i. true) + 1 ≡ 2 ^ n
unfolding set_below
set_full zero = refl
set_full (suc n) = omega (arith, two-pow-succ n, set_full n)

pub bit_is : (k c : ℕ) → c < k → (1 * 2 ^ c) % 2 ^ k ≡ 2 ^ c
bit_is k c l = ap (λ (n : ℕ). n % 2 ^ k) (one-mul (2 ^ c)) ∙ mod-eq_of_lt (pow-lt l)

pub bit_least : (k c : ℕ) → c < k → 1 ≤ (1 * 2 ^ c) % 2 ^ k
bit_least k c l = omega (arith, bit_is k c l, set_full c)

pub lower_has : (k c : ℕ) → c < k → (d : ℕ) → has ((1 * 2 ^ c) % 2 ^ k - 1) d ≡ ltb d c
lower_has k c l d =
    let full : (1 * 2 ^ c) % 2 ^ k - 1 ≡ set_below c (λ i. true) = omega (arith, bit_is k c l, set_full c) in
    rw full (has_all c (λ i. true) d ∙ and-true (ltb d c))

-- ---- the visitors of a step's zone

pub zone_known : (steps zone : List ℕ) → Routes steps zone → (x : ℕ) → x % 8 < get_or steps (x / 8) 0 → get_or zone x 0 < 24
zone_known steps zone routes x l = rw (div-add-mod x 8) at (routes.known (x / 8) (x % 8) l)

-- ---- the sets of a step

-- of the visitors of a zone, by the carts of cart c's lane: those of other lanes, and of its own the lower and the higher
pub record Parted (who mates c ahead behind pairs : ℕ) : Type 0 where
  pub pairs_are : (d : ℕ) → has pairs d ≡ (has who d && not (has mates d))
  pub ahead_are : (d : ℕ) → has ahead d ≡ (has who d && (has mates d && ltb d c))
  pub behind_are : (d : ℕ) → has behind d ≡ (has who d && (has mates d && ltb c d))

pub parted : (who mates c apart own low later ahead behind : ℕ) → Less who mates apart → Less who apart own → ((d : ℕ) → has low d ≡ ltb d c)
    → Less own low later → Less own later ahead → Without later c behind → Parted who mates c ahead behind apart
parted who mates c apart own low later ahead behind apart-is own_is low-is later-is ahead_is behind_is = record {
  pairs_are = apart-is;
  ahead_are = λ d. ahead_is d ∙ rw (later-is d, own_is d, apart-is d, low-is d) (lower (has who d) (has mates d) (ltb d c));
  behind_are = λ d.
      behind_is d ∙ rw (later-is d, own_is d, apart-is d, low-is d) (higher (has who d) (has mates d) (ltb d c) (eqb d c) (ltb c d) (above d));
}
  where
    lower : (who mate low : Bool) → (who && not (who && not mate) && not (who && not (who && not mate) && not low)) ≡ (who && (mate && low))
    lower false mate low = refl
    lower true true true = refl
    lower true true false = refl
    lower true false low = refl

    higher : (who mate low same high : Bool) → (not low && not same) ≡ high → (who && not (who && not mate) && not low && not same) ≡ (who && (mate && high))
    higher false mate low same high h = refl
    higher true true low same high h = h
    higher true false low same high h = refl

    above : (d : ℕ) → (not (ltb d c) && not (eqb d c)) ≡ ltb c d
    above d =
        elim (dec_lt d c) [
          | yes l ↦ rw (lt-ltb d c l, le-ltb c d (omega arith))
          | no n ↦
              elim (ℕ_discrete d c) [
                | yes e ↦ rw (le-ltb d c (omega arith), eq-eqb d c e, le-ltb c d (omega arith))
                | no m ↦ rw (le-ltb d c (omega (arith, n)), ne_eqb d c m, lt-ltb c d (omega (arith, n, m)))
              ]
        ]

-- ---- place by place

module _ (sheet : Table) (visitors : List ℕ) where
  -- the places below x are done
  pub record StartedTo (x : ℕ) (ahead behind pairs : List ℕ) : Type 0 where
    pub ahead_128 : length ahead ≡ 128
    pub behind_128 : length behind ≡ 128
    pub pairs_128 : length pairs ≡ 128
    pub passed : (k : ℕ) → k < x → Parted (visiting_at sheet visitors k) (mates_of sheet (k / 8)) (k / 8) (get_or ahead k 0) (get_or behind k 0) (get_or pairs k 0)

  pub started_none : StartedTo 0 (replicate 128 0) (replicate 128 0) (replicate 128 0)
  started_none = record { ahead_128 = refl; behind_128 = refl; pairs_128 = refl; passed = λ k l. absurd (omega arith) }

  pub started_next : (x : ℕ) (ahead behind pairs : List ℕ) (who mates a b p : ℕ) → x < 128 → who ≡ visiting_at sheet visitors x
      → mates ≡ mates_of sheet (x / 8) → StartedTo x ahead behind pairs → Parted who mates (x / 8) a b p
      → StartedTo (x + 1) (set ahead x a) (set behind x b) (set pairs x p)
  started_next x ahead behind pairs who mates a b p l is mates_are so_far new = record {
    ahead_128 = length-set ahead x a ∙ so_far.ahead_128;
    behind_128 = length-set behind x b ∙ so_far.behind_128;
    pairs_128 = length-set pairs x p ∙ so_far.pairs_128;
    passed = λ k below. go k below (ℕ_discrete k x);
  }
    where
      go : (k : ℕ) → k < x + 1 → Dec (k ≡ x)
          → Parted (visiting_at sheet visitors k) (mates_of sheet (k / 8)) (k / 8) (get_or (set ahead x a) k 0) (get_or (set behind x b) k 0)
          (get_or (set pairs x p) k 0)
      go k below (yes e) = rw (
        e,
        get_or-set_same ahead x a 0 (omega (arith, so_far.ahead_128)),
        get_or-set_same behind x b 0 (omega (arith, so_far.behind_128)),
        get_or-set_same pairs x p 0 (omega (arith, so_far.pairs_128)),
        ← is,
        ← mates_are,
      ) new
      go k below (no n) =
          rw (get_or-set_other ahead x k a 0 n, get_or-set_other behind x k b 0 n, get_or-set_other pairs x k p 0 n) (so_far.passed k (omega (arith, n)))

-- ---- the start

-- of no visitors there are none
parted_none : (who mates c ahead behind pairs : ℕ) → who ≡ 0 → Parted who mates c ahead behind pairs → (ahead ≡ 0) × (behind ≡ 0) × (pairs ≡ 0)
parted_none who mates c ahead behind pairs none is = (
  has_same ahead 0 (λ d. is.ahead_are d ∙ rw (none, has_none d)),
  has_same behind 0 (λ d. is.behind_are d ∙ rw (none, has_none d)),
  has_same pairs 0 (λ d. is.pairs_are d ∙ rw (none, has_none d)),
)

-- a test of the visitors that visit with another, on its lane or not
on_lane : (who other lane mate test : Bool) → other ≡ true → (who ≡ true → mate ≡ lane) → (who && (mate && test)) ≡ ((who && other) && (lane && test))
on_lane false other lane mate test o m = refl
on_lane true other lane mate test o m = rw (o, m refl)

off_lane : (who other lane mate : Bool) → other ≡ true → (who ≡ true → mate ≡ lane) → (who && not mate) ≡ (who && other && not lane)
off_lane false other lane mate o m = refl
off_lane true other lane mate o m = rw (o, m refl)

module _ (sheet : Table) (visitors ahead behind pairs : List ℕ) (sheet-routes : Routes (parts.steps sheet) (parts.zone sheet))
    (visitors_are : visitors ≡ who_visits (parts.steps sheet) (parts.zone sheet)) (done : StartedTo sheet visitors 128 ahead behind pairs) where
  module _ (zones carts : ℕ) (sized : SheetSized (unplanned_of sheet zones carts)) where
    abbrev U : Unplanned
    U = unplanned_of sheet zones carts

    abbrev step_table : List ℕ
    step_table = parts.steps sheet

    abbrev zone_table : List ℕ
    zone_table = parts.zone sheet

    abbrev who : ℕ → ℕ
    who = visiting_at sheet visitors

    lane_says : (c d : ℕ) → d < 16 → has (mates_of sheet c) d ≡ same_lane U d c
    unfolding given_by
    lane_says = in_own sheet

    module _ (c j : ℕ) (h : j < steps (unordered U) c) where
      abbrev z : ℕ
      z = zone (unordered U) c j

      cart : c < 16
      cart = omega (arith, sized.able.cart_below c _ (j, h, refl), sized.carts_most)

      here : Parted (who (8 * c + j)) (mates_of sheet c) c (get_or ahead (8 * c + j) 0) (get_or behind (8 * c + j) 0) (get_or pairs (8 * c + j) 0)
      here =
          let few : j < 8 = omega (arith, sized.ranged.steps_most c) in
          subst (λ (i : ℕ). Parted (who (8 * c + j)) (mates_of sheet i) i (get_or ahead (8 * c + j) 0) (get_or behind (8 * c + j) 0)
          (get_or pairs (8 * c + j) 0)) (row_at c j few)
          (done.passed (8 * c + j) (omega (arith, cart)))

      who_says : (d : ℕ) → has (who (8 * c + j)) d ≡ visits U d z
      who_says = visiting_says sheet visitors sheet-routes visitors_are zones carts sized c j h

      own : visits U c z ≡ true
      own = (named_says (get_or U.routes c []) z).1 (j, h, refl)

      mate_says : (d : ℕ) → visits U d z ≡ true → has (mates_of sheet c) d ≡ same_lane U d c
      mate_says d e =
          let (k, m, _) = (named_says (get_or U.routes d []) z).0 e in
          lane_says c d (omega (arith, sized.able.cart_below d _ (k, m, refl), sized.carts_most))

      step_starts : StepHolds U 0 0 [] z c (get_or ahead (8 * c + j) 0) (get_or behind (8 * c + j) 0) 0
      step_starts = record {
        ahead_is = λ d.
            here.ahead_are d
            ∙ ap (λ (b : Bool). b && (has (mates_of sheet c) d && ltb d c)) (who_says d)
            ∙ on_lane (visits U d z) (visits U c z) (same_lane U d c) (has (mates_of sheet c) d) (ltb d c) own (mate_says d)
            ∙ sym (start_before U z d c []);
        behind_is = λ d.
            here.behind_are d
            ∙ ap (λ (b : Bool). b && (has (mates_of sheet c) d && ltb c d)) (who_says d)
            ∙ on_lane (visits U d z) (visits U c z) (same_lane U c d) (has (mates_of sheet c) d) (ltb c d) own
            (λ e. mate_says d e ∙ eqb_turned (U.given.lane d) (U.given.lane c))
            ∙ ap (λ (b : Bool). b && (same_lane U c d && ltb c d)) (and_comm (visits U d z) (visits U c z))
            ∙ sym (start_before U z c d []);
        undecided_is = λ d. has_none d ∙ sym (none_undecided U z d c 0 []);
      }

      step_pairs : (d : ℕ) → has (get_or pairs (8 * c + j) 0) d ≡ is_pair U z d c
      unfolding is_pair
      step_pairs d =
          here.pairs_are d
          ∙ ap (λ (b : Bool). b && not (has (mates_of sheet c) d)) (who_says d)
          ∙ off_lane (visits U d z) (visits U c z) (same_lane U d c) (has (mates_of sheet c) d) own (mate_says d)

    no_step : (c j : ℕ) → j < 8 → steps (unordered U) c ≤ j → (get_or ahead (8 * c + j) 0 ≡ 0) × (get_or behind (8 * c + j) 0 ≡ 0) × (get_or pairs (8 * c + j) 0 ≡ 0)
    unfolding crossing_by
    no_step c j few past =
        elim (dec_lt c 16) [
          | yes l ↦
              let none : who (8 * c + j) ≡ 0 = rw (
                row_at c j few,
                column_at c j few,
                le-ltb j (get_or step_table c 0)
                    (omega (arith, past, steps_is step_table zone_table [] [] c l)),
              ) in
              parted_none _ _ _ _ _ _ none (done.passed (8 * c + j) (omega arith))
          | no m ↦ (
            get_or-eq_default ahead 0 {n = 8 * c + j} (omega (arith, m, done.ahead_128)),
            get_or-eq_default behind 0 {n = 8 * c + j} (omega (arith, m, done.behind_128)),
            get_or-eq_default pairs 0 {n = 8 * c + j} (omega (arith, m, done.pairs_128)),
          )
        ]

    tables_start : (undecided : List ℕ) → length undecided ≡ 128 → ((k : ℕ) → get_or undecided k 0 ≡ 0) → Holds U 0 0 [] ahead behind undecided
    tables_start undecided long none = record {
      sheet_sized = sized;
      ahead_128 = done.ahead_128;
      behind_128 = done.behind_128;
      undecided_128 = long;
      at_step = λ c j h. rw (none (8 * c + j)) (step_starts c j h);
      unused = λ c j few past. let (no_ahead, no-behind, _) = no_step c j few past in (no_ahead, no-behind, none (8 * c + j));
    }

    pairs_start : HasPairs U pairs
    pairs_start = record { pairs_128 = done.pairs_128; at_step = λ c j d h. step_pairs c j h d; unused = λ c j few past. (no_step c j few past).2 }

  pub starts : Starts sheet ahead behind pairs
  starts = record {
    holds = λ zones carts sized. (
      tables_start zones carts sized (replicate 128 0) (length-replicate {A = ℕ} 128 0) (zeros_pos 128),
      pairs_start zones carts sized,
    );
  }
