-- The set of the carts that are not out and that the lane does not hold: the foremost at the start; a cart's first move adds the cart next behind it,
-- its move out takes it away; with none in it no move is left.
use Prim.Native.Nat.{ℕ, suc, ◌-◌, ◌<◌}
use mathlib.Core.Path.{◌≡◌, refl, sym, ap, ◌∙◌}
use mathlib.Core.Logic.Iff
use mathlib.Core.Logic.{◌↔◌, ◌⊎◌, inl, inr}
use mathlib.Core.Bool.{Bool, true, false, false≢true}
use mathlib.Core.List.{List}
use native.Mathlib.Decide.{ℕ_discrete, dec_lt}
use native.Mathlib.Omega.{arith}
use lib.ListN.{get_or, replicate}
use Rattle.words.proofs.Tests.{or_says}
use Rattle.sets.specs.inner.Member.{has, Joined, Without}
use Rattle.sets.proofs.Laws.{has_none, without_gone, without_other}
use Rattle.moves.specs.System.{System, pos, start}
use Rattle.moves.specs.Moves.{NotOut, Permitted}
use Rattle.moves.specs.inner.Records.{Reached}
use Rattle.moves.proofs.Positions.{zeros_pos}
use Rattle.moves.proofs.Records.{start_closed, reaches_closed}
use Rattle.routes.specs.Crossing.{Crossing, steps}
use Rattle.routes.specs.Lanes.{is_front, lane_holds}
use Rattle.routes.specs.Moves.{system}
use Rattle.routes.specs.inner.Orders.{OnlyVisitors}
use Rattle.routes.proofs.Lanes.{front_says, holds_says}
use Rattle.routes.proofs.Moves.{moves_within, out_are, out_steps, need_line, front_cart, permitted_by_rule}
use Rattle.sheet_table.specs.inner.Parts as parts
use Rattle.crossing.specs.inner.Tables.{fronts_of, crossing_by, crossing_of}
use Rattle.crossing.proofs.Tables.{steps_is, step_below}
use Rattle.crossing.proofs.Fronts.{gone_free}
use Rattle.crossing.proofs.Permitted.{free_says}
use Rattle.judge_entering.specs.inner.Lanes.{present_lanes, Foremost}
use Rattle.judge_entering.specs.inner.Times.{AtMost}
use Rattle.judge_entering.proofs.Sides.{foremost_says}
use Rattle.judge_running.specs.inner.Rounds.{AskedSet, Going, Frees}
use Rattle.sheet_table.specs.declared.Table.{Table}

-- ---- at the start

module _ (sheet : Table) (ahead : List ℕ) (most : AtMost 15 (parts.lane sheet)) (first : ℕ) (are : Foremost (present_lanes sheet) 16 first) where
  abbrev X : Crossing
  X = crossing_of sheet ahead

  pub asked_start : AskedSet X (replicate 16 0) first
  unfolding crossing_by
  asked_start = record {
    asks = λ c. (
      λ e.
          let (l, some, none) = (says c).0 e in
          let here : 0 < steps X c = omega (arith, some, counted c l) in (
            omega (arith, zeros_pos 16 c, out_steps X c 0 here),
            (gone_free (parts.steps sheet) (parts.zone sheet) (parts.lane sheet) ahead (replicate 16 0) c).1 (λ _ d is. absurd (omega (arith, none, is))),
          ),
      λ (inside, free).
          let here : 0 < steps X c = (moves_within (steps X c) _ (rw (out_are X c) at inside)).0 in
          let l : c < 16 = step_below (parts.steps sheet) (parts.zone sheet) (fronts_of sheet) ahead c 0 here in
          (says c).1 (
            l,
            omega (arith, here, counted c l),
            nobody c
                ((gone_free (parts.steps sheet) (parts.zone sheet) (parts.lane sheet) ahead (replicate 16 0) c).0 free (zeros_pos 16 c)),
          ),
    );
    wants = λ c e. let (l, some, _) = (says c).0 e in omega (arith, zeros_pos 16 c, some, counted c l);
  }
    where
      says : (c : ℕ) → (has first c ≡ true) ↔ ((c < 16) × (0 < get_or (parts.steps sheet) c 0) × (get_or (fronts_of sheet) c 0 ≡ 0))
      says = foremost_says sheet most first are

      counted : (c : ℕ) → c < 16 → steps X c ≡ get_or (parts.steps sheet) c 0
      counted = steps_is (parts.steps sheet) (parts.zone sheet) (fronts_of sheet) ahead

      -- whoever is in front has not gone yet
      nobody : (c : ℕ) → ((d : ℕ) → get_or (fronts_of sheet) c 0 ≡ suc d → 0 < pos (replicate 16 0) d) → get_or (fronts_of sheet) c 0 ≡ 0
      nobody c gone = elim (dec_lt 0 (get_or (fronts_of sheet) c 0)) [
        | yes some ↦ absurd (omega (arith, zeros_pos 16 (get_or (fronts_of sheet) c 0 - 1), gone (get_or (fronts_of sheet) c 0 - 1) (omega (arith, some))))
        | no none ↦ omega (arith, none)
      ]

-- ---- cart c has started or was under way, and has moved on; no other has moved

module _ (X : Crossing) (old at : List ℕ) (c asked freed more : ℕ) (reached : Reached (system X) old) (is : AskedSet X old asked) (member : has asked c ≡ true)
    (others : (d : ℕ) → ¬ (d ≡ c) → pos at d ≡ pos old d) (started : 0 < pos at c) (frees : Frees X old c freed) (joins : Joined asked freed more) where
  abbrev S : System
  S = system X

  -- who has started has a front that has started
  in_line : (d e : ℕ) → is_front X d e ≡ true → 0 < pos old e → 0 < pos old d
  in_line d e f gone =
      omega (arith, need_line X e d f, reaches_closed S (start S) old (start_closed S) reached e 0 d gone (front_cart X d e f))

  -- so whoever is freed stands in its lane
  waits : (d : ℕ) → has freed d ≡ true → (pos old d ≡ 0) × (0 < steps X d)
  waits d e =
      let (first, f) = (frees d).0 e in
      (elim (dec_lt 0 (pos old d)) [ yes gone ↦ absurd (omega (arith, first, in_line c d f gone)) | no n ↦ omega arith ], ((front_says X c d).0 f).here)

  up : (d : ℕ) → 0 < pos old d → 0 < pos at d
  up d gone = elim (ℕ_discrete d c) [ yes e ↦ rw e started | no n ↦ rw (others d n) gone ]

  joined_says : (d : ℕ) → (has more d ≡ true) ↔ ((has asked d ≡ true) ⊎ (has freed d ≡ true))
  joined_says d = rw (joins d) (or_says (has asked d) (has freed d) Iff.rfl Iff.rfl)

  -- the other carts
  module _ (d : ℕ) (n : ¬ (d ≡ c)) where
    still_free : lane_holds X old d ≡ false → lane_holds X at d ≡ false
    still_free free = (free_says X at d).1 (λ first e f. up e ((free_says X old d).0 free (sym (others d n) ∙ first) e f))

    now_free : has freed d ≡ true → lane_holds X at d ≡ false
    now_free e =
        let (_, f) = (frees d).0 e in
        (free_says X at d).1 (λ first b g.
        let same : b ≡ c = omega (arith, ((front_says X b d).0 g).is, ((front_says X c d).0 f).is) in
        rw same started)

    back : NotOut S at d → lane_holds X at d ≡ false → (b : Bool) → lane_holds X old d ≡ b → (has asked d ≡ true) ⊎ (has freed d ≡ true)
    back inside free false was = inl ((is.asks d).1 (rw (others d n) at inside, was))
    back inside free true was =
        let (first, (e, (front, still))) = (holds_says X old d).0 was in
        let gone : 0 < pos at e = (free_says X at d).0 free (others d n ∙ first) e ((front_says X e d).1 front) in
        elim (ℕ_discrete e c) [
          | yes q ↦ inr ((frees d).1 (rw q at still, (front_says X c d).1 (rw q at front)))
          | no q ↦ absurd (omega (arith, others e q, still, gone))
        ]

    asks_now : (has more d ≡ true) ↔ (NotOut S at d × (lane_holds X at d ≡ false))
    asks_now = (
      λ e. elim ((joined_says d).0 e) [
        | inl was ↦ let (inside, free) = (is.asks d).0 was in (rw (others d n) inside, still_free free)
        | inr new ↦ let (first, some) = waits d new in (omega (arith, others d n, first, out_steps X d 0 some), now_free new)
      ],
      λ (inside, free). (joined_says d).1 (back inside free (lane_holds X old d) refl),
    )

    wants_now : has more d ≡ true → pos at d < steps X d
    wants_now e = elim ((joined_says d).0 e) [
      | inl was ↦ omega (arith, others d n, is.wants d was)
      | inr new ↦ let (first, some) = waits d new in omega (arith, others d n, first, some)
    ]

  -- and cart c: it has a zone to go into
  pub asked_kept : pos at c < steps X c → AskedSet X at more
  asked_kept wants = record {
    asks = λ d. elim (ℕ_discrete d c) [
      | yes e ↦ rw e (
        λ _. (omega (arith, out_steps X c (pos at c) wants), (free_says X at c).1 (λ first. absurd (omega (arith, first, started)))),
        λ _. (joined_says c).1 (inl member),
      )
      | no n ↦ asks_now d n
    ];
    wants = λ d. elim (ℕ_discrete d c) [ yes e ↦ rw e (λ _. wants) | no n ↦ wants_now d n ];
  }

  -- or is out
  pub asked_out : (fewer : ℕ) → steps X c < pos at c → Without more c fewer → AskedSet X at fewer
  asked_out fewer past without = record {
    asks = λ d. elim (ℕ_discrete d c) [
      | yes e ↦ rw e (λ m. absurd (gone m), λ (h, _). absurd (omega (arith, h, out_steps X c (pos old c) (is.wants c member))))
      | no n ↦ rw (without_other more c fewer without d n) (asks_now d n)
    ];
    wants = λ d. elim (ℕ_discrete d c) [
      | yes e ↦ rw e (λ m. absurd (gone m))
      | no n ↦ rw (without_other more c fewer without d n) (wants_now d n)
    ];
  }
    where
      gone : ¬ (has fewer c ≡ true)
      gone m = false≢true (sym (without_gone more c fewer without) ∙ m)

-- ---- a cart that may move is asked, so where no cart is asked no move is left

module _ (X : Crossing) (at : List ℕ) (asked : ℕ) (only : OnlyVisitors X) (is : AskedSet X at asked) where
  pub asked_permitted : (c : ℕ) → Permitted (system X) at c → has asked c ≡ true
  asked_permitted c m = (is.asks c).1 (m.not_out, (free_says X at c).1 ((permitted_by_rule X only at c).0 m).line)

  pub asked_going : Going X at asked
  asked_going = record {
    none_left = λ none d m. false≢true (sym (has_none d) ∙ ap (λ (set : ℕ). has set d) (sym none) ∙ asked_permitted d m);
    asked = λ _. is;
  }
