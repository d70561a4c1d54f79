-- Who is next in front and next behind, by the sets of the carts on the lanes: the members next below and next above a cart in its lane's set.
use Prim.Native.Nat.{ℕ, zero, suc, ◌+◌, ◌*◌, ◌<◌}
use mathlib.Core.Path.{◌≡◌, refl, sym, ap, ◌∙◌}
use mathlib.Core.Logic.Iff
use mathlib.Core.Logic.{◌↔◌, ◌⊎◌, inl, inr}
use mathlib.Core.Bool.{Bool, true, false, not, ◌&&◌, ◌||◌, true≢false, false≢true, not-eq-not}
use mathlib.Core.List.{List}
use native.Mathlib.Decide.{ℕ_discrete, dec_lt}
use native.Mathlib.Omega.{arith}
use lib.ListN.{get_or, set, replicate}
use lib.Dec.{ltb, eqb}
use borrow.Author.Tests.{lt-ltb, le-ltb, eq-eqb, ne_eqb}
use Rattle.words.specs.Lists.{entries}
use Rattle.words.proofs.Entries.{at_entry, zeros_are, same_entries, put_entry}
use Rattle.words.proofs.Tests.{ltb_says, eqb_says, and_says, or_says}
use Rattle.sets.specs.inner.Member.{has, With, Less, Joined, Below, Lowest, First, Highest}
use Rattle.sets.specs.Counting.{set_below}
use Rattle.sets.proofs.Laws.{has_none, has_below}
use Rattle.sets.proofs.Counting.{set_fits, has_set, set_with, set_as_before}
use Rattle.routes.specs.Lanes.{highest, is_on_lane, next_in_front}
use Rattle.routes.proofs.Lanes.{IsHighest, highest_is}
use Rattle.sheet_table.specs.inner.Parts as parts
use Rattle.crossing.specs.inner.Tables.{fronts_of}
use Rattle.crossing.proofs.Fronts.{fronts_are}
use Rattle.judge_entering.specs.inner.Lanes.{present_on, present_lanes, present_mates, member_before, Foremost, NextBehind, front_time}
use Rattle.judge_entering.specs.inner.Times.{AtMost}
use Rattle.judge_entering.proofs.LaneLaws.{lane_of, routes, has_steps}
use Rattle.sheet_table.specs.declared.Table.{Table}

-- ---- the member next below

module _ (members c : ℕ) where
  -- by the tests: j is a member below c, and none is between
  before_at : (j : ℕ) → j < c → has members j ≡ true → ((e : ℕ) → j < e → e < c → has members e ≡ false) → member_before members c ≡ suc j
  before_at j below member none = go (member_before members c) (highest_is (has members) c)
    where
      go : (f : ℕ) → IsHighest (has members) c f → f ≡ suc j
      go zero all = absurd (true≢false (sym member ∙ all j below))
      go (suc h) (lower, found, higher) =
          elim (dec_lt j h) [
            | yes above ↦ absurd (true≢false (sym found ∙ none h above lower))
            | no n ↦ elim (dec_lt h j) [ yes under ↦ absurd (true≢false (sym member ∙ higher j under below)) | no m ↦ omega (arith, n, m) ]
          ]

  before_none : ((e : ℕ) → e < c → has members e ≡ false) → member_before members c ≡ 0
  before_none all = go (member_before members c) (highest_is (has members) c)
    where
      go : (f : ℕ) → IsHighest (has members) c f → f ≡ 0
      go zero _ = refl
      go (suc h) (lower, found, _) = absurd (true≢false (sym found ∙ all h lower))

  -- and back
  before_is : (f : ℕ) → member_before members c ≡ f → IsHighest (has members) c f
  before_is f is = rw is at (highest_is (has members) c)

  -- the highest of those below c, where there are some
  module _ (lower : ℕ) (below : Below members c lower) where
    pub none_before : (enter : List ℕ) → lower ≡ 0 → 0 ≡ front_time (member_before members c) enter
    none_before enter empty = rw (before_none (λ e l. sym (rw (lt-ltb e c l) at (below e)) ∙ ap (λ (n : ℕ). has n e) empty ∙ has_none e)) refl

    pub some_before : (enter : List ℕ) (j time : ℕ) → Highest lower j → time ≡ get_or enter (8 * j) 0 → time ≡ front_time (member_before members c) enter
    some_before enter j time top is = is ∙ rw (found, ne_eqb (suc j) 0 (λ e. omega arith)) (ap (λ (k : ℕ). get_or enter (8 * k) 0) (omega arith))
      where
        inside : (j < c) × (has members j ≡ true)
        inside = (and_says (ltb j c) (has members j) (ltb_says j c) Iff.rfl).0 (sym (below j) ∙ top.member)

        found : member_before members c ≡ suc j
        found = before_at j inside.0 inside.1 (λ e above l. sym (rw (lt-ltb e c l) at (below e)) ∙ top.most e above)

-- the lowest member has none below it
lowest_before : (members c : ℕ) → Lowest members c ↔ ((has members c ≡ true) × (member_before members c ≡ 0))
lowest_before members c = (
  λ low. (low.member, before_none members c low.least),
  λ (member, none). record { member = member; least = before_is members c 0 none },
)

-- ---- the lowest of each lane

pub foremost_start : (on : List ℕ) → Foremost on 0 0
foremost_start on c = (λ e. absurd (false≢true (sym (has_none c) ∙ e)), λ (l, few, _, _). absurd (omega arith))

pub foremost_turn : (on : List ℕ) (n so first more : ℕ) → Foremost on n so → First (get_or on n 0) first → Joined so first more → Foremost on (n + 1) more
foremost_turn on n so first more are lowest all c = (
  λ e. elim (joins.0 (sym (all c) ∙ e)) [
    | inl old ↦ let (l, few, member, none) = (are c).0 old in (l, omega arith, member, none)
    | inr new ↦ let (member, none) = (lowest_before (get_or on n 0) c).0 ((lowest c).0 new) in (n, omega arith, member, none)
  ],
  λ (l, few, member, none). all c ∙ joins.1 (elim (ℕ_discrete l n) [
    | yes q ↦ inr ((lowest c).1 ((lowest_before (get_or on n 0) c).1 (rw q at member, rw q at none)))
    | no q ↦ inl ((are c).1 (l, omega arith, member, none))
  ]),
)
  where
    joins : ((has so c || has first c) ≡ true) ↔ ((has so c ≡ true) ⊎ (has first c ≡ true))
    joins = or_says (has so c) (has first c) Iff.rfl Iff.rfl

-- ---- the member next above

pub behind_first : (members c lower above first : ℕ) → has members c ≡ true → Below members (c + 1) lower → Less members lower above → First above first
    → NextBehind members c first
behind_first members c lower above first member below less lowest d = (
  λ e.
      let low = (lowest d).0 e in
      let (in-set, past) = (above_says d).0 low.member in
      (in-set, before_at members d c past member (λ e from to. between e from (low.least e to))),
  λ (in-set, is).
      let (under, _, none) = before_is members d (suc c) is in
      (lowest d).1 (record {
        member = (above_says d).1 (in-set, under);
        least = λ e to. (not-eq-not {b = false}).0
            (λ t. let (m, past) = (above_says e).0 t in true≢false (sym m ∙ none e past to));
      }),
)
  where
    keeps : (b m : Bool) → ((m && not (b && m)) ≡ true) ↔ ((m ≡ true) × (b ≡ false))
    keeps true true = (λ e. absurd (false≢true e), λ (_, e). sym e)
    keeps true false = (λ e. absurd (false≢true e), λ (e, _). e)
    keeps false true = (λ e. (e, refl), λ (e, _). e)
    keeps false false = (λ e. absurd (false≢true e), λ (e, _). e)

    above_says : (j : ℕ) → (has above j ≡ true) ↔ ((has members j ≡ true) × (c < j))
    above_says j = (
      λ e. let (m, past) = (keeps (ltb j (c + 1)) (has members j)).0 (sym (less j ∙ rw (below j)) ∙ e) in (m, not_under past),
      λ (m, past). less j ∙ rw (below j) ((keeps (ltb j (c + 1)) (has members j)).1 (m, le-ltb j (c + 1) (omega arith))),
    )
      where
        not_under : ltb j (c + 1) ≡ false → c < j
        not_under past = elim (dec_lt j (c + 1)) [ yes l ↦ absurd (true≢false (sym (lt-ltb j (c + 1) l) ∙ past)) | no n ↦ omega arith ]

    between : (e : ℕ) → c < e → has above e ≡ false → has members e ≡ false
    between e from out = (not-eq-not {b = false}).0 (λ m. true≢false (sym ((above_says e).1 (m, from)) ∙ out))

-- tests that agree find the same
highest_same : (one other : ℕ → Bool) (n : ℕ) → ((d : ℕ) → d < n → one d ≡ other d) → highest one n ≡ highest other n
unfolding highest
highest_same one other zero same = refl
highest_same one other (suc n) same = rw (same n (omega arith), highest_same one other n (λ d l. same d (omega arith))) refl

-- ---- the sets of a sheet's lanes

module _ (sheet : Table) where
  -- who has steps
  abbrev Present : ℕ → Type 0
  Present d = 0 < get_or (parts.steps sheet) d 0

  test : ℕ → ℕ → Bool
  test l d = ltb 0 (get_or (parts.steps sheet) d 0) && eqb (lane_of sheet d) l

  pub present_start : replicate 16 0 ≡ entries 16 0 (present_on sheet 0)
  unfolding present_on set_below
  present_start = zeros_are 16 (present_on sheet 0) (λ _. refl)

  -- cart c joins the set of its lane l
  pub present_turn : (c l more : ℕ) (table : List ℕ) → l < 16 → l ≡ lane_of sheet c → Present c → table ≡ entries 16 0 (present_on sheet c)
      → With (get_or table l 0) c more → set table l more ≡ entries 16 0 (present_on sheet (c + 1))
  unfolding present_on test
  present_turn c l more table inside is some filled with =
      ap (λ (t : List ℕ). set t l more) filled
      ∙ put_entry 16 (present_on sheet c) (present_on sheet (c + 1)) l more inside
      (set_with c (test l) more (rw (lt-ltb 0 (get_or (parts.steps sheet) c 0) some) (eq-eqb _ _ (sym is))) joins)
      (λ k n. set_as_before c (test k) (rw (lt-ltb 0 (get_or (parts.steps sheet) c 0) some) (ne_eqb _ _ (λ e. n (sym (is ∙ e))))))
    where
      joins : With (present_on sheet c l) c more
      joins = rw (ap (λ (t : List ℕ). get_or t l 0) filled ∙ at_entry 16 (present_on sheet c) l inside) at with

  pub present_absent : (c : ℕ) → ¬ (Present c) → entries 16 0 (present_on sheet c) ≡ entries 16 0 (present_on sheet (c + 1))
  unfolding present_on test
  present_absent c none =
      same_entries 16 (present_on sheet c) (present_on sheet (c + 1))
      (λ k _. sym (set_as_before c (test k) (rw (le-ltb 0 (get_or (parts.steps sheet) c 0) (omega arith)) refl)))

  -- a cart is in the set of its lane
  pub on_says : (l d : ℕ) → (has (present_on sheet 16 l) d ≡ true) ↔ ((d < 16) × Present d × (lane_of sheet d ≡ l))
  unfolding present_on test
  on_says l d = (
    λ e.
        let few : d < 16 = has_below 16 _ d (set_fits 16 _) e in
        let (some, is) = says.0 (sym (has_set 16 (test l) d few) ∙ e) in
        (few, some, is),
    λ (few, some, is). has_set 16 (test l) d few ∙ says.1 (some, is),
  )
    where
      says : (test l d ≡ true) ↔ (Present d × (lane_of sheet d ≡ l))
      says = and_says _ _ (ltb_says 0 (get_or (parts.steps sheet) d 0)) (eqb_says (lane_of sheet d) l)

  -- where it has steps, its lane decides
  pub mates_say : (c d : ℕ) → d < 16 → Present d → has (present_mates sheet c) d ≡ eqb (lane_of sheet d) (lane_of sheet c)
  unfolding present_on
  mates_say c d few some = has_set 16 _ d few ∙ rw (lt-ltb 0 (get_or (parts.steps sheet) d 0) some) refl

  -- the member next below a cart is the cart in front of it
  pub before_front : (c : ℕ) → c < 16 → Present c → member_before (present_mates sheet c) c ≡ get_or (fronts_of sheet) c 0
  unfolding present_on next_in_front
  before_front c few some =
      highest_same (has (present_mates sheet c)) (is_on_lane (lane_of sheet) (routes sheet) (lane_of sheet c)) c each
      ∙ sym (fronts_are (parts.steps sheet) (parts.zone sheet) (parts.lane sheet) c few some)
    where
      each : (d : ℕ) → d < c → has (present_mates sheet c) d ≡ is_on_lane (lane_of sheet) (routes sheet) (lane_of sheet c) d
      each d l =
          has_set 16 _ d (omega arith)
          ∙ ap (λ (k : ℕ). ltb 0 k && eqb (lane_of sheet d) (lane_of sheet c)) (sym (has_steps sheet d (omega arith)))

  -- those that have nobody in front
  pub foremost_says : AtMost 15 (parts.lane sheet) → (r : ℕ) → Foremost (present_lanes sheet) 16 r
      → (d : ℕ) → (has r d ≡ true) ↔ ((d < 16) × Present d × (get_or (fronts_of sheet) d 0 ≡ 0))
  foremost_says most r are d = (
    λ e.
        let (l, few, member, none) = (are d).0 e in
        let (cart, some, is) = (on_says l d).0 (rw (at_entry 16 (present_on sheet 16) l few) at member) in
        (cart, some, sym (before_front d cart some) ∙ rw (is, ← at_entry 16 (present_on sheet 16) l few) none),
    λ (cart, some, none).
        let few : lane_of sheet d < 16 = omega (arith, most d) in
        let entry : get_or (present_lanes sheet) (lane_of sheet d) 0 ≡ present_mates sheet d = at_entry 16 (present_on sheet 16) (lane_of sheet d) few in
        (are d).1 (lane_of sheet d, few, rw entry ((on_says (lane_of sheet d) d).1 (cart, some, refl)), rw entry (before_front d cart some ∙ none)),
  )

  -- the one that cart c is in front of
  pub behind_says : (c : ℕ) → c < 16 → Present c → (r : ℕ) → NextBehind (present_mates sheet c) c r
      → (d : ℕ) → (has r d ≡ true) ↔ ((d < 16) × Present d × (get_or (fronts_of sheet) d 0 ≡ suc c))
  behind_says c few here r are d = (
    λ e.
        let (member, is) = (are d).0 e in
        let (cart, some, same) = (on_says (lane_of sheet c) d).0 member in
        (cart, some, sym (before_front d cart some) ∙ rw same is),
    λ (cart, some, is).
        let before : member_before (present_mates sheet d) d ≡ suc c = before_front d cart some ∙ is in
        let (_, found, _) = before_is (present_mates sheet d) d (suc c) before in
        let (_, _, same) = (on_says (lane_of sheet d) c).0 found in
        (are d).1 ((on_says (lane_of sheet c) d).1 (cart, some, sym same), rw same before),
  )
