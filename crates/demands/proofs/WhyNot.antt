-- Request #105: the chain that is shown is the theory's, link by link; and what refuses it is a number below 26.
use Prim.Native.Nat.{ℕ, suc, ◌-◌, ◌≤◌, ◌<◌}
use mathlib.Core.Path.{◌≡◌, refl, sym, ap, ◌∙◌}
use mathlib.Core.Logic.{◌⊎◌, inl, inr}
use mathlib.Core.List.{List, []}
use native.Mathlib.Decide.{dec_lt, ℕ_discrete}
use native.Mathlib.Omega.{arith}
use lib.Dec.{eqb}
use lib.ListN.{length, get_or, get_or-eq_default}
use borrow.Author.Tests.{eq-eqb, ne_eqb}
use Rattle.words.specs.Checks.{AllPass}
use Rattle.words.specs.declared.Outcome.{Outcome}
use Rattle.words.proofs.Entries.{length_entries, at_entry}
use Rattle.words.proofs.First.{pass_answers}
use Rattle.sets.specs.Counting.{bit}
use Rattle.moves.specs.System.{System, pos}
use Rattle.moves.specs.Rings.{follow}
use Rattle.moves.specs.Chains.{held_for, chain_of}
use Rattle.moves.specs.inner.Chains.{HeldBy}
use Rattle.routes.specs.Crossing.{route, steps, zone}
use Rattle.routes.specs.Moves.{ByRule}
use Rattle.routes.proofs.Moves.{moves_most}
use Rattle.sheet.specs.Reading.{sheet_of}
use Rattle.plan.specs.Reading.{read_plan}
use Rattle.plan.proofs.Readable.{said_sheet, said_valid}
use Rattle.plan.proofs.Further.{further_refused, further_read}
use Rattle.judge.specs.Judging.{orders_read}
use Rattle.judge.proofs.Numbers.{read_below}
use Rattle.judge.proofs.Verdict.{plan_carts}
use Rattle.moving_record.specs.declared.Record.{Record}
use Rattle.moving_asking.specs.Asking.{record_checks}
use Rattle.moving_asking.specs.inner.Held.{tested_of}
use Rattle.moving_asking.proofs.Tested.{tested_passes, tested_below, tested_refused}
use Rattle.moving_why.specs.Why.{chain_refused, chain_by, chain_from, why}
use Rattle.moving_why.specs.declared.Chain.{Chain}
use Rattle.moving_why.proofs.Links.{chain_held}
use Rattle.demands.specs.DemandTwo.{Readable, planned}
use Rattle.demands.specs.DemandThree.{rule, points}
use Rattle.demands.specs.WhyNot.{link, wants, NeverHeld, IntoZone, MoveOut, ChainShown}
use Rattle.demands.proofs.DemandThree.{get_d_map, rule_permits, waits_for}

module _ (s p : List ℕ) (readable : Readable s p) (lent : Record) (asked : ℕ)
    (passed : AllPass (record_checks (sheet_of s) (orders_read s p) lent asked)) where
  abbrev at : List ℕ
  at = lent.position

  abbrev S : System
  S = rule s p

  abbrev to : ℕ → ℕ
  to = points s p at

  abbrev carts : List ℕ
  carts = chain_of S at to asked

  held : HeldBy S at asked carts
  held = chain_held (sheet_of s) (orders_read s p) (said_sheet s p readable) (said_valid s p readable) lent asked passed

  long : length carts ≡ suc (held_for S at to asked)
  long = length_entries (suc (held_for S at to asked)) 0 (λ i. follow to i asked)

  few : length carts ≤ 16
  few = omega (arith, held.few, plan_carts (sheet_of s) (orders_read s p))

  follows : (k : ℕ) → k < length carts → get_or carts k 0 ≡ follow to k asked
  follows k h = at_entry (suc (held_for S at to asked)) (λ i. follow to i asked) k (omega (arith, h, long))

  abbrev wanted : ℕ → ℕ
  wanted d = zone (planned s p) d (pos at d)

  abbrev shown : Chain
  shown = chain_by S at to wanted (λ d. eqb (pos at d) (steps (planned s p) d)) asked

  shown_at : (k : ℕ) → k < length carts → link shown k ≡ get_or carts k 0
  shown_at k h = at_entry 16 _ k (omega (arith, few))

  shown_wants : (k : ℕ) → k < length carts → wants shown k ≡ wanted (get_or carts k 0)
  shown_wants k h = at_entry 16 _ k (omega (arith, few)) ∙ get_d_map wanted carts k h

  abbrev last : ℕ
  last = get_or carts (length carts - 1) 0

  may : ByRule (planned s p) at last
  may = (rule_permits s p readable at last).0 held.may_move

  out_is : shown.out ≡ bit (eqb (pos at last) (steps (planned s p) last))
  out_is =
      let end : length carts - 1 ≡ held_for S at to asked = omega (arith, long) in
      let is_last : last ≡ follow to (held_for S at to asked) asked = follows (length carts - 1) (omega (arith, long)) ∙ ap (λ (k : ℕ). follow to k asked) end in
      ap (λ (d : ℕ). bit (eqb (pos at d) (steps (planned s p) d))) (sym is_last)

  last_wants : (IntoZone s p lent asked last (wanted last) × (shown.out ≡ 0)) ⊎ (MoveOut s p lent asked last (wanted last) × (shown.out ≡ 1))
  last_wants = go (dec_lt (pos at last) (steps (planned s p) last))
    where
      go : Dec (pos at last < steps (planned s p) last) → (IntoZone s p lent asked last (wanted last) × (shown.out ≡ 0))
          ⊎ (MoveOut s p lent asked last (wanted last) × (shown.out ≡ 1))
      go (yes h) = inl ((h, refl), out_is ∙ rw (ne_eqb (pos at last) (steps (planned s p) last) (λ e. omega (arith, h, e))))
      go (no m) =
          let there : pos at last ≡ steps (planned s p) last = omega (arith, m, may.not_out, moves_most (steps (planned s p) last)) in
          inr (
            (there, get_or-eq_default (route (planned s p) last) 0 {n = pos at last} (omega (arith, m))),
            out_is ∙ rw (eq-eqb (pos at last) (steps (planned s p) last) there),
          )

  shown_is : ChainShown s p lent asked shown
  shown_is =
      let end : length carts - 1 < length carts = omega (arith, held.some) in
      record {
        some_carts = held.some;
        few = few;
        begins = shown_at 0 held.some ∙ held.begins;
        waits_for_next = λ k h.
            let next : get_or carts (suc k) 0 ≡ points s p at (get_or carts k 0) = follows (suc k) h ∙ ap to (sym (follows k (omega arith))) in
            rw (shown_at k (omega arith), shown_wants k (omega arith), shown_at (suc k) h)
            (waits_for s p readable at (get_or carts k 0) (get_or carts (suc k) 0) (held.waits k h) next);
        may_move = rw (shown_at (length carts - 1) end) may;
        last_wants = rw (shown_at (length carts - 1) end, shown_wants (length carts - 1) end) last_wants;
        distinct = λ i k l h. rw (shown_at i (omega arith), shown_at k h) (held.no_cart_twice i k l h);
      }

module _ (s p : List ℕ) (lent : Record) (cart : ℕ) where
  abbrev tested : Outcome
  tested = tested_of (sheet_of s) (orders_read s p) lent cart

  abbrev chain : Chain
  chain = chain_from (sheet_of s) (orders_read s p) lent cart

  -- ---- what reading said decides, or the checks of record and cart do

  unread : ((read_plan s p).outcome.number ≡ 0 → ⊥) → why s p lent cart ≡ chain_refused (read_plan s p).outcome
  unfolding why
  unread n = further_refused chain_refused chain s p (record_checks (sheet_of s) (orders_read s p) lent cart) n

  untested : Readable s p → (tested.number ≡ 0 → ⊥) → why s p lent cart ≡ chain_refused tested
  unfolding why
  untested e n =
      further_read chain_refused chain s p (record_checks (sheet_of s) (orders_read s p) lent cart) e
      ∙ tested_refused (sheet_of s) (orders_read s p) lent cart chain_refused chain [] n

  all_passed : Readable s p → tested.number ≡ 0 → why s p lent cart ≡ chain
  unfolding why
  all_passed e d =
      further_read chain_refused chain s p (record_checks (sheet_of s) (orders_read s p) lent cart) e
      ∙ pass_answers chain_refused chain (record_checks (sheet_of s) (orders_read s p) lent cart) (tested_passes (sheet_of s) (orders_read s p) lent cart d)

  module _ (r : Chain) (is : r ≡ why s p lent cart) where
    number : {x : Chain} → why s p lent cart ≡ x → r.outcome.number ≡ x.outcome.number
    number e = ap (λ (c : Chain). c.outcome.number) (is ∙ e)

    pub chain_shown : r.outcome.number ≡ 0 → ChainShown s p lent cart r
    unfolding chain_from
    chain_shown zero = go (ℕ_discrete (read_plan s p).outcome.number 0) (ℕ_discrete tested.number 0)
      where
        go : Dec (Readable s p) → Dec (tested.number ≡ 0) → ChainShown s p lent cart r
        go (yes e) (yes d) = rw (is ∙ all_passed e d) (shown_is s p e lent cart (tested_passes (sheet_of s) (orders_read s p) lent cart d))
        go (yes e) (no n) = absurd (n (sym (number (untested e n)) ∙ zero))
        go (no n) _ = absurd (n (sym (number (unread n)) ∙ zero))

    -- "26 is never given, and this is shown"
    pub never_held : NeverHeld r
    unfolding chain_from
    never_held held = go (ℕ_discrete (read_plan s p).outcome.number 0) (ℕ_discrete tested.number 0)
      where
        go : Dec (Readable s p) → Dec (tested.number ≡ 0) → ⊥
        go (yes e) (yes d) = omega (arith, held, number (all_passed e d))
        go (yes e) (no n) = omega (arith, held, number (untested e n), tested_below (sheet_of s) (orders_read s p) lent cart n)
        go (no n) _ = omega (arith, held, number (unread n), read_below s p)
