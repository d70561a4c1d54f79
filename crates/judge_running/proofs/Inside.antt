-- The set of the carts that are not out: those that have steps at the start; a cart that comes out is taken from it.
use Prim.Native.Nat.{ℕ, suc, ◌+◌, ◌≤◌, ◌<◌}
use mathlib.Core.Path.{◌≡◌, refl, sym, ◌∙◌}
use mathlib.Core.Logic.{◌↔◌}
use mathlib.Core.Bool.{true, false≢true}
use mathlib.Core.List.{List}
use native.Mathlib.Decide.{ℕ_discrete, dec_lt}
use native.Mathlib.Omega.{arith}
use lib.ListN.{get_or, replicate}
use borrow.Author.Tests.{ltb-true, lt-ltb, le-ltb}
use Rattle.sets.specs.inner.Member.{has, With, Without}
use Rattle.sets.specs.Counting.{set_below}
use Rattle.sets.proofs.Laws.{has_below, without_gone, without_other}
use Rattle.sets.proofs.Counting.{set_fits, has_set, set_with, set_as_before}
use Rattle.moves.specs.System.{System, pos}
use Rattle.moves.specs.Moves.{NotOut, Permitted}
use Rattle.moves.proofs.Positions.{zeros_pos}
use Rattle.routes.specs.Crossing.{Crossing, steps}
use Rattle.routes.specs.Moves.{system}
use Rattle.routes.specs.inner.Orders.{OnlyVisitors}
use Rattle.routes.proofs.Moves.{moves_within, out_are, out_steps, permitted_by_rule}
use Rattle.crossing.specs.inner.Tables.{crossing_by}
use Rattle.crossing.proofs.Tables.{steps_is, step_below}
use Rattle.judge_running.specs.inner.Rounds.{present_set, InsideSet}

-- ---- the carts that have steps

module _ (step_table : List ℕ) where
  pub present_none : 0 ≡ present_set step_table 0
  unfolding present_set set_below
  present_none = refl

  pub present_with : (c set more : ℕ) → 0 < get_or step_table c 0 → set ≡ present_set step_table c → With set c more → more ≡ present_set step_table (c + 1)
  unfolding present_set
  present_with c set more some is with = sym (set_with c _ more (lt-ltb 0 (get_or step_table c 0) some) (rw is at with))

  pub present_as_before : (c set : ℕ) → get_or step_table c 0 ≤ 0 → set ≡ present_set step_table c → set ≡ present_set step_table (c + 1)
  unfolding present_set
  present_as_before c set none is = is ∙ sym (set_as_before c _ (le-ltb 0 (get_or step_table c 0) none))

  module _ (zone_table front_table ahead_table : List ℕ) where
    abbrev X : Crossing
    X = crossing_by step_table zone_table front_table ahead_table

    -- are those that are not out at the start
    pub present_inside : InsideSet X (replicate 16 0) (present_set step_table 16)
    unfolding present_set
    present_inside = record {
      not_out = λ c. (
        λ e. omega (arith, zeros_pos 16 c, out_steps X c 0 (some c e)),
        λ h.
            let has_steps : 0 < steps X c = (moves_within (steps X c) _ (rw (out_are X c) at h)).0 in
            let l : c < 16 = step_below step_table zone_table front_table ahead_table c 0 has_steps in
            has_set 16 _ c l ∙ lt-ltb 0 (get_or step_table c 0) (omega (arith, steps_is step_table zone_table front_table ahead_table c l)),
      );
      wants = λ c e. omega (arith, zeros_pos 16 c, some c e);
    }
      where
        some : (c : ℕ) → has (present_set step_table 16) c ≡ true → 0 < steps X c
        some c e =
            let l : c < 16 = has_below 16 _ c (set_fits 16 _) e in
            let counted : 0 < get_or step_table c 0 = ltb-true 0 _ (sym (has_set 16 _ c l) ∙ e) in
            omega (arith, steps_is step_table zone_table front_table ahead_table c l)

-- ---- cart c has moved on, and no other has

module _ (X : Crossing) (old at : List ℕ) (c inside : ℕ) (is : InsideSet X old inside) (member : has inside c ≡ true)
    (others : (d : ℕ) → ¬ (d ≡ c) → pos at d ≡ pos old d) where
  abbrev S : System
  S = system X

  out_at : pos S.out c ≡ suc (steps X c)
  out_at = out_steps X c (pos old c) (is.wants c member)

  as_before : (d : ℕ) → ¬ (d ≡ c) → (has inside d ≡ true) ↔ NotOut S at d
  as_before d n = rw (others d n) (is.not_out d)

  want_as_before : (d : ℕ) → ¬ (d ≡ c) → has inside d ≡ true → pos at d < steps X d
  want_as_before d n = rw (others d n) (is.wants d)

  pub inside_kept : pos at c < steps X c → InsideSet X at inside
  inside_kept still = record {
    not_out = λ d. elim (ℕ_discrete d c) [ yes e ↦ rw e (λ _. omega (arith, out_at), λ _. member) | no n ↦ as_before d n ];
    wants = λ d. elim (ℕ_discrete d c) [ yes e ↦ rw e (λ _. still) | no n ↦ want_as_before d n ];
  }

  pub inside_out : (fewer : ℕ) → steps X c < pos at c → Without inside c fewer → InsideSet X at fewer
  inside_out fewer past without = record {
    not_out = λ d. elim (ℕ_discrete d c) [
      | yes e ↦ rw e (λ m. absurd (gone m), λ h. absurd (omega (arith, out_at)))
      | no n ↦ rw (without_other inside c fewer without d n) (as_before d n)
    ];
    wants = λ d. elim (ℕ_discrete d c) [
      | yes e ↦ rw e (λ m. absurd (gone m))
      | no n ↦ rw (without_other inside c fewer without d n) (want_as_before d n)
    ];
  }
    where
      gone : ¬ (has fewer c ≡ true)
      gone m = false≢true (sym (without_gone inside c fewer without) ∙ m)

-- ---- a cart that is held or out, and not past its last zone, is held before a zone: the move out is always permitted

pub held_wants : (X : Crossing) (at : List ℕ) (c : ℕ) → OnlyVisitors X → 0 < steps X c → pos at c ≤ steps X c → ¬ (Permitted (system X) at c)
    → pos at c < steps X c
held_wants X at c only some within held = elim (dec_lt (pos at c) (steps X c)) [ yes l ↦ l | no n ↦ absurd (held (may_out n)) ]
  where
    may_out : ¬ (pos at c < steps X c) → Permitted (system X) at c
    may_out n =
        (permitted_by_rule X only at c).1
        (record {
          not_out = omega (arith, out_are X c, out_steps X c 0 some);
          into = λ h. absurd (n h);
          line = λ first. absurd (omega (arith, first, some, n));
        })
