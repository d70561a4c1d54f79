-- The largest of the last leaving times is times' finish.
use Prim.Native.Nat.{ℕ, zero, suc, ◌+◌, ◌*◌, ◌-◌, ◌≤◌, ◌<◌}
use mathlib.Core.Path.{◌≡◌, sym, ap, ◌∙◌}
use mathlib.Core.List.{List}
use native.Mathlib.Omega.{arith}
use native.Mathlib.Decide.{dec_lt}
use lib.ListN.{get_or}
use borrow.Author.Tests.{lt-ltb, le-ltb, eq-eqb, ne_eqb}
use Rattle.routes.specs.Crossing.{Crossing, steps}
use Rattle.times.specs.Times.{largest, Given, leaving, finish, KeepsRules}
use Rattle.times.proofs.Largest.{largest_most, largest_least}
use Rattle.times.proofs.Rules.{leaving_passed}
use Rattle.times.proofs.Finish.{leaving_finish, finish_most}
use Rattle.judge_entering.specs.Times.{times_of}
use Rattle.crossing.specs.inner.Tables.{crossing_by}
use Rattle.crossing.specs.Plans.{given_by}
use Rattle.crossing.proofs.Tables.{steps_is, step_below}
use Rattle.judge_finish.specs.inner.Finish.{last_leaving}

module _ (X : Crossing) (G : Given) (t : ℕ → ℕ → ℕ) (keeps : KeepsRules X G t) (c : ℕ) where
  last_is : (s : ℕ) → suc s ≡ steps X c → leaving X G t c s ≡ t c s + G.passing c s
  last_is s e = rw (le-ltb (suc s) (steps X c) (omega (arith, e)))

  -- a zone is left before the next one is
  leaving_next_most : (s : ℕ) → suc s < steps X c → leaving X G t c s ≤ leaving X G t c (suc s)
  leaving_next_most s h =
      let now : leaving X G t c s ≡ t c (suc s) - G.travel c s = rw (lt-ltb (suc s) (steps X c) h) in
      omega (arith, now, leaving_passed X G t keeps c (suc s))

  -- no zone is left after the last one
  pub leaving_last : (n s : ℕ) → suc (s + n) ≡ steps X c → leaving X G t c s ≤ leaving X G t c (s + n)
  leaving_last zero s e = omega (arith, ap (leaving X G t c) {x = s} {y = s + 0} (omega arith))
  leaving_last (suc n) s e =
      let further : suc s + n ≡ s + suc n = omega arith in
      omega (arith, leaving_next_most s (omega (arith, e)), leaving_last n (suc s) (omega (arith, e)), ap (leaving X G t c) further)

module _ (step_table zone_table front_table ahead_table lane arrival passing travel follow cross enter : List ℕ) where
  abbrev X : Crossing
  X = crossing_by step_table zone_table front_table ahead_table

  abbrev G : Given
  G = given_by lane arrival passing travel follow cross

  module _ (keeps : KeepsRules X G (times_of enter)) where
    last_leaving_is : (c : ℕ) → c < 16 → 0 < steps X c → last_leaving step_table passing enter c ≡ leaving X G (times_of enter) c (steps X c - 1)
    unfolding given_by
    last_leaving_is c l h =
        let k = steps_is step_table zone_table front_table ahead_table c l in
        let last = last_is X G (times_of enter) keeps c (steps X c - 1) (omega (arith, h)) in
        rw (ne_eqb (get_or step_table c 0) 0 (λ e. omega (arith, k, e)))
        (ap (λ (n : ℕ). get_or enter (8 * c + (n - 1)) 0 + get_or passing (8 * c + (n - 1)) 0) (sym k) ∙ sym last)

    pub finish_is : largest (last_leaving step_table passing enter) 16 ≡ finish X G (times_of enter)
    finish_is = omega (arith, early, late)
      where
        late : finish X G (times_of enter) ≤ largest (last_leaving step_table passing enter) 16
        late =
            finish_most X G (times_of enter) _ λ c s h.
            let l : c < 16 = step_below step_table zone_table front_table ahead_table c s h in
            let place : s + (steps X c - 1 - s) ≡ steps X c - 1 = omega (arith, h) in
            omega (
              arith,
              leaving_last X G (times_of enter) keeps c (steps X c - 1 - s) s (omega (arith, h)),
              ap (leaving X G (times_of enter) c)
                  place,
              last_leaving_is c l (omega (arith, h)),
              largest_least (last_leaving step_table passing enter) 16 c l,
            )

        one : (c : ℕ) → c < 16 → Dec (0 < steps X c) → last_leaving step_table passing enter c ≤ finish X G (times_of enter)
        one c l (yes h) = omega (arith, last_leaving_is c l h, leaving_finish X G (times_of enter) c (steps X c - 1) (omega (arith, h)))
        one c l (no m) =
            let none : last_leaving step_table passing enter c ≡ 0 = rw (eq-eqb (get_or step_table c 0) 0
            (omega (arith, m, steps_is step_table zone_table front_table ahead_table c l))) in
            omega (arith, none)

        early : largest (last_leaving step_table passing enter) 16 ≤ finish X G (times_of enter)
        early = largest_most (last_leaving step_table passing enter) 16 _ (λ c l. one c l (dec_lt 0 (steps X c)))
