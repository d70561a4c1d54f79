-- The better of the two, by whether the checks pass: a plan that is one of the two by their finishes, or the refusal that all three give.
use Prim.Native.Nat.{ℕ, ◌≤◌, ◌<◌}
use mathlib.Core.Path.{◌≡◌, refl, sym, ap, ◌∙◌}
use mathlib.Core.Logic.{◌⊎◌, inl, inr}
use mathlib.Core.Bool.{Bool, true, false}
use mathlib.Core.List.{List}
use native.Mathlib.Omega.{arith}
use lib.ListN.{length}
use borrow.Author.Tests.{ltb-true, ltb-false}
use Rattle.words.specs.Checks.{Check, AllPass, FirstFails}
use Rattle.words.proofs.First.{pass_answers, fails_refuses, pass_or_fail}
use Rattle.sheet.specs.Reading.{sheet_of}
use Rattle.sheet.specs.declared.Sheet.{Sheet}
use Rattle.planner.specs.Planning.{is_first_earlier, ordered_by, planned, not_planned, planning_checks, with_plan, plan_sheet, room_after}
use Rattle.planner.specs.declared.Planned.{Planned}
use Rattle.planner.specs.declared.Rule.{Rule}
use Rattle.planner.specs.declared.Rule.TheVariants.{Removal, First, Better}
use Rattle.demands.specs.BetterOfTwo.{BetterOfTwo}

module _ (sheet : Sheet) where
  first_taken : is_first_earlier sheet ≡ true → (ordered_by sheet Better ≡ ordered_by sheet First) × ((planned sheet First).finish < (planned sheet Removal).finish)
  unfolding planned ordered_by
  first_taken e = (rw e, ltb-true _ _ e)

  removal_taken : is_first_earlier sheet ≡ false
      → (ordered_by sheet Better ≡ ordered_by sheet Removal) × ((planned sheet Removal).finish ≤ (planned sheet First).finish)
  unfolding planned ordered_by
  removal_taken e = (rw e, ltb-false _ _ e)

module _ (s room : List ℕ) (r : Planned) (after : List ℕ) (is : r ≡ plan_sheet Better s (length room)) (holds : after ≡ room_after Better s room) where
  abbrev checks : List Check
  checks = planning_checks s (length room)

  -- where the checks pass each mode's plan is its rule's, and the third is one of the two
  module _ (all : AllPass checks) where
    answer_is : (rule : Rule) → plan_sheet rule s (length room) ≡ planned (sheet_of s) rule
    unfolding plan_sheet
    answer_is rule = pass_answers not_planned (planned (sheet_of s) rule) checks all

    room_is : (rule : Rule) → room_after rule s room ≡ with_plan rule s room
    unfolding room_after
    room_is rule = pass_answers (λ _. room) (with_plan rule s room) checks all

    finish_is : (rule : Rule) → (plan_sheet rule s (length room)).finish ≡ (planned (sheet_of s) rule).finish
    finish_is rule = ap (λ (x : Planned). x.finish) (answer_is rule)

    same_as : (rule : Rule) → ordered_by (sheet_of s) Better ≡ ordered_by (sheet_of s) rule → (r ≡ plan_sheet rule s (length room)) × (after ≡ room_after rule s room)
    unfolding planned
    same_as rule e = (is ∙ answer_is Better ∙ rw e (sym (answer_is rule)), holds ∙ room_is Better ∙ rw e (sym (room_is rule)))

    no_later : (own : Rule) → r ≡ plan_sheet own s (length room) → (planned (sheet_of s) own).finish ≤ (planned (sheet_of s) Removal).finish
        → (planned (sheet_of s) own).finish ≤ (planned (sheet_of s) First).finish → (rule : Rule) → r.finish ≤ (plan_sheet rule s (length room)).finish
    no_later own e a b Removal = omega (arith, ap (λ (x : Planned). x.finish) e, finish_is own, finish_is Removal)
    no_later own e a b First = omega (arith, ap (λ (x : Planned). x.finish) e, finish_is own, finish_is First)
    no_later own e a b Better = omega (arith, ap (λ (x : Planned). x.finish) is)

    passed : (b : Bool) → is_first_earlier (sheet_of s) ≡ b → BetterOfTwo s room r after
    passed true e =
        let (orders, earlier) = first_taken (sheet_of s) e in
        let own = same_as First orders in
        record {
          never_later = no_later First own.0 (omega arith) (omega arith);
          first_if_earlier = λ _. own;
          else_removal = λ less. absurd (omega (arith, finish_is First, finish_is Removal));
        }
    passed false e =
        let (orders, no-earlier) = removal_taken (sheet_of s) e in
        let own = same_as Removal orders in
        record {
          never_later = no_later Removal own.0 (omega arith) no-earlier;
          first_if_earlier = λ less. absurd (omega (arith, finish_is First, finish_is Removal));
          else_removal = λ _. own;
        }

  -- where one fails all three refuse the same
  failed : (c : Check) → FirstFails checks c → BetterOfTwo s room r after
  unfolding plan_sheet room_after
  failed c f = record {
    never_later = λ rule. omega (arith, ap (λ (x : Planned). x.finish) (is ∙ fails_refuses _ _ checks c f));
    first_if_earlier = λ _. all First;
    else_removal = λ _. all Removal;
  }
    where
      all : (rule : Rule) → (r ≡ plan_sheet rule s (length room)) × (after ≡ room_after rule s room)
      all rule = (
        is ∙ fails_refuses _ _ checks c f ∙ sym (fails_refuses _ _ checks c f),
        holds ∙ fails_refuses _ _ checks c f ∙ sym (fails_refuses _ _ checks c f),
      )

  -- "the third mode never finishes later than either"
  pub better_of_two : BetterOfTwo s room r after
  better_of_two = go (pass_or_fail checks)
    where
      go : AllPass checks ⊎ ((c : Check) × FirstFails checks c) → BetterOfTwo s room r after
      go (inl all) = passed all (is_first_earlier (sheet_of s)) refl
      go (inr (c, f)) = failed c f
