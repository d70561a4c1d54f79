-- Every operation's checks are the sheet's, which tell the cart and step where they stand, and others, which tell none: so does the one that fails first.
use Prim.Native.Nat.{ℕ, ◌<◌}
use mathlib.Core.Path.{◌≡◌, refl, ap, ◌∙◌}
use mathlib.Core.Bool.{true}
use mathlib.Core.List.{List}
use native.Mathlib.Omega.{arith}
use lib.Dec.{lit<}
use lib.ListN.{length}
use Rattle.words.specs.Checks.{Check, check, done, refused, refusal}
use Rattle.words.specs.declared.Outcome.{Outcome}
use Rattle.words.proofs.Keeps.{Keeps, one_keeps, ◌with◌, keeps_as, first_keeps}
use Rattle.sheet.specs.Told.{Told}
use Rattle.sheet.specs.Checks.{sheet_checks}
use Rattle.sheet.specs.Reading.{sheet_of}
use Rattle.sheet.proofs.Told.{sheet_tells, told_other, told_done}
use Rattle.plan.specs.Reading.{reading_checks}
use Rattle.plan.proofs.Told.{plan_tells}
use Rattle.plan_writer.specs.Writing.{writing_checks}
use Rattle.plan_zone_list.specs.Finding.{finding_checks}
use Rattle.judge.specs.Judging.{orders_read, judging_checks}
use Rattle.planner.specs.Planning.{planned, planning_checks}
use Rattle.moving_record.specs.declared.Record.{Record}
use Rattle.moving_asking.specs.Asking.{record_checks, moving_checks}
use Rattle.moving_why.specs.Why.{chain_from, why_checks}
use Rattle.net.specs.Netting.{net_checks}
use Rattle.demands.specs.DemandOne.{AnswersOrRefuses, answers, refuses}
use Rattle.demands.specs.WhichCart.{CartTold}

module _ (s : List ℕ) where
  abbrev Tells : Check → Type 0
  Tells c = Told s (refusal c)

  -- a check of an operation's own
  own : (number : ℕ) → 14 < number → Told s (refused number 0)
  own number l = told_other s (check number 0 true) l (refl, refl)

  sheet_keeps : Keeps Tells (sheet_checks s)
  sheet_keeps = keeps_as (λ c h. h.told) (sheet_tells s)

  planning_keeps : (room : ℕ) → Keeps Tells (planning_checks s room)
  planning_keeps room = sheet_keeps with record { all = (own 28 (lit< tt), tt) }

  module _ (p : List ℕ) where
    reading_keeps : Keeps Tells (reading_checks s p)
    reading_keeps = sheet_keeps with keeps_as (λ c h. told_other s c (omega (arith, h.numbered.0)) h.nowhere) (plan_tells (sheet_of s) p)

    writing_keeps : (room : ℕ) → Keeps Tells (writing_checks s p room)
    writing_keeps room = reading_keeps with record { all = (own 28 (lit< tt), tt) }

    finding_keeps : (zone : ℕ) → Keeps Tells (finding_checks s p zone)
    finding_keeps zone = reading_keeps with record { all = (own 27 (lit< tt), tt) }

    judging_keeps : (room : ℕ) → Keeps Tells (judging_checks s p room)
    judging_keeps room = reading_keeps with record { all = (own 22 (lit< tt), (own 28 (lit< tt), tt)) }

    record_keeps : (lent : Record) (cart : ℕ) → Keeps Tells (record_checks (sheet_of s) (orders_read s p) lent cart)
    record_keeps lent cart = record { all = (own 22 (lit< tt), (own 23 (lit< tt), (own 24 (lit< tt), (own 25 (lit< tt), tt)))) }

    moving_keeps : (lent : Record) (cart : ℕ) → Keeps Tells (moving_checks s p lent cart)
    moving_keeps lent cart = reading_keeps with (record_keeps lent cart with one_keeps (own 26 (lit< tt)))

    why_keeps : (lent : Record) (cart : ℕ) → Keeps Tells (why_checks s p lent cart)
    why_keeps lent cart = reading_keeps with record_keeps lent cart

    netting_keeps : (room : ℕ) → Keeps Tells (net_checks s p room)
    netting_keeps room = reading_keeps with record { all = (own 28 (lit< tt), tt) }

  -- answers that tell their outcome: a refusal its own, the others done
  told : {R : Type 0} (outcome : R → Outcome) {refuse : Outcome → R} {answer : R} {checks : List Check} → ((o : Outcome) → outcome (refuse o) ≡ o)
      → outcome answer ≡ done → Keeps Tells checks → (r : R) → AnswersOrRefuses refuse answer checks r → Told s (outcome r)
  told outcome same is-done keeps r (answers h e) = rw (ap outcome e ∙ is-done) (told_done s)
  told outcome same is-done keeps r (refuses c f e) = rw (ap outcome e ∙ same (refusal c)) (first_keeps keeps f)

pub cart_told : CartTold
unfolding planned chain_from
cart_told =
    record {
      sheet_read = λ s r. told s (λ x. x.outcome) (λ _. refl) refl (sheet_keeps s) r;
      plan_read = λ s p r. told s (λ x. x.outcome) (λ _. refl) refl (reading_keeps s p) r;
      written_again = λ s p room r after h. told s (λ x. x.outcome) (λ _. refl) refl (writing_keeps s p (length room)) r h.answer;
      list_found = λ s p zone r. told s (λ x. x.outcome) (λ _. refl) refl (finding_keeps s p zone) r;
      judged = λ s p words r after h. told s (λ x. x.outcome) (λ _. refl) refl (judging_keeps s p (length words)) r h.answer;
      planned = λ rule s room r after h. told s (λ x. x.outcome) (λ _. refl) refl (planning_keeps s (length room)) r h.answer;
      asked = λ s p lent cart r. told s (λ x. x.outcome) (λ _. refl) refl (moving_keeps s p lent cart) r;
      why_told = λ s p lent cart r. told s (λ x. x.outcome) (λ _. refl) refl (why_keeps s p lent cart) r;
      moved = λ s p lent cart r after h. told s (λ x. x.outcome) (λ _. refl) refl (moving_keeps s p lent cart) r h.answer;
      netted = λ s p room r after h. told s (λ x. x.outcome) (λ _. refl) refl (netting_keeps s p (length room)) r h.answer;
    }
