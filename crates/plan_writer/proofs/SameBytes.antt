-- A plan that is written again has its own bytes: it is readable, so its bytes are those of its orders.
use Prim.Native.Nat.{ℕ, ◌≤◌}
use mathlib.Core.Path.{◌≡◌, refl, sym, ap, ap₂, ◌∙◌}
use mathlib.Core.List.{List, ◌++◌}
use lib.Dec.{lit<}
use lib.ListN.{length, drop}
use Rattle.words.specs.Checks.{AllPass}
use Rattle.words.proofs.Tests.{leb_says}
use Rattle.words.proofs.First.{pass_answers, done_passes}
use Rattle.words.proofs.Says.{Says, check_says, ◌then◌}
use Rattle.fields.specs.Bytes.{Bytes}
use Rattle.sheet.specs.Reading.{sheet_of}
use Rattle.sheet.proofs.Passing.{SheetPasses}
use Rattle.plan.specs.Reading.{plan_done, orders_of, read_plan}
use Rattle.plan.specs.Valid.{plan_length}
use Rattle.plan.specs.Written.{written}
use Rattle.plan.specs.declared.PlanRead.{PlanRead}
use Rattle.plan.proofs.Passing.{PlanPasses, reading_says, passes_read}
use Rattle.plan.proofs.Readable.{readable_length}
use Rattle.plan.proofs.RoundTrip.{readable_written}
use Rattle.plan_writer.specs.Writing.{writing_checks, not_written, wrote, with_plan, write_again, room_after}
use Rattle.plan_writer.specs.declared.PlanWritten.{PlanWritten}

module _ (s p room : List ℕ) where
  writing_says : Says (writing_checks s p (length room)) ((SheetPasses s × PlanPasses (sheet_of s) p) × (plan_length (sheet_of s) ≤ length room))
  writing_says = reading_says s p then check_says _ (lit< tt) (leb_says (plan_length (sheet_of s)) (length room))

  writing_passes : (write_again s p (length room)).outcome.number ≡ 0 → AllPass (writing_checks s p (length room))
  unfolding write_again
  writing_passes =
      done_passes (λ (r : PlanWritten). r.outcome) not_written (wrote s) (λ o. refl) (writing_checks s p (length room)) writing_says.numbered

  pub same_bytes : Bytes p → (write_again s p (length room)).outcome.number ≡ 0 → room_after s p room ≡ p ++ drop (length p) room
  unfolding room_after
  same_bytes b e =
      pass_answers (λ _. room) (with_plan s p room) (writing_checks s p (length room)) (writing_passes e)
      ∙ ap₂ (λ (bytes : List ℕ) (n : ℕ). bytes ++ drop n room) bytes long
    where
      whole : read_plan s p ≡ plan_done (sheet_of s) (orders_of (sheet_of s) p)
      whole = passes_read s p ((reading_says s p).passes (writing_says.passing (writing_passes e)).0)

      done : (read_plan s p).outcome.number ≡ 0
      done = ap (λ (r : PlanRead). r.outcome.number) whole

      bytes : written (sheet_of s).zones (orders_of (sheet_of s) p) ≡ p
      bytes = sym (ap (λ (r : PlanRead). written r.sheet.zones r.orders) whole) ∙ readable_written s p b done

      long : plan_length (sheet_of s) ≡ length p
      long = sym ((readable_length s p done).0 ∙ ap (λ (r : PlanRead). plan_length r.sheet) whole)
