-- A request, by how reading sheet and plan was left.
use Prim.Native.Nat.{ℕ, ◌<◌}
use mathlib.Core.Path.{◌≡◌, refl, sym, ap, ◌∙◌}
use mathlib.Core.Bool.{false}
use mathlib.Core.List.{List}
use native.Mathlib.Omega.{arith}
use lib.Dec.{eqb}
use borrow.Author.Tests.{ne_eqb}
use Rattle.words.specs.declared.Outcome.{Outcome}
use Rattle.sheet.specs.Reading.{sheet_of}
use Rattle.sheet.specs.declared.Sheet.{Sheet}
use Rattle.plan.specs.Reading.{plan_refused, plan_done, read_plan}
use Rattle.plan.specs.declared.Orders.{Orders}
use Rattle.plan.specs.declared.PlanRead.{PlanRead}
use Rattle.plan.proofs.Readable.{readable_whole}
use Rattle.plan.proofs.Further.{further_refused, further_read}
use Rattle.moving_record.specs.declared.Record.{Record}
use Rattle.judge.specs.Judging.{orders_read}
use Rattle.judge.proofs.Numbers.{read_below}
use Rattle.moving_asking.specs.inner.Tables.{no_move}
use Rattle.moving_asking.specs.Asking.{not_moved, has_moved, request_checks, ask}
use Rattle.moving_asking.specs.inner.Held.{ask_of}

module _ (s p : List ℕ) (lent : Record) (cart : ℕ) where
  refused_is : ((read_plan s p).outcome.number ≡ 0 → ⊥) → no_move (read_plan s p).outcome 0 ≡ ask s p lent cart
  unfolding ask
  refused_is n =
      let other : eqb (read_plan s p).outcome.number 26 ≡ false = ne_eqb (read_plan s p).outcome.number 26 (λ e. omega (arith, e, read_below s p)) in
      sym (further_refused (not_moved (sheet_of s) (orders_read s p) lent cart) (has_moved lent cart) s p
      (request_checks (sheet_of s) (orders_read s p) lent cart) n ∙ rw other)

  read_is : (read_plan s p).outcome.number ≡ 0 → ask_of (read_plan s p).sheet (read_plan s p).orders lent cart ≡ ask s p lent cart
  unfolding ask
  read_is e =
      ap (λ (r : PlanRead). ask_of r.sheet r.orders lent cart) (readable_whole s p e)
      ∙ sym (further_read (not_moved (sheet_of s) (orders_read s p) lent cart) (has_moved lent cart) s p
      (request_checks (sheet_of s) (orders_read s p) lent cart) e)

  -- the same of what reading both answered
  pub ask_refused : (outcome : Outcome) → 0 < outcome.number → read_plan s p ≡ plan_refused outcome → no_move outcome 0 ≡ ask s p lent cart
  ask_refused outcome some is = rw is at refused_is (λ e. omega (arith, some, e))

  pub ask_read : (sheet : Sheet) (orders : Orders) → read_plan s p ≡ plan_done sheet orders → ask_of sheet orders lent cart ≡ ask s p lent cart
  ask_read sheet orders is = rw is at read_is refl
