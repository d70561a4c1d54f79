-- Writing again, by what reading the plan answered and by how long the room is.
use Prim.Native.Nat.{ℕ, ◌+◌, ◌≤◌, ◌<◌}
use mathlib.Core.Path.{◌≡◌, sym, ap, ◌∙◌}
use mathlib.Core.Bool.{true, false}
use mathlib.Core.List.{List, [], ◌∷◌, ◌++◌}
use native.Mathlib.Omega.{arith}
use lib.Dec.{leb}
use lib.ListN.{length, drop}
use lib.Seq.{sets, sets-eq}
use borrow.Author.Tests.{le-leb, lt-leb}
use Rattle.words.specs.Checks.{Check, check, done, refused, first_failing}
use Rattle.words.specs.declared.Outcome.{Outcome}
use Rattle.sheet.specs.Reading.{sheet_of}
use Rattle.sheet.specs.Valid.{steps, Valid}
use Rattle.sheet.specs.declared.Sheet.{Sheet}
use Rattle.plan.specs.Reading.{plan_refused, plan_done, orders_of, read_plan}
use Rattle.plan.specs.Valid.{sum_below, plan_length, ValidOrders}
use Rattle.plan.specs.Written.{written}
use Rattle.plan.specs.declared.Orders.{Orders}
use Rattle.plan.specs.declared.PlanRead.{PlanRead}
use Rattle.plan.proofs.Further.{further_refused, further_read}
use Rattle.plan.proofs.Readable.{readable_whole, readable_sheet, readable_valid}
use Rattle.plan.proofs.Visitors.{visitors_most}
use Rattle.plan.proofs.Lists.{listed_cart}
use Rattle.plan.proofs.RoundTrip.{written_length}
use Rattle.plan_writer.specs.Writing.{not_written, wrote, with_plan, write_again, room_after}
use Rattle.plan_writer.specs.inner.Writing.{Writable}

-- stored at the start of room for it, with what follows as it was
pub written_stored : (n : ℕ) (orders : Orders) (room : List ℕ) (total : ℕ) → length (written n orders) ≡ total → total ≤ length room
    → sets room 0 (written n orders) ≡ written n orders ++ drop total room
written_stored n orders room total long l =
    let beyond : 0 + length (written n orders) ≡ total = omega (arith, long) in
    sets-eq (written n orders) room 0 (omega (arith, long, l)) ∙ ap (λ (k : ℕ). written n orders ++ drop k room) beyond

-- orders that a sheet's plan may have can be written
pub orders_writable : (sheet : Sheet) (orders : Orders) (room : List ℕ) → Valid sheet → ValidOrders sheet orders → plan_length sheet ≤ length room →
    Writable sheet.zones orders room
orders_writable sheet orders room v w l =
    record {
      zones = v.zones_most;
      list = λ z below.
          record {
            few = omega (arith, (w.list z below).all_visitors, visitors_most sheet z);
            byte = λ k h. omega (arith, listed_cart sheet v orders w z below k h, v.carts_most);
          };
      fits = omega (arith, written_length sheet v orders w);
    }

pub again_refused : (s p : List ℕ) (outcome : Outcome) → 0 < outcome.number → read_plan s p ≡ plan_refused outcome → (room : List ℕ)
    → (not_written outcome ≡ write_again s p (length room)) × (room ≡ room_after s p room)
unfolding write_again room_after
again_refused s p outcome some e room =
    let n : (read_plan s p).outcome.number ≡ 0 → ⊥ = rw e (λ q. omega (arith, some, q)) in
    let is = ap (λ (r : PlanRead). r.outcome) e in
    (sym (further_refused _ _ s p _ n ∙ ap not_written is), sym (further_refused _ _ s p _ n))

module _ (s p : List ℕ) (sheet : Sheet) (orders : Orders) (is : read_plan s p ≡ plan_done sheet orders) where
  read : (read_plan s p).outcome.number ≡ 0
  read = ap (λ (r : PlanRead). r.outcome.number) is

  whole : plan_done sheet orders ≡ plan_done (sheet_of s) (orders_of (sheet_of s) p)
  whole = sym is ∙ readable_whole s p read

  same_sheet : sheet ≡ sheet_of s
  same_sheet = ap (λ (r : PlanRead). r.sheet) whole

  pub again_sheet : Valid sheet
  again_sheet = rw is at (readable_sheet s p read)

  again_orders : ValidOrders sheet orders
  again_orders = rw is at (readable_valid s p read)

  -- the length as the routine works it out
  module _ (sum : ℕ) (summed : sum ≡ sum_below 16 (steps sheet)) where
    abbrev total : ℕ
    total = 4 + sheet.zones + sum

    worked : total ≡ plan_length sheet
    worked = ap (λ (n : ℕ). 4 + sheet.zones + n) summed

    pub again_length : total ≡ length (written sheet.zones orders)
    again_length = worked ∙ sym (written_length sheet again_sheet orders again_orders)

    pub again_short : (room : List ℕ) → length room < total → (not_written (refused 28 0) ≡ write_again s p (length room)) × (room ≡ room_after s p room)
    unfolding write_again room_after first_failing
    again_short room l =
        let short : leb (plan_length (sheet_of s)) (length room) ≡ false = lt-leb _ _ (rw same_sheet at (rw worked at l)) in
        let own : List Check = check 28 0 (leb (plan_length (sheet_of s)) (length room)) ∷ [] in
        (sym (further_read not_written (wrote s) s p own read ∙ rw short), sym (further_read (λ _. room) (with_plan s p room) s p own read ∙ rw short))

    pub again_writable : (room : List ℕ) → total ≤ length room → Writable sheet.zones orders room
    again_writable room l = orders_writable sheet orders room again_sheet again_orders (omega (arith, worked))

    pub again_done : (room : List ℕ) → total ≤ length room → (after : List ℕ) → after ≡ sets room 0 (written sheet.zones orders)
        → (record { outcome = done; length = total } ≡ write_again s p (length room)) × (after ≡ room_after s p room)
    unfolding write_again room_after first_failing
    again_done room l after stored =
        let fits : leb (plan_length (sheet_of s)) (length room) ≡ true = le-leb _ _ (rw same_sheet at (rw worked at l)) in
        let own : List Check = check 28 0 (leb (plan_length (sheet_of s)) (length room)) ∷ [] in (
          rw (worked, same_sheet) (sym (further_read not_written (wrote s) s p own read ∙ rw fits)),
          stored
              ∙ written_stored sheet.zones orders room total (sym again_length) l
              ∙ ap (λ (k : ℕ). written sheet.zones orders ++ drop k room) worked
              ∙ ap (λ (r : PlanRead). written r.sheet.zones r.orders ++ drop (plan_length r.sheet) room) whole
              ∙ sym (further_read (λ _. room) (with_plan s p room) s p own read ∙ rw fits),
        )
