-- Reading and writing undo each other, of the operations themselves: what is lent to them are bytes.
use Prim.Native.Nat.{ℕ}
use mathlib.Core.Path.{◌≡◌, sym, ◌∙◌}
use mathlib.Core.List.{List}
use Rattle.fields.specs.Bytes.{Bytes}
use Rattle.sheet.specs.Reading.{read_sheet}
use Rattle.sheet.specs.declared.SheetRead.{SheetRead}
use Rattle.sheet.proofs.RoundTrip.{accepted_iff}
use Rattle.plan.specs.Reading.{read_plan}
use Rattle.plan.specs.declared.PlanRead.{PlanRead}
use Rattle.plan.proofs.RoundTrip.{readable_iff}
use Rattle.demands.specs.HowTight.{JustItsBytes, JustTheirBytes}

pub just_its_bytes : (s : List ℕ) (r : SheetRead) → Bytes s → r ≡ read_sheet s → JustItsBytes s r
just_its_bytes s r b e = rw e (accepted_iff s b)

pub just_their_bytes : (s p : List ℕ) (r : PlanRead) → Bytes s → Bytes p → r ≡ read_plan s p → JustTheirBytes s p r
just_their_bytes s p r b c e sheet orders =
    let whole = readable_iff s p c sheet orders in
    let own = accepted_iff s b sheet in (
      λ is. let (accepted, valid, bytes) = whole.0 (sym e ∙ is) in (own.0 accepted, (valid, bytes)),
      λ (of-sheet, (valid, bytes)). e ∙ whole.1 (own.1 of-sheet, valid, bytes),
    )
