-- Request #101: "a third mode that works out both and writes the one which finishes earlier, the removal plan if equal".
use Rattle.std.specs.Prelude.{ℕ, ◌≤◌, ◌<◌, ◌≡◌, List, length}
use Rattle.planner.specs.Planning.{plan_sheet, room_after}
use Rattle.planner.specs.declared.Planned.{Planned}
use Rattle.planner.specs.declared.Rule.{Rule}
use Rattle.planner.specs.declared.Rule.TheVariants.{Removal, First}

-- of what the third mode answers and leaves in the room, beside what the two others answer and would leave there; refusals too
pub record BetterOfTwo (s room : List ℕ) (r : Planned) (after : List ℕ) : Type 0 where
  -- "the third mode never finishes later than either"
  pub never_later : (rule : Rule) → r.finish ≤ (plan_sheet rule s (length room)).finish
  -- it is first come's plan where that finishes earlier
  pub first_if_earlier : (plan_sheet First s (length room)).finish < (plan_sheet Removal s (length room)).finish
      → (r ≡ plan_sheet First s (length room)) × (after ≡ room_after First s room)
  -- and else removal's: "the removal plan if equal"
  pub else_removal : (plan_sheet Removal s (length room)).finish ≤ (plan_sheet First s (length room)).finish
      → (r ≡ plan_sheet Removal s (length room)) × (after ≡ room_after Removal s room)
