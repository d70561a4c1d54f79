-- The plan's moves, as the requests follow them.
use Rattle.std.specs.Prelude.{ℕ, List}
use Rattle.moves.specs.System.{System}
use Rattle.sheet.specs.Reading.{sheet_of}
use Rattle.judge.specs.Judging.{plan_system, orders_read}

module _ (s p : List ℕ) where
  -- the moves of the plan
  abbrev pub moves_of_plan : System
  moves_of_plan = plan_system (sheet_of s) (orders_read s p)
