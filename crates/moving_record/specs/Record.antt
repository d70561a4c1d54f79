-- "no run of this plan reaches the lent record": which records runs reach, and the test.
use Rattle.std.specs.Prelude.{◌≡◌, Bool, ◌&&◌, length, eqb}
use Rattle.moves.specs.System.{System, start, sum}
use Rattle.moves.specs.Runs.{Reaches}
use Rattle.moves.specs.Records.{is_in_range, is_closed}
use Rattle.moving_record.specs.declared.Record.{Record}

module _ (S : System) where
  -- some run ends where the carts stand, in as many moves as are counted
  pub record RunReaches (lent : Record) : Type 0 where
    pub reached : Reaches S (start S) lent.position
    pub counted : lent.made ≡ length reached.run

  -- the test: the positions are in range, every move that they count had what it needs, and the count is the sum of the positions
  unfoldable pub is_reached : Record → Bool
  is_reached lent = is_in_range S lent.position && (is_closed S lent.position && eqb lent.made (sum lent.position))
