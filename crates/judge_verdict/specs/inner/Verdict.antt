-- The judge's verdict of the orders present: "Make permitted moves until none is left", and whether every cart is out then.
use Rattle.std.specs.Prelude.{ℕ, ◌<◌, ◌≡◌, ◌↔◌, Option, Some, None}
use Rattle.routes.specs.Crossing.{Crossing}
use Rattle.routes.specs.Moves.{system}
use Rattle.times.specs.Times.{Given}
use Rattle.judge_one_move.specs.declared.Run.{Run}
use Rattle.judge_running.specs.inner.Settled.{SettlesAs}
use Rattle.judge_ring.specs.Ring.{lowest_stuck}

-- the run has settled: it is known whether all carts come out, and else which is the lowest that does not
pub record Runs (X : Crossing) (G : Given) (run : Run) (stuck : Option ℕ) : Type 0 where
  pub settled : SettlesAs X G run.at run.left run.enter run.order run.made
  pub out : (stuck ≡ None) ↔ (run.at ≡ (system X).out)
  pub lowest : (c : ℕ) → stuck ≡ Some c → (c < 16) × (c ≡ lowest_stuck (system X) run.at)
