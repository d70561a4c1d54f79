-- The test of all carts out says that some run brings them out, and the moves made are such a run.
use Prim.Native.Nat.{ℕ, ◌<◌}
use mathlib.Core.Path.{◌≡◌, ap}
use mathlib.Core.Logic.{◌↔◌}
use mathlib.Core.Bool.{true}
use mathlib.Core.List.{List}
use lib.Seq.{ext_get_or}
use Rattle.words.proofs.Tests.{eqb_says}
use Rattle.moves.specs.System.{System, carts, pos, start, sum}
use Rattle.moves.specs.inner.System.{InRange}
use Rattle.moves.specs.Runs.{after, Run, end}
use Rattle.moves.specs.inner.Runs.{AllComeOut}
use Rattle.moves.proofs.Runs.{start_in_range, reaches_in_range}
use Rattle.moves.proofs.Ends.{greedy_run, end_reached}
use Rattle.moves.proofs.Out.{end_out}
use Rattle.routes.specs.Crossing.{Crossing}
use Rattle.routes.specs.Moves.{system}
use Rattle.routes.specs.inner.Orders.{OnlyVisitors}
use Rattle.routes.proofs.Places.{all_below_says}
use Rattle.times.specs.Times.{Given}
use Rattle.times.specs.inner.Times.{EnteringTimes}
use Rattle.times.proofs.Times.{times_worked_out}
use Rattle.times.specs.Running.{moves_made, is_out, entering_time}

module _ (X : Crossing) where
  abbrev S : System
  S = system X

  abbrev at : List ℕ
  at = end S (start S)

  end_in_range : InRange S at
  end_in_range = reaches_in_range S (start S) at (start_in_range S) (end_reached S (start S))

  pub end_says : (is_out X ≡ true) ↔ (at ≡ S.out)
  unfolding is_out
  end_says = (
    λ e. ext_get_or 0 at S.out end_in_range.sized (λ c l. says.0 e c (rw end_in_range.sized at l)),
    λ e. says.1 (λ c _. ap (λ (t : List ℕ). pos t c) e),
  )
    where
      says : (is_out X ≡ true) ↔ ((c : ℕ) → c < carts S → pos at c ≡ pos S.out c)
      says = all_below_says _ (carts S) (λ c. pos at c ≡ pos S.out c) (λ c. eqb_says (pos at c) (pos S.out c))

  pub out_says : (is_out X ≡ true) ↔ AllComeOut S (start S)
  out_says = (
    λ e. (end_out S (start S) (start_in_range S)).1 (end_says.0 e),
    λ all. end_says.1 ((end_out S (start S) (start_in_range S)).0 all),
  )

  pub made_run : Run S (start S) (moves_made X)
  unfolding moves_made
  made_run = greedy_run S (sum S.out) (start S)

  pub made_ends : is_out X ≡ true → after (start S) (moves_made X) ≡ S.out
  unfolding moves_made end
  made_ends e = end_says.0 e

  -- the run that the times are worked out along
  abbrev pub all_made : is_out X ≡ true → AllComeOut S (start S)
  all_made e = record { run = moves_made X; is_run = made_run; ends = made_ends e }

  -- and what they give are the entering times
  pub entering_made : (G : Given) → OnlyVisitors X → is_out X ≡ true → EnteringTimes X G (entering_time X G (moves_made X))
  unfolding entering_time
  entering_made G only e = times_worked_out X G only (all_made e) (λ _ _. 0)
