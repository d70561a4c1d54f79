-- How far carts under way can be, and one move more.
use Prim.Native.Nat.{ℕ, ◌+◌, ◌≤◌, ◌<◌}
use mathlib.Core.Path.{◌≡◌, ap, ◌∙◌}
use mathlib.Core.List.{List, [], ◌∷◌, ◌++◌}
use native.Mathlib.Numerals.{add-one}
use native.Mathlib.Omega.{arith}
use lib.ListN.{length, set, take, length-set}
use lib.Seq.{take-suc-set}
use Rattle.moves.specs.System.{System, pos, start, sum}
use Rattle.moves.specs.inner.System.{InRange}
use Rattle.moves.specs.Moves.{moved, Permitted}
use Rattle.moves.specs.Runs.{after}
use Rattle.moves.proofs.Positions.{sum_most}
use Rattle.moves.proofs.Runs.{after_append, moved_in_range, run_append, permitted_sum}
use Rattle.routes.specs.Crossing.{Crossing, steps}
use Rattle.routes.specs.Moves.{system}
use Rattle.routes.proofs.Moves.{moves_most, carts_are, out_are}
use Rattle.times.specs.Times.{Given}
use Rattle.crossing.specs.inner.Sound.{Sound}
use Rattle.judge_one_move.specs.declared.Run.{Run}
use Rattle.judge_one_move.specs.inner.Running.{Running}
use Rattle.judge_running.specs.inner.Rounds.{Underway}
use Rattle.judge_one_move.proofs.Moving.{in_range}

-- after one move of cart c more, which has made these of the tables
abbrev pub next_run : Run → ℕ → List ℕ → List ℕ → List ℕ → Run
next_run run c left leave enter = record {
  at = moved run.at c;
  left = left;
  leave = leave;
  enter = enter;
  order = set run.order run.made c;
  made = run.made + 1;
}

module _ (X : Crossing) (G : Given) where
  abbrev S : System
  S = system X

  -- ---- how far carts can be

  module _ (sound : Sound X G) (at : List ℕ) (here : InRange S at) where
    pub place_most : (c : ℕ) → pos at c ≤ 9
    place_most c = omega (arith, here.within c, out_are X c, moves_most (steps X c), sound.ranged.steps_most c)

    places_few : length at ≤ 16
    places_few = omega (arith, here.sized, carts_are X, sound.ranged.carts_most)

    sum_few : sum at ≤ 144
    sum_few = omega (arith, sum_most at 9 place_most, places_few)

  -- ---- one move more

  module _ (run : Run) (on : Underway X G run) where
    pub here : InRange S run.at
    here = in_range X G run.at run.left run.leave run.enter on.running

    pub underway_few : run.made ≤ 144
    underway_few = omega (arith, on.counted, sum_few on.running.sound run.at here)

    module _ (c : ℕ) (m : Permitted S run.at c) where
      -- a move that is left has its place in the table
      pub underway_room : run.made < 144
      underway_room =
          omega (arith, on.counted, permitted_sum S run.at c here m, sum_few on.running.sound (moved run.at c) (moved_in_range S run.at c here m))

      stored_run : take (run.made + 1) (set run.order run.made c) ≡ take run.made run.order ++ (c ∷ [])
      stored_run = rw (add-one run.made) (take-suc-set run.order run.made c (omega (arith, on.order_144, underway_room)))

      pub underway_turn : (left leave enter : List ℕ) → Running X G (moved run.at c) left leave enter → Underway X G (next_run run c left leave enter)
      underway_turn left leave enter more = record {
        running = more;
        counted = omega (arith, on.counted, permitted_sum S run.at c here m);
        order_144 = length-set run.order run.made c ∙ on.order_144;
        is_run = rw stored_run (run_append S (start S) (take run.made run.order) (c ∷ []) on.is_run (rw on.run_ends (m, tt)));
        run_ends =
            ap (after (start S)) stored_run
            ∙ after_append (start S) (take run.made run.order) (c ∷ [])
            ∙ ap (λ (s : List ℕ). moved s c) on.run_ends;
      }
