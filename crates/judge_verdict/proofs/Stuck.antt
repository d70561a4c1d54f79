-- All carts are out exactly where none is stuck, and the lowest cart that the tables tell not to be out is the lowest that is stuck.
use Prim.Native.Nat.{ℕ, ◌<◌}
use mathlib.Core.Path.{◌≡◌, refl, ap, ◌∙◌}
use mathlib.Core.Bool.{true, false}
use mathlib.Core.List.{List}
use native.Mathlib.Omega.{arith}
use lib.ListN.{get_or}
use lib.Seq.{ext_get_or}
use borrow.Author.Tests.{lt-ltb, le-ltb}
use Rattle.std.specs.Prelude.{Option, Some, None}
use Rattle.moves.specs.System.{System, carts, pos, start}
use Rattle.moves.specs.inner.System.{InRange}
use Rattle.moves.proofs.Runs.{start_in_range, reaches_in_range}
use Rattle.moves.proofs.Ends.{end_reached}
use Rattle.routes.specs.Crossing.{Crossing}
use Rattle.routes.specs.Moves.{system, moves_of}
use Rattle.routes.proofs.Moves.{out_are}
use Rattle.times.specs.Times.{Given}
use Rattle.crossing.specs.inner.Tables.{crossing_by}
use Rattle.crossing.proofs.Tables.{carts_16, steps_is}
use Rattle.judge_one_move.specs.declared.Run.{Run}
use Rattle.judge_running.specs.inner.Settled.{SettlesAs}
use Rattle.judge_ring.specs.Ring.{is_not_out, lowest_stuck}
use Rattle.judge_ring.specs.inner.Tables.{StuckIn}
use Rattle.judge_ring.proofs.Lowest.{lowest_found}
use Rattle.judge_verdict.specs.inner.Verdict.{Runs}

module _ (steps zone front ahead : List ℕ) (G : Given) (run : Run)
    (settled : SettlesAs (crossing_by steps zone front ahead) G run.at run.left run.enter run.order run.made) where
  abbrev X : Crossing
  X = crossing_by steps zone front ahead

  abbrev S : System
  S = system X

  sixteen : carts S ≡ 16
  sixteen = carts_16 steps zone front ahead

  in_range : InRange S run.at
  in_range = rw settled.is_end (reaches_in_range S (start S) _ (start_in_range S) (end_reached S (start S)))

  out_at : (c : ℕ) → c < 16 → pos S.out c ≡ moves_of (get_or steps c 0)
  out_at c l = out_are X c ∙ ap moves_of (steps_is steps zone front ahead c l)

  none_stuck : StuckIn steps run.at None → run.at ≡ S.out
  none_stuck out =
      ext_get_or 0 run.at S.out in_range.sized λ c l.
      let few : c < 16 = omega (arith, in_range.sized, sixteen) in
      omega (arith, in_range.within c, out c few, out_at c few)

  module _ (c : ℕ) (stuck : StuckIn steps run.at (Some c)) where
    one_stuck : ¬ (run.at ≡ S.out)
    one_stuck out = omega (arith, stuck.1, out_at c stuck.0, ap (λ (s : List ℕ). pos s c) out)

    is_out_at : (d : ℕ) → d < c → is_not_out S run.at d ≡ false
    is_out_at d l = le-ltb (pos run.at d) (pos S.out d) (omega (arith, stuck.2 d l, out_at d (omega (arith, stuck.0))))

    not_out : is_not_out S run.at c ≡ true
    not_out = lt-ltb (pos run.at c) (pos S.out c) (omega (arith, stuck.1, out_at c stuck.0))

    lowest : c ≡ lowest_stuck S run.at
    unfolding lowest_stuck
    lowest = lowest_found (is_not_out S run.at) (carts S) c (omega (arith, sixteen, stuck.0)) is_out_at (λ _. not_out)

  pub runs : (stuck : Option ℕ) → StuckIn steps run.at stuck → Runs X G run stuck
  runs None out = record { settled = settled; out = (λ _. none_stuck out, λ _. refl); lowest = λ c e. cc }
  runs (Some c) stuck = record {
    settled = settled;
    out = (λ e. cc, λ out. absurd (one_stuck c stuck out));
    lowest = λ d e. let same : c ≡ d = cc in rw (← same) (stuck.0, lowest c stuck);
  }
