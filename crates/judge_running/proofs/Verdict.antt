-- What the carts' settling tells: whether all come out, in how many moves, their entering times; and no second answer fits.
use Prim.Native.Nat.{ℕ, ◌+◌, ◌/◌, ◌%◌, ◌<◌}
use mathlib.Core.Path.{◌≡◌, sym, ap, ◌∙◌}
use mathlib.Core.Logic.{◌↔◌}
use mathlib.Core.List.{List}
use native.Mathlib.Decide.{dec_lt}
use native.Mathlib.Nat.{mod-lt, div-add-mod}
use native.Mathlib.Omega.{arith}
use lib.ListN.{get_or}
use lib.Seq.{ext_get_or}
use Rattle.moves.specs.System.{System, pos, start, sum}
use Rattle.moves.specs.inner.Runs.{AllComeOut}
use Rattle.moves.specs.inner.Records.{Reached}
use Rattle.moves.proofs.Runs.{start_in_range}
use Rattle.moves.proofs.Ends.{end_reached}
use Rattle.moves.proofs.Out.{end_out}
use Rattle.routes.specs.Crossing.{Crossing, steps}
use Rattle.routes.specs.inner.Crossing.{all_steps, present_carts}
use Rattle.routes.specs.Moves.{system}
use Rattle.routes.specs.inner.Orders.{OnlyVisitors}
use Rattle.routes.proofs.Moves.{out_steps}
use Rattle.routes.proofs.Counts.{out_sum}
use Rattle.times.specs.Times.{Given}
use Rattle.times.specs.inner.Times.{EnteringTimes, EnteredTimes}
use Rattle.times.proofs.Times.{entered_least}
use Rattle.judge_entering.specs.Times.{times_of}
use Rattle.judge_running.specs.inner.Settled.{SettlesAs}

module _ (X : Crossing) (G : Given) (at left enter order : List ℕ) (made : ℕ) (settled : SettlesAs X G at left enter order made) where
  abbrev S : System
  S = system X

  -- all come out exactly where the carts settle out
  pub settled_out : AllComeOut S (start S) ↔ (at ≡ S.out)
  settled_out = rw settled.is_end (end_out S (start S) (start_in_range S))

  pub settled_reached : Reached S at
  settled_reached = rw settled.is_end (end_reached S (start S))

  -- and then as many moves are made as there are steps and carts
  pub settled_made : at ≡ S.out → made ≡ all_steps X + present_carts X
  settled_made out = settled.counted ∙ ap sum out ∙ out_sum X

  -- and every entering time is in the table
  pub settled_times : at ≡ S.out → EnteringTimes X G (times_of enter)
  settled_times out c s h = settled.enter_is c s (omega (arith, ap (λ (t : List ℕ). pos t c) out, out_steps X c s h)) h

  -- no second answer fits
  module _ (only : OnlyVisitors X) (at' left' enter' order' : List ℕ) (made' : ℕ) (other : SettlesAs X G at' left' enter' order' made') where
    pub settled_at : at ≡ at'
    settled_at = settled.is_end ∙ sym other.is_end

    pub settled_moves : made ≡ made'
    settled_moves = settled.counted ∙ ap sum settled_at ∙ sym other.counted

    other_is : EnteredTimes X G at (times_of enter')
    other_is = rw settled_at other.enter_is

    same_time : (c p : ℕ) → p < 8 → times_of enter c p ≡ times_of enter' c p
    same_time c p few = go (dec_lt p (pos at c)) (dec_lt p (steps X c))
      where
        here : pos at c ≡ pos at' c
        here = ap (λ (t : List ℕ). pos t c) settled_at

        go : Dec (p < pos at c) → Dec (p < steps X c) → times_of enter c p ≡ times_of enter' c p
        go (yes before) (yes inside) =
            let earlier = entered_least X G only at settled_reached (times_of enter) (times_of enter') settled.enter_is
            (λ d q b i. omega (arith, other_is d q b i)) c p before inside in
            let later = entered_least X G only at settled_reached (times_of enter') (times_of enter) other_is
            (λ d q b i. omega (arith, settled.enter_is d q b i)) c p before inside in
            omega arith
        go (no n) q = settled.not_entered c p few (λ e. n e.0) ∙ sym (other.not_entered c p few (λ e. n (omega (arith, here, e.0))))
        go (yes b) (no n) = settled.not_entered c p few (λ e. n e.1) ∙ sym (other.not_entered c p few (λ e. n e.1))

    pub settled_enter : enter ≡ enter'
    settled_enter =
        ext_get_or 0 enter enter' (settled.enter_128 ∙ sym other.enter_128) λ x _.
        let place = div-add-mod x 8 in
        ap (λ (y : ℕ). get_or enter y 0) (sym place) ∙ same_time (x / 8) (x % 8) (mod-lt x (omega arith)) ∙ ap (λ (y : ℕ). get_or enter' y 0) place
