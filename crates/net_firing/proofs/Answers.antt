-- What the promise of firing says of the moves: the net's verdict is theirs, its positions are where they end, and so no second answer fits.
use Prim.Native.Nat.{ℕ, ◌<◌}
use mathlib.Core.Path.{◌≡◌, sym, ap, ◌∙◌}
use mathlib.Core.Logic.Iff
use mathlib.Core.Logic.{◌↔◌}
use mathlib.Core.List.{List}
use native.Mathlib.Decide.{dec_lt}
use native.Mathlib.Omega.{arith}
use lib.Dec.{eqb}
use lib.Seq.{ext_get_or}
use borrow.Author.Tests.{eqb-true, eq-eqb}
use Rattle.moves.specs.System.{System, carts, pos, start}
use Rattle.moves.specs.inner.System.{InRange}
use Rattle.moves.specs.Runs.{end}
use Rattle.moves.specs.inner.Runs.{AllComeOut}
use Rattle.moves.proofs.Runs.{start_in_range, reaches_in_range}
use Rattle.moves.proofs.Ends.{end_reached}
use Rattle.routes.specs.Crossing.{Crossing, steps}
use Rattle.routes.specs.Moves.{system}
use Rattle.routes.specs.inner.Orders.{OnlyVisitors}
use Rattle.routes.proofs.Moves.{out_are, moves_none}
use Rattle.petri.specs.Net.{at, one, IsPlace}
use Rattle.petri.proofs.Tokens.{is_one}
use Rattle.petri.proofs.Net.{marking_tells, net_verdict}
use Rattle.net_firing.specs.Firing.{FiredOut}

module _ (X : Crossing) (only : OnlyVisitors X) where
  abbrev S : System
  S = system X

  module _ (locked : ℕ) (position : List ℕ) (fired : FiredOut X locked position) where
    -- "Its verdict equals the judge's"
    pub fired_free : (locked ≡ 0) ↔ AllComeOut S (start S)
    fired_free = Iff.trans fired.free (Iff.symm (net_verdict X only fired.sequence fired.fires fired.dead))

    pub fired_locked : (locked ≡ 1) ↔ ¬ (AllComeOut S (start S))
    fired_locked = (
      λ e all. omega (arith, e, fired_free.1 all),
      λ none. elim (dec_lt 0 locked) [ yes some ↦ omega (arith, some, fired.locked_most) | no is ↦ absurd (none (fired_free.0 (omega arith))) ],
    )

    -- "the marking left tells the same position for each cart"
    pub fired_end : carts S ≡ 16 → position ≡ end S (start S)
    fired_end sixteen = ext_get_or 0 position left (fired.position_16 ∙ sym sixteen ∙ sym range.sized) (λ c _. go c (dec_lt 0 (steps X c)))
      where
        left : List ℕ
        left = end S (start S)

        range : InRange S left
        range = reaches_in_range S (start S) left (start_in_range S) (end_reached S (start S))

        go : (c : ℕ) → Dec (0 < steps X c) → pos position c ≡ pos left c
        go c (yes some) =
            let place : IsPlace X (at c (pos left c)) = (some, omega (arith, range.within c, out_are X c)) in
            let there = marking_tells X only fired.sequence fired.fires fired.dead c (pos left c) place in
            let token : one (eqb (pos left c) (pos left c)) ≡ 1 = ap one (eq-eqb (pos left c) (pos left c) (omega arith)) in
            eqb-true (pos position c) (pos left c) (is_one _ (omega (arith, fired.told c (pos left c) place, there, token)))
        go c (no none) =
            omega (arith, fired.absent c (omega arith), range.within c, out_are X c, moves_none (steps X c) (omega arith))

  -- no second answer fits
  pub fired_once : carts S ≡ 16 → (locked other : ℕ) (position positions : List ℕ) → FiredOut X locked position → FiredOut X other positions
      → (locked ≡ other) × (position ≡ positions)
  fired_once sixteen locked other position positions f g =
      (same (dec_lt 0 locked), fired_end locked position f sixteen ∙ sym (fired_end other positions g sixteen))
    where
      says : (locked ≡ 0) ↔ (other ≡ 0)
      says = Iff.trans (fired_free locked position f) (Iff.symm (fired_free other positions g))

      same : Dec (0 < locked) → locked ≡ other
      same (yes some) =
          elim (dec_lt 0 other) [
            | yes more ↦ omega (arith, some, more, f.locked_most, g.locked_most)
            | no none ↦ absurd (omega (arith, some, says.1 (omega arith)))
          ]
      same (no none) = omega (arith, none, says.0 (omega arith))
