-- Rounds of the carts until none fires: each keeps that the tables hold the marking of a firing sequence, and the last finds that no transition can fire.
use Prim.Native.Nat.{ℕ, suc, ◌+◌, ◌*◌, ◌-◌, ◌≤◌, ◌<◌, zero-le}
use mathlib.Core.Path.{◌≡◌, refl, sym, ap, ◌∙◌}
use mathlib.Core.Logic.{◌↔◌}
use mathlib.Core.Bool.{Bool, true, false, true≢false}
use mathlib.Core.List.{List, []}
use native.Mathlib.Omega.{arith}
use lib.ListN.{get_or, replicate, length-replicate}
use lib.Dec.{eqb}
use borrow.Author.Count.{below_more}
use borrow.Author.Tests.{eqb-true, eq-eqb}
use Rattle.sets.specs.Counting.{bit}
use Rattle.words.proofs.Tests.{eqb_turned}
use Rattle.sets.proofs.Laws.{has_none}
use Rattle.moves.specs.System.{System, carts, pos, sum}
use Rattle.moves.proofs.Positions.{moved_sum, zeros_pos, ≼-sum}
use Rattle.moves.specs.Moves.{moved}
use Rattle.routes.specs.Crossing.{Crossing, steps}
use Rattle.routes.specs.Moves.{moves_of, system}
use Rattle.routes.proofs.Moves.{moves_none, moves_some, moves_within, out_are, step_cart}
use Rattle.petri.specs.Net.{Place, at, between, line, one, begins, IsPlace, Enabled, fired_all, Dead, AllPass}
use Rattle.petri.proofs.Tokens.{own_move, is_one}
use Rattle.petri.proofs.Net.{enabled_as}
use Rattle.net_firing.specs.Firing.{FiredOut}
use Rattle.net_firing.specs.declared.Tokens.{Tokens}
use Rattle.net_firing.specs.inner.Marking.{tokens, AllPast, CanFire, Marked, Asked}

module _ (X : Crossing) where
  abbrev S : System
  S = system X

  -- ---- a round of the carts

  module _ (old t : Tokens) (fired : Bool) (n : ℕ) (on : Asked X old t fired n) where
    pub asked_held : ¬ (CanFire X t n) → Asked X old t fired (n + 1)
    asked_held cannot = record {
      marked = on.marked;
      no_less = on.no_less;
      further = on.further;
      none_can = λ none. below_more _ _ (on.none_can none) cannot;
    }

    pub asked_fired : (next : Tokens) → n < 16 → Marked X next → next.position ≡ moved t.position n → Asked X old next true (n + 1)
    asked_fired next l marked is = record {
      marked = marked;
      no_less = omega (arith, on.no_less, one_more);
      further = λ _. omega (arith, on.no_less, one_more);
      none_can = λ e. absurd (true≢false e);
    }
      where
        one_more : sum next.position ≡ suc (sum t.position)
        one_more = ap sum is ∙ moved_sum t.position n (rw on.marked.position_16 l)

  -- ---- until none fires

  -- every cart is on its lane
  pub marked_none : Marked X (record { pairs = replicate 128 0; lines = 0; position = replicate 16 0 })
  marked_none = record {
    sequence = [];
    fires = tt;
    holds = holds;
    pairs_128 = length-replicate {A = ℕ} 128 0;
    position_16 = length-replicate {A = ℕ} 16 0;
    within = λ c. rw (zeros_pos 16 c) zero-le;
  }
    where
      holds : (q : Place) → IsPlace X q → begins q ≡ tokens (record { pairs = replicate 128 0; lines = 0; position = replicate 16 0 }) q
      holds (at c p) _ = rw (zeros_pos 16 c) (ap one (eqb_turned p 0))
      holds (between d c p) _ = rw (zeros_pos 128 (8 * c + p)) (ap one (sym (has_none d)))
      holds (line d c) _ = ap one (sym (has_none c))

  -- the transitions left to fire
  abbrev pub moves_left : List ℕ → ℕ
  moves_left position = sum S.out - sum position

  module _ (sixteen : carts S ≡ 16) where
    pub moves_less : (old t : Tokens) → Asked X old t true 16 → moves_left t.position < moves_left old.position
    moves_less old t asked = omega (arith, most, asked.further refl)
      where
        most : sum t.position ≤ sum S.out
        most =
            ≼-sum t.position S.out (asked.marked.position_16 ∙ sym sixteen) (λ c. omega (arith, asked.marked.within c, out_are X c))

    -- where no cart's transition can fire from where it stands, none can
    dead : (t : Tokens) (on : Marked X t) → ((c : ℕ) → c < 16 → ¬ (CanFire X t c)) → Dead X (fired_all X begins on.sequence)
    dead t on none x r e = none x cart (rw (← here) at can)
      where
        can : Enabled X (tokens t) x r
        can = enabled_as X (fired_all X begins on.sequence) (tokens t) x r on.holds e

        some : (0 < steps X x) × (r ≤ steps X x)
        some = moves_within (steps X x) r e.transition

        cart : x < 16
        cart = omega (arith, step_cart X x 0 some.0, sixteen)

        here : pos t.position x ≡ r
        here = eqb-true (pos t.position x) r (is_one _ (rw (own_move x r) at (can.tokens (at x r) (some.0, omega (arith, e.transition)))))

    pub fired_out : (table : List ℕ) (old t : Tokens) (locked : Bool) → ((c : ℕ) → c < 16 → steps X c ≡ get_or table c 0)
        → Asked X old t false 16 → (locked ≡ false) ↔ AllPast table t.position 16 → FiredOut X (bit locked) t.position
    fired_out table old t locked counted on says = record {
      sequence = on.marked.sequence;
      fires = on.marked.fires;
      dead = dead t on.marked (on.none_can refl);
      free = (λ e. passes (says.0 (is_false locked e)), λ all. rw (says.1 (past all)) refl);
      locked_most = bit_most locked;
      told = λ c p is. on.marked.holds (at c p) is;
      position_16 = on.marked.position_16;
      absent = λ c none. omega (arith, on.marked.within c, moves_none (steps X c) none);
    }
      where
        is_false : (b : Bool) → bit b ≡ 0 → b ≡ false
        is_false true e = absurd (omega arith)
        is_false false e = refl

        bit_most : (b : Bool) → bit b ≤ 1
        bit_most true = omega arith
        bit_most false = omega arith

        out : (c : ℕ) → 0 < steps X c → moves_of (steps X c) ≡ steps X c + 1
        out c some = moves_some (steps X c) (λ none. omega arith)

        holds : (c : ℕ) → 0 < steps X c
            → fired_all X begins on.marked.sequence (at c (suc (steps X c))) ≡ one (eqb (pos t.position c) (suc (steps X c)))
        holds c some = on.marked.holds (at c (suc (steps X c))) (some, omega (arith, out c some))

        passes : AllPast table t.position 16 → AllPass X (fired_all X begins on.marked.sequence)
        passes all c some =
            let cart : c < 16 = omega (arith, step_cart X c 0 some, sixteen) in
            let past_last = all c cart (omega (arith, counted c cart)) in
            let stands : pos t.position c ≡ suc (steps X c) = omega (arith, on.marked.within c, out c some, counted c cart, past_last) in
            holds c some ∙ ap one (eq-eqb (pos t.position c) (suc (steps X c)) stands)

        past : AllPass X (fired_all X begins on.marked.sequence) → AllPast table t.position 16
        past all c cart has_steps =
            let some : 0 < steps X c = omega (arith, counted c cart) in
            let token = is_one (eqb (pos t.position c) (suc (steps X c))) (omega (arith, holds c some, all c some)) in
            omega (arith, counted c cart, eqb-true (pos t.position c) (suc (steps X c)) token)
