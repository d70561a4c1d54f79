-- Firing sequences of the net are runs of the carts, and it is dead just where no move is left: its verdict is that of the moves.
-- The idea: a wait place lies between two moves; it has a token where the first is made and the second is not.
use Prim.Native.Nat.{ℕ, suc, ◌+◌, ◌-◌, ◌≤◌, ◌<◌, zero-le}
use mathlib.Core.Path.{◌≡◌, refl, sym, ap, subst, ◌∙◌}
use mathlib.Core.Logic.{◌↔◌}
use mathlib.Core.Bool.{Bool, true, not, ◌&&◌}
use mathlib.Core.List.{List, [], ◌∷◌, ◌++◌}
use native.Mathlib.Decide.{dec_lt}
use native.Mathlib.Omega.{arith}
use lib.ListN.{length}
use lib.Seq.{ext_get_or}
use lib.Dec.{ltb, eqb}
use borrow.Author.Tests.{ltb-true, le-ltb, eqb-true, eq-eqb, ne_eqb}
use Rattle.words.proofs.Tests.{and_both, eqb_turned}
use Rattle.moves.specs.System.{System, carts, pos, start}
use Rattle.moves.specs.inner.System.{InRange}
use Rattle.moves.specs.Moves.{moved, Permitted}
use Rattle.moves.specs.Runs.{after, Run, end}
use Rattle.moves.specs.inner.Runs.{AllComeOut, Stuck}
use Rattle.moves.specs.inner.Records.{Closed}
use Rattle.moves.proofs.Positions.{zeros_pos}
use Rattle.moves.proofs.Moves.{permitted_cart}
use Rattle.moves.proofs.Runs.{start_in_range, moved_in_range, reaches_in_range}
use Rattle.moves.proofs.Records.{start_closed, moved_closed}
use Rattle.moves.proofs.Ends.{end_unique, end_reached}
use Rattle.moves.proofs.Out.{end_out}
use Rattle.routes.specs.Crossing.{Crossing, steps, zone, step_in, left_at}
use Rattle.routes.specs.Moves.{system}
use Rattle.routes.specs.inner.Orders.{OnlyVisitors}
use Rattle.routes.proofs.Moves.{Behind, InLine, out_are, out_steps, moves_none, moves_within, before_cart, front_cart, need_is, need_line, need_met}
use Rattle.petri.specs.Net.{
  Place,
  at,
  between,
  line,
  Marking,
  one,
  is_move_of,
  begins,
  IsPlace,
  input,
  output,
  Enabled,
  fired,
  Fires,
  fired_all,
  Dead,
  Tells,
  AllPass,
}
use Rattle.petri.proofs.Tokens.{move_says, own_move, is_one, one_le, waits, waiting, waiting_moved, standing_moved}

module _ (X : Crossing) where
  abbrev S : System
  S = system X

  -- what a state looks like in the net
  abbrev pub marked : List ℕ → Marking
  marked s (at c p) = one (eqb (pos s c) p)
  marked s (between d c p) = waiting s d (suc (step_in X d (zone X c p))) c p
  marked s (line d c) = waiting s d 0 c 0

  unfoldable pub Shows : Marking → List ℕ → Type 0
  Shows M s = (q : Place) → IsPlace X q → M q ≡ marked s q

  none_yet : (d q c p : ℕ) → 0 ≡ waiting (start S) d q c p
  none_yet d q c p =
      sym (ap (λ (b : Bool). one (b && not (ltb p (pos (start S) c)))) (le-ltb q (pos (start S) d) (rw (zeros_pos (carts S) d) zero-le)))

  pub begins_shows : Shows begins (start S)
  unfolding Shows
  begins_shows (at c p) _ = rw (zeros_pos (carts S) c) (ap one (eqb_turned p 0))
  begins_shows (between d c p) _ = none_yet d (suc (step_in X d (zone X c p))) c p
  begins_shows (line d c) _ = none_yet d 0 c 0

  -- one transition more
  pub fires_then : (M : Marking) (sequence : List (ℕ × ℕ)) (x r : ℕ) → Fires X M sequence → Enabled X (fired_all X M sequence) x r
      → Fires X M (sequence ++ ((x, r) ∷ []))
  fires_then M [] x r fires e = (e, tt)
  fires_then M ((y, p) ∷ later) x r (first, fires) e = (first, fires_then (fired X M y p) later x r fires e)

  pub fired_then : (M : Marking) (sequence : List (ℕ × ℕ)) (x r : ℕ) (q : Place)
      → fired_all X M (sequence ++ ((x, r) ∷ [])) q ≡ fired X (fired_all X M sequence) x r q
  fired_then M [] x r q = refl
  fired_then M ((y, p) ∷ later) x r q = fired_then (fired X M y p) later x r q

  -- markings that agree on the places let the same transitions fire
  pub enabled_as : (M N : Marking) (x r : ℕ) → ((q : Place) → IsPlace X q → M q ≡ N q) → Enabled X M x r → Enabled X N x r
  enabled_as M N x r same e = record { transition = e.transition; tokens = λ q is. rw (← same q is) (e.tokens q is) }

  module _ (only : OnlyVisitors X) where
    -- ---- a transition can fire just where the cart stands before that move, and may make it

    permitted_enabled : (s : List ℕ) (x : ℕ) → Permitted S s x → Enabled X (marked s) x (pos s x)
    permitted_enabled s x m = record { transition = rw (out_are X x) at m.not_out; tokens = tokens }
      where
        tokens : (q : Place) → IsPlace X q → input X q x (pos s x) ≤ marked s q
        tokens (at c p) _ =
            one_le _ _ λ e. let (cart, here) = (move_says c p x (pos s x)).0 e in eq-eqb (pos s c) p (ap (pos s) cart ∙ sym here)
        tokens (between d c p) (h, b) =
            one_le _ _ λ e.
            let (cart, here) = (move_says c p x (pos s x)).0 e in
            let same : p ≡ pos s c = here ∙ sym (ap (pos s) cart) in
            let need = (rw (← cart) at m.met) d (before_cart X only (zone X c p) d c b) in
            let left : left_at X d (zone X c p) ≤ pos s d = rw (← same, need_is X c p d h b) at need in
            waits s d (suc (step_in X d (zone X c p))) c p left (omega arith)
        tokens (line d c) f =
            one_le _ _ λ e.
            let (cart, here) = (move_says c 0 x (pos s x)).0 e in
            let first : pos s c ≡ 0 = ap (pos s) cart ∙ sym here in
            let need = (rw (← cart) at m.met) d (front_cart X d c f) in
            let gone : 0 < pos s d = omega (arith, rw first at need, need_line X c d f) in
            waits s d 0 c 0 gone (omega arith)

    enabled_permitted : (s : List ℕ) (x r : ℕ) → Enabled X (marked s) x r → (pos s x ≡ r) × Permitted S s x
    enabled_permitted s x r e = (
      stands,
      record { not_out = rw (stands, out_are X x) e.transition; met = λ d l. rw stands (need_met X x r d (pos s d) (left d) (first d)) },
    )
      where
        some : (0 < steps X x) × (r ≤ steps X x)
        some = moves_within (steps X x) r e.transition

        stands : pos s x ≡ r
        stands = eqb-true (pos s x) r (is_one _ (rw (own_move x r) at (e.tokens (at x r) (some.0, omega (arith, e.transition)))))

        left : (d : ℕ) → Behind X x r d → left_at X d (zone X x r) ≤ pos s d
        left d (h, b) =
            let t = is_one _ (rw (own_move x r) at (e.tokens (between d x r) (h, b))) in
            ltb-true _ _ (and_both _ _ t).0

        first : (d : ℕ) → InLine X x r d → 1 ≤ pos s d
        first d (zeroth, f) =
            let t = is_one _ (rw (zeroth, own_move x 0) at (e.tokens (line d x) f)) in
            ltb-true _ _ (and_both _ _ t).0

    -- ---- firing is moving

    fired_marks : (s : List ℕ) (x : ℕ) → InRange S s → Closed S s → Permitted S s x → (q : Place) → IsPlace X q
        → fired X (marked s) x (pos s x) q ≡ marked (moved s x) q
    fired_marks s x range closed m = go
      where
        inside : x < length s
        inside = rw range.sized (permitted_cart S s x m)

        go : (q : Place) → IsPlace X q → fired X (marked s) x (pos s x) q ≡ marked (moved s x) q
        go (at c p) _ = sym (standing_moved s x inside c p)
        go (between d c p) (h, b) =
            let q = suc (step_in X d (zone X c p)) in
            let cart = before_cart X only (zone X c p) d c b in
            sym (waiting_moved s x inside d q c p
            (λ e.
            let (same, here) = (move_says c p x (pos s x)).0 e in
            let need = (rw (← same) at m.met) d cart in
            let at_p : p ≡ pos s c = here ∙ sym (ap (pos s) same) in
            rw (← at_p, need_is X c p d h b) at need)
            (λ made. rw (need_is X c p d h b) at (closed c p d made cart)))
        go (line d c) f =
            let cart = front_cart X d c f in
            sym (waiting_moved s x inside d 0 c 0
            (λ e.
            let (same, here) = (move_says c 0 x (pos s x)).0 e in
            let need = (rw (← same) at m.met) d cart in
            let first : pos s c ≡ 0 = ap (pos s) same ∙ sym here in
            omega (arith, rw first at need, need_line X c d f))
            (λ made. omega (arith, closed c 0 d made cart, need_line X c d f)))

    -- ---- markings that show a state

    pub shows_enabled : (M : Marking) (s : List ℕ) → Shows M s → (x r : ℕ) → Enabled X M x r ↔ ((pos s x ≡ r) × Permitted S s x)
    unfolding Shows
    shows_enabled M s shows x r = (
      λ e. enabled_permitted s x r (enabled_as M (marked s) x r shows e),
      λ (here, m). enabled_as (marked s) M x r (λ q is. sym (shows q is)) (subst (λ (r : ℕ). Enabled X (marked s) x r) here (permitted_enabled s x m)),
    )

    pub shows_fired : (M : Marking) (s : List ℕ) (x : ℕ) → InRange S s → Closed S s → Permitted S s x → Shows M s
        → Shows (fired X M x (pos s x)) (moved s x)
    unfolding Shows
    shows_fired M s x range closed m shows q is =
        ap (λ (n : ℕ). n - input X q x (pos s x) + output X x (pos s x) q) (shows q is) ∙ fired_marks s x range closed m q is

    -- ---- firing sequences are runs

    abbrev pub carts_of : List (ℕ × ℕ) → List ℕ
    carts_of [] = []
    carts_of ((x, r) ∷ later) = x ∷ carts_of later

    pub fires_run : (M : Marking) (s : List ℕ) (sequence : List (ℕ × ℕ)) → InRange S s → Closed S s → Shows M s → Fires X M sequence
        → Run S s (carts_of sequence) × Shows (fired_all X M sequence) (after s (carts_of sequence))
    fires_run M s [] range closed shows fires = (tt, shows)
    fires_run M s ((x, r) ∷ later) range closed shows (e, fires) =
        let (here, m) = (shows_enabled M s shows x r).0 e in
        let next : Shows (fired X M x r) (moved s x) = subst (λ (r : ℕ). Shows (fired X M x r) (moved s x)) here (shows_fired M s x range closed m shows) in
        let (run, shown) = fires_run (fired X M x r) (moved s x) later (moved_in_range S s x range m) (moved_closed S s x closed m) next fires in
        ((m, run), shown)

    pub dead_stuck : (M : Marking) (s : List ℕ) → Shows M s → Dead X M → Stuck S s
    dead_stuck M s shows dead x m = dead x (pos s x) ((shows_enabled M s shows x (pos s x)).1 (refl, m))

    module _ (sequence : List (ℕ × ℕ)) (fires : Fires X begins sequence) where
      ran : Run S (start S) (carts_of sequence) × Shows (fired_all X begins sequence) (after (start S) (carts_of sequence))
      ran = fires_run begins (start S) sequence (start_in_range S) (start_closed S) begins_shows fires

      -- the net is safe: a place that gets a token has none
      pub fires_safe : (x r : ℕ) → Enabled X (fired_all X begins sequence) x r → (q : Place) → IsPlace X q → 1 ≤ output X x r q
          → fired_all X begins sequence q ≡ 0
      unfolding Shows
      fires_safe x r e q is given = ran.1 q is ∙ go q given
        where
          s : List ℕ
          s = after (start S) (carts_of sequence)

          here : pos s x ≡ r
          here = ((shows_enabled (fired_all X begins sequence) s ran.1 x r).0 e).0

          unmade : (d k c p : ℕ) → is_move_of d k x r ≡ true → waiting s d k c p ≡ 0
          unmade d k c p t =
              let (cart, from) = (move_says d k x r).0 t in
              ap (λ (b : Bool). one (b && not (ltb p (pos s c)))) (le-ltb k (pos s d) (omega (arith, here, ap (pos s) cart)))

          go : (q : Place) → 1 ≤ output X x r q → marked s q ≡ 0
          go (at c p) given =
              let (cart, from) = (move_says c p x (suc r)).0 (is_one _ given) in
              ap one (ne_eqb (pos s c) p (λ same. omega (arith, here, ap (pos s) cart)))
          go (between d c p) given = unmade d (suc (step_in X d (zone X c p))) c p (is_one _ given)
          go (line d c) given = unmade d 0 c 0 (is_one _ given)

      -- ---- "fire transitions until none can fire": the verdict, and where each cart is left

      module _ (dead : Dead X (fired_all X begins sequence)) where
        left_at_end : after (start S) (carts_of sequence) ≡ end S (start S)
        left_at_end =
            end_unique S (start S) (after (start S) (carts_of sequence)) (start_in_range S)
            (record { run = carts_of sequence; is_run = ran.0; ends = refl }) (dead_stuck _ _ ran.1 dead)

        -- "the marking left tells the same position for each cart"
        pub marking_tells : Tells X (fired_all X begins sequence) (end S (start S))
        unfolding Shows
        marking_tells c p is = subst (λ (s : List ℕ). fired_all X begins sequence (at c p) ≡ one (eqb (pos s c) p)) left_at_end (ran.1 (at c p) is)

        -- "If q out has a token for all i, then we verify that all vehicles can pass": the judge's verdict
        pub net_verdict : AllComeOut S (start S) ↔ AllPass X (fired_all X begins sequence)
        net_verdict = (
          λ all c some.
              let out = (end_out S (start S) (start_in_range S)).0 all in
              marking_tells c (suc (steps X c)) (some, omega (arith, out_are X c, out_steps X c 0 some))
              ∙ ap one (eq-eqb _ _ (ap (λ (s : List ℕ). pos s c) out ∙ out_steps X c 0 some)),
          λ tokens. (end_out S (start S) (start_in_range S)).1 (ext_get_or 0 left S.out range.sized (λ c _. same c tokens (dec_lt 0 (steps X c)))),
        )
          where
            left : List ℕ
            left = end S (start S)

            range : InRange S left
            range = reaches_in_range S (start S) left (start_in_range S) (end_reached S (start S))

            same : (c : ℕ) → AllPass X (fired_all X begins sequence) → Dec (0 < steps X c) → pos left c ≡ pos S.out c
            same c tokens (yes some) =
                let told = marking_tells c (suc (steps X c)) (some, omega (arith, out_are X c, out_steps X c 0 some)) in
                let token : one (eqb (pos left c) (suc (steps X c))) ≡ 1 = sym told ∙ tokens c some in
                omega (arith, out_steps X c 0 some, eqb-true (pos left c) (suc (steps X c)) (is_one _ (omega (arith, token))))
            same c tokens (no none) = omega (arith, range.within c, out_are X c, moves_none (steps X c) (omega arith))
