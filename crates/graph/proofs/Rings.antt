-- The ring of a complete plan's carts, read backwards, is a cycle of the graph: from the cart pointed to there is a way to the cart that points.
use Prim.Native.Nat.{ℕ, zero, suc, ◌+◌, ◌-◌, ◌≤◌, ◌<◌}
use mathlib.Core.Path.{◌≡◌, ap, sym, subst, ◌∙◌}
use mathlib.Core.Logic.{◌≢◌, inl, inr, ⊎_elim}
use mathlib.Core.Bool.{true, true≢false}
use mathlib.Core.List.{List}
use native.Mathlib.Decide.{dec_lt, ℕ_discrete}
use native.Mathlib.Omega.{arith}
use lib.Dec.{ltb}
use Rattle.moves.specs.System.{pos}
use Rattle.moves.specs.inner.Moves.{Waits}
use Rattle.moves.specs.Rings.{follow}
use Rattle.routes.specs.Lists.{first_of}
use Rattle.routes.specs.Crossing.{Crossing, route, steps, zone, step_in, left_at}
use Rattle.routes.specs.Moves.{system}
use Rattle.routes.specs.inner.Orders.{OnlyVisitors}
use Rattle.routes.specs.Plans.{list_of, plan, first_not_left}
use Rattle.routes.proofs.Places.{place_below, place_names}
use Rattle.routes.proofs.Ahead.{ahead_self}
use Rattle.routes.proofs.Lanes.{front_says}
use Rattle.routes.proofs.Moves.{need_short}
use Rattle.graph.specs.Graph.{direct, Cyclic}
use Rattle.graph.proofs.Ways.{way_join, StepWay, own_way, Involves, involved_edge}

-- nobody is in front of another: stop lines are zones here
module _ (routes lists : List (List ℕ)) (only : OnlyVisitors (plan (λ c. 0) routes lists)) (s : List ℕ) where
  abbrev X : Crossing
  X = plan (λ c. 0) routes lists

  abbrev to : ℕ → ℕ
  to = first_not_left (λ c. 0) routes lists s

  -- the zone that c wants
  abbrev wanted : ℕ → ℕ
  wanted c = zone X c (pos s c)

  -- the step in it of the cart that c points to
  abbrev there : ℕ → ℕ
  there c = step_in X (to c) (wanted c)

  -- what it says that c waits for the cart that it points to
  record Blocked (c : ℕ) : Type 0 where
    inside : pos s c < steps X c
    ahead : X.before (wanted c) (to c) c ≡ true
    visits : there c < steps X (to c)
    is_there : zone X (to c) (there c) ≡ wanted c
    not_left : pos s (to c) ≤ suc (there c)

  waits_blocked : (c : ℕ) → Waits (system X) s c (to c) → Blocked c
  waits_blocked c w =
      ⊎_elim
      (λ ((inside, ahead), short).
      let v = only (wanted c) (to c) c ahead in
      record {
        inside = inside;
        ahead = ahead;
        visits = place_below (route X (to c)) (wanted c) v;
        is_there = place_names (route X (to c)) (wanted c) v;
        not_left = omega arith;
      })
      (λ ((_, f), _). absurd (omega (arith, ((front_says X (to c) c).0 f).is)))
      (need_short X c (pos s c) (to c) (pos s (to c)) w.short)

  -- the cart pointed to wants another zone: in this one it is the first that has not left
  other_zone : (c : ℕ) → Blocked (to c) → wanted (to c) ≢ wanted c
  other_zone c b e =
      let same : to (to c) ≡ to c = ap (λ (z : ℕ). first_of (λ d. ltb (pos s d) (left_at X d z)) (list_of lists z)) e in
      true≢false (sym (rw same at b.ahead) ∙ ahead_self (list_of lists (wanted (to c))) (to c))

  not_next : (c : ℕ) → Blocked c → Blocked (to c) → there c ≢ pos s (to c)
  not_next c b next e = other_zone c next (ap (zone X (to c)) (sym e) ∙ b.is_there)

  -- the vertex of c that involves the zone that it wants, by its step
  abbrev at : ℕ → ℕ
  at c = pos s c - 1

  two_steps : (c : ℕ) → Blocked c → Blocked (to c) → suc (at (to c)) < steps X (to c)
  two_steps c b next = omega (arith, not_next c b next, b.visits, next.inside)

  at_wanted : (c : ℕ) → suc (at c) < steps X c → Involves X c (at c) (wanted c)
  at_wanted c h = go (ℕ_discrete (pos s c) 0)
    where
      go : Dec (pos s c ≡ 0) → Involves X c (at c) (wanted c)
      go (yes e) = (h, inl (ap (zone X c) (omega arith)))
      go (no n) = (h, inr (ap (zone X c) (omega arith)))

  -- from the vertex of the cart pointed to, to that of the cart that points
  pointed_way : (c : ℕ) → suc (at c) < steps X c → Blocked c → Blocked (to c) → StepWay X (to c) (at (to c)) c (at c)
  pointed_way c h b next = go (dec_lt (there c) (pos s d))
    where
      d : ℕ
      d = to c

      go : Dec (there c < pos s d) → StepWay X d (at d) c (at c)
      go (yes in_it) =
          let e : at d ≡ there c = omega (arith, b.not_left) in
          let from : Involves X d (at d) (wanted c) = (two_steps c b next, inl (ap (zone X d) e ∙ b.is_there)) in
          direct (involved_edge X d c (wanted c) (at d) (at c) b.ahead from (at_wanted c h))
      go (no before_it) =
          let n = there c - 1 - at d in
          let apart = not_next c b next in
          let e : suc (n + at d) ≡ there c = omega arith in
          let inside : suc (n + at d) < steps X d = omega (arith, b.visits) in
          let from : Involves X d (n + at d) (wanted c) = (inside, inr (ap (zone X d) e ∙ b.is_there)) in
          own_way X n d (at d) c (at c) inside (involved_edge X d c (wanted c) (n + at d) (at c) b.ahead from (at_wanted c h))

  -- ---- round the ring

  module _ (c : ℕ) (waits : (n : ℕ) → Waits (system X) s (follow to n c) (follow to (suc n) c)) where
    -- the carts that pointing passes from c
    abbrev passed : ℕ → ℕ
    passed n = follow to n c

    blocked : (n : ℕ) → Blocked (passed n)
    blocked n = waits_blocked (passed n) (waits n)

    back_one : (n : ℕ) → StepWay X (passed (suc (suc n))) (at (passed (suc (suc n)))) (passed (suc n)) (at (passed (suc n)))
    back_one n = pointed_way (passed (suc n)) (two_steps (passed n) (blocked n) (blocked (suc n))) (blocked (suc n)) (blocked (suc (suc n)))

    back : (n : ℕ) → StepWay X (passed (suc (suc n))) (at (passed (suc (suc n)))) (passed 1) (at (passed 1))
    back zero = back_one 0
    back (suc n) = way_join X (back_one (suc n)) (back n)

    pub ring_cyclic : (n : ℕ) → follow to (suc n) c ≡ c → Cyclic X
    ring_cyclic n e =
        let round = subst (λ (x : ℕ). StepWay X x (at x) (to c) (at (to c))) (ap to e) (back n) in
        (to c, zone X (to c) (at (to c)), zone X (to c) (suc (at (to c))), round)
