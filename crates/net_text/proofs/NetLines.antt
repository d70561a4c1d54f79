-- The lines of a crossing are those of its net: one for each place, transition and arc and no other, in order. And no second net has that text.
use Prim.Native.Nat.{ℕ, suc, ◌+◌, ◌≤◌, ◌<◌}
use mathlib.Core.Path.{◌≡◌, refl, sym, ap, subst}
use mathlib.Core.Logic.{◌↔◌}
use mathlib.Core.Bool.{Bool, true, false}
use mathlib.Core.List.Memᴰ
use mathlib.Core.List.{[], Memᴰ}
use native.Mathlib.Decide.{dec_lt}
use native.Mathlib.Omega.{arith}
use lib.ListN.{length}
use lib.Dec.{leb, ltb}
use borrow.Author.Tests.{lt-ltb, le-ltb, le-leb, leb-true}
use Rattle.words.specs.Lists.{pick, All}
use Rattle.words.proofs.Members.{all_among, each_has}
use Rattle.words.proofs.All.{all_append, all_each}
use Rattle.words.proofs.Tests.{and_both, ltb_says}
use Rattle.routes.specs.Crossing.{Crossing, route, steps, zone, step_in}
use Rattle.routes.specs.Lanes.{is_front}
use Rattle.routes.specs.Moves.{moves_of, is_behind, is_in_line}
use Rattle.routes.specs.inner.Orders.{OnlyVisitors}
use Rattle.routes.proofs.Lanes.{front_says}
use Rattle.routes.proofs.Places.{place_below}
use Rattle.routes.proofs.Moves.{Behind, line_says, moves_some, moves_within, carts_are, step_cart, front_cart, before_cart}
use Rattle.petri.specs.Net.{at, between, line, one, is_move_of}
use Rattle.petri.proofs.Tokens.{move_says, is_one}
use Rattle.net_text.specs.Lines.{
  Line,
  place_cart,
  transition,
  cart_arc,
  arc_cart,
  place_line,
  arc_line,
  line_arc,
  place_pair,
  arc_pair,
  pair_arc,
  move_lines,
  lane_lines,
  pair_lines,
  out_from,
  own_lines,
  other_lines,
  position_lines,
  positions,
  cart_lines,
  net_lines,
  net_text,
}
use Rattle.net_text.specs.Parts.{Part, a_place, a_transition, an_input, an_output, IsPart, says, LinesOf}
use Rattle.net_text.proofs.ReadBack.{lines_once}
use Rattle.net_text.proofs.InOrder.{order_once, lines_in_order}

-- the positions of a cart are those of one with a route, up to steps + 1
positions_within : (n k : ℕ) → k < pick (ltb 0 n) (n + 2) 0 → (0 < n) × (k ≤ n + 1)
positions_within n k h = go (dec_lt 0 n)
  where
    go : Dec (0 < n) → (0 < n) × (k ≤ n + 1)
    go (yes some) = omega (arith, some, rw (lt-ltb 0 n some) at h)
    go (no none) = absurd (omega (arith, rw (le-ltb 0 n (omega (arith, none))) at h))

module _ (X : Crossing) where
  behind_says : (c p d : ℕ) → is_behind X c p d ≡ true → Behind X c p d
  behind_says c p d t = let (below, before) = and_both _ _ t in ((ltb_says p (steps X c)).0 below, before)

  moves_are : (c : ℕ) → 0 < steps X c → moves_of (steps X c) ≡ steps X c + 1
  moves_are c some = moves_some (steps X c) (λ e. omega arith)

  -- ---- every part has its line

  module _ (l : Line) (c p : ℕ) (some : 0 < steps X c) (most : p ≤ steps X c + 1) where
    at_position : Memᴰ l (position_lines X c p) → Memᴰ l (net_lines X)
    unfolding net_lines cart_lines
    at_position m =
        each_has (cart_lines X) l (length X.routes) 0 c (omega arith) (omega (arith, step_cart X c 0 some, carts_are X))
        (each_has (position_lines X c) l (positions X c) 0 p (omega arith) (rw (lt-ltb 0 (steps X c) some) (omega arith)) m)

    own_line : Memᴰ l (own_lines X c p) → Memᴰ l (net_lines X)
    unfolding position_lines
    own_line m = at_position (Memᴰ.append_left _ m)

    other_line : (d : ℕ) → d < length X.routes → Memᴰ l (other_lines X c p d) → Memᴰ l (net_lines X)
    unfolding position_lines
    other_line d h m =
        at_position (Memᴰ.append_right (own_lines X c p) (each_has (other_lines X c p) l (length X.routes) 0 d (omega arith) (omega arith) m))

  place_line_lem : (c p : ℕ) → 0 < steps X c → p ≤ steps X c + 1 → Memᴰ (place_cart c p) (net_lines X)
  unfolding own_lines
  place_line_lem c p some most = own_line (place_cart c p) c p some most (Memᴰ.head refl)

  move_line : (l : Line) (c p : ℕ) → p < moves_of (steps X c) → Memᴰ l (move_lines c p) → Memᴰ l (net_lines X)
  unfolding own_lines
  move_line l c p t m =
      let (some, most) = moves_within (steps X c) p t in
      own_line l c p some (omega arith) (rw (le-leb p (steps X c) most) (Memᴰ.tail m))

  lane_line : (l : Line) (c d : ℕ) → is_front X d c ≡ true → Memᴰ l (lane_lines c d) → Memᴰ l (net_lines X)
  unfolding other_lines
  lane_line l c d f m =
      other_line l c 0 ((front_says X d c).0 f).here (omega arith) d (omega (arith, front_cart X d c f, carts_are X))
      (Memᴰ.append_left {s = pick (is_in_line X c 0 d) (lane_lines c d) []} _ (rw ((line_says X c 0 d).1 (refl, f)) m))

  module _ (only : OnlyVisitors X) where
    pair_line : (l : Line) (c p d : ℕ) → Behind X c p d → Memᴰ l (pair_lines c p d (out_from X c p d)) → Memᴰ l (net_lines X)
    unfolding other_lines
    pair_line l c p d (h, b) m =
        other_line l c p (omega arith) (omega arith) d (omega (arith, before_cart X only (zone X c p) d c b, carts_are X))
        (Memᴰ.append_right (pick (is_in_line X c p d) (lane_lines c d) []) (rw ((ltb_says p (steps X c)).1 h, b) m))

    every : (part : Part) → IsPart X part → (l : Line) × (says l ≡ part) × Memᴰ l (net_lines X)
    every (a_place (at c p)) (some, most) = (place_cart c p, refl, place_line_lem c p some (omega (arith, moves_are c some)))
    every (a_place (between d c p)) h = (place_pair c p d, refl, pair_line _ c p d h (Memᴰ.head refl))
    every (a_place (line d c)) f = (place_line c d, refl, lane_line _ c d f (Memᴰ.head refl))
    every (a_transition x r) t = (transition x r, refl, move_line _ x r t (Memᴰ.head refl))
    every (an_input (at c p) x r) (_, t, e) =
        let (cart, from) = (move_says c p x r).0 (is_one _ (omega arith)) in
        (cart_arc x r, cc, move_line _ x r t (Memᴰ.tail (Memᴰ.head refl)))
    every (an_input (between d c p) x r) (h, t, e) =
        let (cart, from) = (move_says c p x r).0 (is_one _ (omega arith)) in
        (pair_arc c p d, cc, pair_line _ c p d h (Memᴰ.tail (Memᴰ.tail (Memᴰ.head refl))))
    every (an_input (line d c) x r) (f, t, e) =
        let (cart, from) = (move_says c 0 x r).0 (is_one _ (omega arith)) in
        (line_arc c d, cc, lane_line _ c d f (Memᴰ.tail (Memᴰ.tail (Memᴰ.head refl))))
    every (an_output x r (at c p)) (_, t, e) =
        let (cart, from) = (move_says c p x (suc r)).0 (is_one _ (omega arith)) in
        (arc_cart x r, cc, move_line _ x r t (Memᴰ.tail (Memᴰ.tail (Memᴰ.head refl))))
    every (an_output x r (between d c p)) (h, t, e) =
        let (cart, from) = (move_says d (out_from X c p d) x r).0 (is_one _ (omega arith)) in
        (arc_pair c p d (out_from X c p d), cc, pair_line _ c p d h (Memᴰ.tail (Memᴰ.head refl)))
    every (an_output x r (line d c)) (f, t, e) =
        let (cart, from) = (move_says d 0 x r).0 (is_one _ (omega arith)) in
        (arc_line c d, cc, lane_line _ c d f (Memᴰ.tail (Memᴰ.head refl)))

    -- ---- and no other line is there

    abbrev OfNet : Line → Type 0
    OfNet l = IsPart X (says l)

    same_move : (c p : ℕ) → one (is_move_of c p c p) ≡ 1
    same_move c p = ap one ((move_says c p c p).1 (refl, refl))

    own_of_net : (c p : ℕ) → 0 < steps X c → p ≤ steps X c + 1 → All OfNet (own_lines X c p)
    unfolding own_lines
    own_of_net c p some most = ((some, omega (arith, moves_are c some)), moving (leb p (steps X c)) refl)
      where
        moving : (b : Bool) → leb p (steps X c) ≡ b → All OfNet (pick b (move_lines c p) [])
        moving true t =
            let below : p < moves_of (steps X c) = omega (arith, leb-true p (steps X c) t, moves_are c some) in
            (below, (((some, omega arith), below, same_move c p), (((some, omega arith), below, same_move c (suc p)), tt)))
        moving false t = tt

    other_of_net : (c p d : ℕ) → All OfNet (other_lines X c p d)
    unfolding other_lines
    other_of_net c p d =
        all_append OfNet (pick (is_in_line X c p d) (lane_lines c d) []) _ (lane (is_in_line X c p d) refl) (pair (is_behind X c p d) refl)
      where
        lane : (b : Bool) → is_in_line X c p d ≡ b → All OfNet (pick b (lane_lines c d) [])
        lane true t =
            let (_, f) = (line_says X c p d).0 t in
            let F = (front_says X d c).0 f in
            (f, ((f, omega (arith, moves_are d F.there), same_move d 0), ((f, omega (arith, moves_are c F.here), same_move c 0), tt)))
        lane false t = tt

        pair : (b : Bool) → is_behind X c p d ≡ b → All OfNet (pick b (pair_lines c p d (out_from X c p d)) [])
        pair true t =
            let h = behind_says c p d t in
            let there : step_in X d (zone X c p) < steps X d = place_below (route X d) (zone X c p) (only (zone X c p) d c h.1) in
            let leaves : out_from X c p d < moves_of (steps X d) = omega (arith, moves_are d (omega arith)) in
            let enters : p < moves_of (steps X c) = omega (arith, h.0, moves_are c (omega (arith, h.0))) in
            (h, ((h, leaves, same_move d (out_from X c p d)), ((h, enters, same_move c p), tt)))
        pair false t = tt

    no_other : All OfNet (net_lines X)
    unfolding net_lines cart_lines position_lines
    no_other =
        all_each OfNet (length X.routes) 0 (cart_lines X) λ c _ _. all_each OfNet (positions X c) 0 (position_lines X c) λ p _ h.
        let (some, most) = positions_within (steps X c) p (omega arith) in
        all_append OfNet (own_lines X c p) _ (own_of_net c p some most)
        (all_each OfNet (length X.routes) 0 (other_lines X c p) λ d _ _. other_of_net c p d)

    pub lines_are : LinesOf X (net_lines X)
    lines_are = record { every = every; no_other = no_other; once = order_once (net_lines X) (lines_in_order X); in_order = lines_in_order X }

-- "two different nets never have the same text": the same text has the same lines, and so says the same places, transitions and arcs
module _ (X Y : Crossing) (visitors : OnlyVisitors X) (others : OnlyVisitors Y) (e : net_text X ≡ net_text Y) where
  pub same_lines : net_lines X ≡ net_lines Y
  unfolding net_text
  same_lines = lines_once (net_lines X) (net_lines Y) e

  pub text_once : (part : Part) → IsPart X part ↔ IsPart Y part
  text_once part = (to X Y visitors others same_lines part, to Y X others visitors (sym same_lines) part)
    where
      to : (X Y : Crossing) → OnlyVisitors X → OnlyVisitors Y → net_lines X ≡ net_lines Y → (part : Part) → IsPart X part → IsPart Y part
      to X Y v w same part h =
          let (l, is, there) = every X v part h in
          subst (IsPart Y) is (all_among (λ l. IsPart Y (says l)) (net_lines Y) (no_other Y w) l (subst (Memᴰ l) same there))
