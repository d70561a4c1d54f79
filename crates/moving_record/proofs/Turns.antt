-- Steps entered in turn, step by step and cart by cart, and carts started in line, are the moves that had what they need.
use Prim.Native.Nat.{ℕ, ◌+◌, ◌*◌, ◌<◌, min}
use mathlib.Core.Path.{◌≡◌, refl, sym, ◌∙◌}
use mathlib.Core.Bool.{true}
use mathlib.Core.List.{List}
use native.Mathlib.Nat.{le_trans}
use native.Mathlib.Omega.{arith}
use lib.ListN.{get_or}
use Rattle.sets.specs.inner.Member.{has}
use Rattle.moves.specs.System.{pos}
use Rattle.moves.specs.inner.Records.{Closed}
use Rattle.routes.specs.Crossing.{Crossing, steps, zone, HasLeft}
use Rattle.routes.specs.Moves.{system}
use Rattle.routes.proofs.Lanes.{front_says}
use Rattle.routes.proofs.Moves.{need_is, need_line, need_met, left_says, front_cart, before_cart}
use Rattle.crossing.specs.inner.Tables.{fronts_by, crossing_by, LeftSet}
use Rattle.crossing.proofs.Tables.{step_below, steps_is, zone_is, before_is}
use Rattle.crossing.proofs.Fronts.{front_lower}
use Rattle.plan_lists.specs.inner.Sets.{Routes}
use Rattle.moving_record.specs.inner.Tables.{InZones, AllInTurn, AllInLine, Orderly}

pub zones_known : (steps zone : List ℕ) → Routes steps zone → (c p k : ℕ) → c < 16 → k ≡ min p (get_or steps c 0) → InZones zone c k
zones_known steps zone routes c p k l e = record { cart = l; few = omega (arith, routes.few c); known = λ j h. routes.known c j (omega arith) }

module _ (step_table zone_table lane_table ahead_table at : List ℕ) where
  abbrev fronts : List ℕ
  fronts = fronts_by step_table zone_table lane_table

  abbrev X : Crossing
  X = crossing_by step_table zone_table fronts ahead_table

  -- the first move of each cart that has started had what it needs
  pub closed_lines : Closed (system X) at → AllInLine (λ c. get_or fronts c 0) at
  closed_lines closed c l started d is =
      let front = (front_says X d c).1 (front_lower step_table zone_table lane_table ahead_table d c is).1 in
      le_trans (need_line X c d front) (closed c 0 d (omega arith) (front_cart X d c front))

  module _ (orderly : Orderly step_table zone_table lane_table ahead_table) (left : List ℕ) (left_is : (z : ℕ) → LeftSet X at z (get_or left z 0)) where
    module _ (c j : ℕ) (l : c < 16) (h : j < steps X c) where
      before : (d : ℕ) → X.before (zone X c j) d c ≡ has (get_or ahead_table (8 * c + j) 0) d
      before d = before_is step_table zone_table fronts ahead_table c l orderly.once j d (zone X c j) h refl

      here : zone X c j ≡ get_or zone_table (8 * c + j) 0
      here = zone_is step_table zone_table fronts ahead_table c l j h

    -- every move into a zone that the positions count had what it needs
    pub closed_turns : Closed (system X) at → AllInTurn step_table zone_table ahead_table at left
    closed_turns closed c l j h d member =
        let inside : j < steps X c = omega (arith, steps_is step_table zone_table fronts ahead_table c l) in
        let z = zone X c j in
        let b : X.before z d c ≡ true = before c j l inside d ∙ member in
        let need = need_is X c j d inside b in
        let past = closed c j d (omega arith) (before_cart X orderly.only z d c b) in
        let gone : HasLeft X at d z = (left_says X at d z (orderly.only z d c b)).0 (rw need at past) in
        rw (here c j l inside) at ((left_is z d).1 gone)

    pub turns_closed : AllInTurn step_table zone_table ahead_table at left → AllInLine (λ c. get_or fronts c 0) at → Closed (system X) at
    unfolding crossing_by
    turns_closed turns lines c p d h l =
        need_met X c p d (pos at d)
        (λ (inside, b).
        let m = step_below step_table zone_table fronts ahead_table c p inside in
        let z = zone X c p in
        let member = turns c m p (omega (arith, steps_is step_table zone_table fronts ahead_table c m)) d (sym (before c p m inside d) ∙ b) in
        (left_says X at d z (orderly.only z d c b)).1 ((left_is z d).0 (rw (here c p m inside) member)))
        (λ (_, f).
        let front = (front_says X d c).0 f in
        lines c (step_below step_table zone_table fronts ahead_table c 0 front.here) (omega (arith, h)) d front.is)
