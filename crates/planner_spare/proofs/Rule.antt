-- The tables' spare time of a step is the rule's, where they hold those of the other steps.
use Prim.Native.Nat.{ℕ, suc, ◌+◌, ◌*◌, ◌-◌, ◌<◌, min}
use mathlib.Core.Path.{◌≡◌, refl, sym, ap, ◌∙◌}
use mathlib.Core.Logic.{◌↔◌}
use mathlib.Core.Bool.{true}
use mathlib.Core.List.{List}
use native.Mathlib.Decide.{ℕ_discrete, dec_lt}
use native.Mathlib.Omega.{arith}
use lib.ListN.{get_or}
use borrow.Author.Tests.{lt-ltb, le-ltb, eq-eqb, ne_eqb}
use Rattle.std.specs.Prelude.{Option, Some, None}
use Rattle.sets.specs.inner.Member.{has}
use Rattle.routes.specs.Crossing.{Crossing, route, steps, zone, step_in}
use Rattle.routes.specs.inner.Crossing.{Visits}
use Rattle.routes.specs.Lanes.{is_front}
use Rattle.routes.specs.Moves.{is_in_line}
use Rattle.routes.proofs.Lanes.{front_says}
use Rattle.routes.proofs.Moves.{line_says}
use Rattle.routes.proofs.Places.{place_below}
use Rattle.times.specs.Times.{Given, leaving}
use Rattle.sheet_table.specs.inner.Parts as parts
use Rattle.judge_entering.specs.Times.{times_of}
use Rattle.removal.specs.Spare.{least_of, alone, spare_rule}
use Rattle.planner_visiting.proofs.Steps.{visit_place}
use Rattle.planner_spare.specs.inner.Behind.{crossing_behind}
use Rattle.planner_spare.specs.inner.Steps.{spare_in, alone_in, with_rear, line_in, least_in, SpareTables}
use Rattle.planner_spare.specs.inner.Runs.{PassingIs}
use Rattle.planner_spare.proofs.Least.{least_empty, least_one, least_same}
use Rattle.planner_spare.proofs.Behind.{behind_16, behind_below, behind_steps, behind_zone, behind_before}
use Rattle.planner_spare.proofs.RearLaws.{rear_says}
use Rattle.sheet_table.specs.declared.Table.{Table}

module _ (sheet : Table) (rears : List (Option ℕ)) (behind visit enter : List ℕ) (finishing : ℕ)
    (tables : SpareTables sheet rears behind visit enter finishing) (G : Given) (given : PassingIs (parts.passing sheet) G) where
  abbrev X : Crossing
  X = crossing_behind sheet behind

  abbrev step_table : List ℕ
  step_table = parts.steps sheet

  abbrev zone_table : List ℕ
  zone_table = parts.zone sheet

  -- the place of a step in a zone
  visited_at : (d z : ℕ) → Visits X d z → get_or visit (16 * z + d) 0 ≡ 8 * d + step_in X d z
  unfolding crossing_behind
  visited_at = visit_place step_table zone_table visit tables.places

  module _ (spare : List ℕ) (u : ℕ → ℕ → ℕ) (told : (d q : ℕ) → q < steps X d → times_of spare d q ≡ u d q) (c j : ℕ) (h : j < steps X c) where
    alone_is : alone_in step_table (parts.passing sheet) enter spare finishing c j ≡ alone X G (times_of enter) finishing u c j
    alone_is = go (dec_lt (suc j) (steps X c))
      where
        counted : steps X c ≡ get_or step_table c 0
        counted = behind_steps sheet behind c (behind_below sheet behind c j h)

        go : Dec (suc j < steps X c) → alone_in step_table (parts.passing sheet) enter spare finishing c j ≡ alone X G (times_of enter) finishing u c j
        go (yes more) =
            rw (lt-ltb (j + 1) (get_or step_table c 0) (omega (arith, counted)), lt-ltb (suc j) (steps X c) more, alone)
            (ap (λ (x : ℕ). get_or spare x 0) (omega arith) ∙ told c (suc j) more)
        go (no last) =
            let leaves : leaving X G (times_of enter) c j ≡ get_or enter (8 * c + j) 0 + G.passing c j
            = rw (le-ltb (suc j) (steps X c) (omega (arith, last))) in
            rw (le-ltb (j + 1) (get_or step_table c 0) (omega (arith, counted, last)), le-ltb (suc j) (steps X c) (omega (arith, last)), alone)
            (ap (λ (time : ℕ). finishing - time) (ap (λ (k : ℕ). get_or enter (8 * c + j) 0 + k) (sym (given c j)) ∙ sym leaves))

    abbrev z : ℕ
    z = zone X c j

    abbrev set : ℕ
    set = get_or behind (8 * c + j) 0

    -- a cart behind is one that c goes before, and its entry is that of its step in the zone
    is_behind : (d : ℕ) → X.before z c d ≡ has set d
    is_behind d = behind_before sheet behind tables.routed c j d h

    spare_of : (d : ℕ) → X.before z c d ≡ true → spare_in visit spare (get_or zone_table (8 * c + j) 0) d ≡ u d (step_in X d z)
    spare_of d before =
        let visits : Visits X d z = tables.behind_visits c j d h (sym (is_behind d) ∙ before) in
        let here : z ≡ get_or zone_table (8 * c + j) 0 = behind_zone sheet behind c (behind_below sheet behind c j h) j h in
        ap (λ (y : ℕ). spare_in visit spare y d) (sym here)
        ∙ ap (λ (x : ℕ). get_or spare x 0) (visited_at d z visits)
        ∙ told d (step_in X d z) (place_below (route X d) z visits)

    -- the cart next behind on the lane is the one in line
    line_is : (least : ℕ) → line_in rears spare c j least ≡ least_of (λ d. is_in_line X d j c) (λ d. u d 0) least 16
    line_is least = go (ℕ_discrete j 0)
      where
        rear_of : (d : ℕ) → (get_or rears c None ≡ Some d) ↔ (is_front X c d ≡ true)
        rear_of d = rw tables.rears_are (rear_says sheet behind c d (behind_below sheet behind c j h))

        in_line : (d : ℕ) → is_in_line X d j c ≡ true → get_or rears c None ≡ Some d
        in_line d t = (rear_of d).1 ((line_says X d j c).0 t).1

        first : j ≡ 0 → (rear : Option ℕ) → get_or rears c None ≡ rear
            → with_rear rear spare least ≡ least_of (λ d. is_in_line X d j c) (λ d. u d 0) least 16
        first begins None e = sym (least_empty _ _ least 16 (λ d _ t. let clash = sym e ∙ in_line d t in cc))
        first begins (Some d) e =
            let front = (rear_of d).0 e in
            let some : 0 < steps X d = ((front_says X c d).0 front).here in
            let place : 8 * d ≡ 8 * d + 0 = omega arith in
            let one : min least (get_or spare (8 * d) 0) ≡ min least (u d 0) = rw (place, told d 0 some) in
            one
            ∙ sym (least_one _ _ least 16 d (behind_below sheet behind d 0 some) ((line_says X d j c).1 (begins, front))
            (λ k _ t. let same = sym (in_line k t) ∙ e in cc))

        go : Dec (j ≡ 0) → line_in rears spare c j least ≡ least_of (λ d. is_in_line X d j c) (λ d. u d 0) least 16
        go (yes begins) =
            let begin : line_in rears spare c j least ≡ with_rear (get_or rears c None) spare least = rw (eq-eqb j 0 begins) in
            begin ∙ first begins (get_or rears c None) refl
        go (no later) =
            let none : line_in rears spare c j least ≡ least = rw (ne_eqb j 0 later) in
            none ∙ sym (least_empty _ _ least 16 (λ d _ t. later ((line_says X d j c).0 t).0))

    pub rule_is : least_in sheet rears behind visit enter spare finishing c j ≡ spare_rule X G (times_of enter) finishing u c j
    unfolding spare_rule
    rule_is =
        rw (lt-ltb j (steps X c) h, spare_rule, behind_16 sheet behind)
        (ap (λ (least : ℕ). least_of (has set) (spare_in visit spare (get_or zone_table (8 * c + j) 0)) least 16)
        (ap (line_in rears spare c j) alone_is ∙ line_is (alone X G (times_of enter) finishing u c j))
        ∙ least_same _ _ _ _ _ 16 (λ d _. sym (is_behind d)) (λ d _. spare_of d))
