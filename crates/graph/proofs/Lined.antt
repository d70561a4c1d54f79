-- A plan with the stop lines as zones: it is complete, and its moves can be ranked exactly where those of the plan can.
use Prim.Native.Nat.{ℕ, zero, suc, ◌+◌, ◌*◌, ◌-◌, ◌<◌}
use mathlib.Core.Path.{◌≡◌, refl, sym, ap, subst₂, ◌∙◌}
use mathlib.Core.Logic.{◌↔◌, ◌⊎◌, inl, inr, ⊎_elim}
use mathlib.Core.Bool.{true}
use mathlib.Core.List.{List, [], ◌∷◌}
use native.Mathlib.Decide.{dec_lt}
use native.Mathlib.Omega.{arith}
use lib.ListN.{length, get_or, length-append, get_or-append, get_or-eq_default}
use lib.Seq.{get_or-append-add}
use Rattle.words.specs.Lists.{entries}
use Rattle.words.proofs.Entries.{length_entries, get_d_entries}
use Rattle.moves.specs.System.{System, pos, start}
use Rattle.moves.specs.inner.Runs.{AllComeOut}
use Rattle.moves.specs.inner.Records.{Meetable}
use Rattle.moves.specs.Cycles.{Before}
use Rattle.moves.specs.inner.Cycles.{Ranked}
use Rattle.moves.proofs.Ranks.{out_ranked, chain_rises, ranked_no_cycle}
use Rattle.moves.proofs.Cycles.{out_iff_no_cycle}
use Rattle.routes.specs.inner.Lists.{Named, Distinct}
use Rattle.routes.specs.Crossing.{Crossing, route, steps, zone, step_in, left_at}
use Rattle.routes.specs.inner.Crossing.{Visits}
use Rattle.routes.specs.Lanes.{is_on_lane, next_in_front}
use Rattle.routes.specs.Moves.{system}
use Rattle.routes.specs.Plans.{list_of, plan}
use Rattle.routes.specs.inner.Plans.{Complete}
use Rattle.routes.proofs.Places.{place_is}
use Rattle.routes.proofs.Lanes.{front_says, OnLane, on_lane_says, next_is, lane_closed}
use Rattle.routes.proofs.Moves.{Behind, InLine, need_cases, out_steps, out_are, moves_within, meetable}
use Rattle.routes.proofs.Before.{own_before, left_before, front_chain}
use Rattle.routes.proofs.Plans.{plan_visitors}
use Rattle.graph.specs.StopLine.{ahead_of_first, line_of, lined_routes, line_list, lined_lists}
use Rattle.graph.proofs.Passing.{passing_named, passing_once, passing_ahead}

-- ---- a route with a zone ahead of its first

ahead_some : (line : ℕ) (r : List ℕ) → 0 < length r → length (ahead_of_first line r) ≡ suc (length r)
ahead_some line [] h = absurd (omega arith)
ahead_some line (z ∷ r) h = refl

ahead_none : (line : ℕ) (r : List ℕ) → length r ≡ 0 → length (ahead_of_first line r) ≡ 0
ahead_none line [] h = refl
ahead_none line (z ∷ r) h = absurd (omega arith)

ahead_first : (line : ℕ) (r : List ℕ) → 0 < length r → get_or (ahead_of_first line r) 0 0 ≡ line
ahead_first line [] h = absurd (omega arith)
ahead_first line (z ∷ r) h = refl

ahead_next : (line : ℕ) (r : List ℕ) (j : ℕ) → j < length r → get_or (ahead_of_first line r) (suc j) 0 ≡ get_or r j 0
ahead_next line [] j h = absurd (omega arith)
ahead_next line (z ∷ r) j h = refl

module _ (lanes zones : ℕ) (lane : ℕ → ℕ) (routes lists : List (List ℕ)) (full : Complete routes lists)
    (zone_below : (c z : ℕ) → Named (get_or routes c []) z → z < zones)
    (lane_below : (c : ℕ) → 0 < length (get_or routes c []) → lane c < lanes) where
  abbrev X : Crossing
  X = plan (next_in_front lane routes) routes lists

  abbrev lined : List (List ℕ)
  lined = lined_routes zones lane routes

  abbrev listed : List (List ℕ)
  listed = lined_lists lanes zones lane routes lists

  abbrev Y : Crossing
  Y = plan (λ c. 0) lined listed

  abbrev line : ℕ → ℕ
  line c = line_of zones lane c

  -- ---- its routes

  route_is : (c : ℕ) → route Y c ≡ ahead_of_first (line c) (route X c)
  route_is c = go (dec_lt c (length routes))
    where
      go : Dec (c < length routes) → route Y c ≡ ahead_of_first (line c) (route X c)
      go (yes l) =
          get_d_entries (length routes) 0 (λ c. ahead_of_first (line c) (get_or routes c [])) c [] l
          ∙ ap (λ (c : ℕ). ahead_of_first (line c) (get_or routes c [])) (omega arith)
      go (no m) =
          let sized = length_entries (length routes) 0 (λ c. ahead_of_first (line c) (get_or routes c [])) in
          get_or-eq_default lined [] {n = c} (omega (arith, sized))
          ∙ sym (ap (ahead_of_first (line c)) (get_or-eq_default routes [] {n = c} (omega arith)))

  steps_more : (c : ℕ) → 0 < steps X c → steps Y c ≡ suc (steps X c)
  steps_more c h = ap length (route_is c) ∙ ahead_some (line c) (route X c) h

  steps_had : (c j : ℕ) → j < steps Y c → 0 < steps X c
  steps_had c j h = elim (dec_lt 0 (steps X c)) [
    | yes some ↦ some
    | no none ↦ absurd (omega (arith, ap length (route_is c), ahead_none (line c) (route X c) (omega arith)))
  ]

  zone_first : (c : ℕ) → 0 < steps X c → zone Y c 0 ≡ line c
  zone_first c h = ap (λ (r : List ℕ). get_or r 0 0) (route_is c) ∙ ahead_first (line c) (route X c) h

  zone_next : (c j : ℕ) → j < steps X c → zone Y c (suc j) ≡ zone X c j
  zone_next c j h = ap (λ (r : List ℕ). get_or r (suc j) 0) (route_is c) ∙ ahead_next (line c) (route X c) j h

  step_zone : (c j : ℕ) → j < steps X c → zone X c j < zones
  step_zone c j h = zone_below c (zone X c j) (j, h, refl)

  -- ---- its lists

  lists_part : length (entries zones 0 (list_of lists)) ≡ zones
  lists_part = length_entries zones 0 (list_of lists)

  list_zone : (z : ℕ) → z < zones → list_of listed z ≡ list_of lists z
  list_zone z l =
      get_or-append (entries zones 0 (list_of lists)) _ [] z (omega (arith, lists_part))
      ∙ get_d_entries zones 0 (list_of lists) z [] l ∙ ap (list_of lists) (omega arith)

  list_line : (l : ℕ) → l < lanes → list_of listed (zones + l) ≡ line_list lane routes l
  list_line l h =
      let at : zones + l ≡ length (entries zones 0 (list_of lists)) + l = omega (arith, lists_part) in
      ap (list_of listed) at
      ∙ get_or-append-add (entries zones 0 (list_of lists)) (entries lanes 0 (line_list lane routes)) l []
      ∙ get_d_entries lanes 0 (line_list lane routes) l [] h
      ∙ ap (line_list lane routes) (omega arith)

  -- past the stop lines there is the empty list
  list_past : (z k : ℕ) → k < length (list_of listed z) → z < zones + lanes
  list_past z k h = elim (dec_lt z (zones + lanes)) [
    | yes l ↦ l
    | no m ↦
        let sized = length-append (entries zones 0 (list_of lists)) (entries lanes 0 (line_list lane routes)) in
        let rest = length_entries lanes 0 (line_list lane routes) in
        absurd (omega (arith, ap (length {A = ℕ}) (get_or-eq_default listed [] {n = z} (omega (arith, sized, lists_part, rest)))))
  ]

  -- who is at the stop line of lane l
  at_line : (l c : ℕ) → Named (line_list lane routes l) c ↔ ((c < length routes) × OnLane lane routes l c)
  at_line l c =
      let says = passing_named (is_on_lane lane routes l) (length routes) c in
      let test = on_lane_says lane routes l c in
      (λ named. let (b, t) = says.0 named in (b, test.0 t), λ (b, h). says.1 (b, test.1 h))

  cart_below : (c : ℕ) → 0 < steps X c → c < length routes
  cart_below c h = elim (dec_lt c (length routes)) [
    | yes l ↦ l
    | no m ↦ absurd (omega (arith, ap (length {A = ℕ}) (get_or-eq_default routes [] {n = c} (omega arith))))
  ]

  pub lined_complete : Complete lined listed
  lined_complete = record { only_visitors = only; all_visitors = every; once = distinct; route_once = route_distinct }
    where
      only : (z c : ℕ) → Named (list_of listed z) c → Named (get_or lined c []) z
      only z c named = go (dec_lt z zones)
        where
          go : Dec (z < zones) → Visits Y c z
          go (yes l) =
              let (j, i, there) = full.only_visitors z c (rw (list_zone z l) at named) in
              (suc j, omega (arith, steps_more c (omega arith)), zone_next c j i ∙ there)
          go (no m) =
              let l = z - zones in
              let is : z ≡ zones + l = omega arith in
              let past = list_past z named.0 named.1 in
              let (_, (some, same)) = (at_line l c).0 (rw (ap (list_of listed) is ∙ list_line l (omega arith)) at named) in
              (0, omega (arith, steps_more c some), zone_first c some ∙ omega (arith, same))

      every : (z c : ℕ) → Named (get_or lined c []) z → Named (list_of listed z) c
      every z c (zero, h, at) =
          let some = steps_had c 0 h in
          let is : z ≡ zones + lane c = sym at ∙ zone_first c some in
          rw (ap (list_of listed) is ∙ list_line (lane c) (lane_below c some)) ((at_line (lane c) c).1 (cart_below c some, (some, refl)))
      every z c (suc j, h, at) =
          let inside : j < steps X c = omega (arith, steps_more c (steps_had c (suc j) h)) in
          let there : zone X c j ≡ z = sym (zone_next c j inside) ∙ at in
          let below : z < zones = rw (← there) (step_zone c j inside) in
          rw (list_zone z below) (full.all_visitors z c (j, inside, there))

      distinct : (z : ℕ) → Distinct (list_of listed z)
      distinct z e k h below same = go (dec_lt z zones)
        where
          go : Dec (z < zones) → ⊥
          go (yes l) = (rw (← list_zone z l) at (full.once z)) e k h below same
          go (no m) =
              let is : z ≡ zones + (z - zones) = omega arith in
              let list = ap (list_of listed) is ∙ list_line (z - zones) (omega (arith, list_past z k h)) in
              let once : Distinct (line_list lane routes (z - zones)) =
              passing_once (is_on_lane lane routes (z - zones)) (length routes) in
              (rw (← list) at once) e k h below same

      route_distinct : (c : ℕ) → Distinct (get_or lined c [])
      route_distinct c e zero h below same = absurd (omega arith)
      route_distinct c zero (suc k) h below same =
          let some = steps_had c (suc k) h in
          let inside : k < steps X c = omega (arith, steps_more c some) in
          omega (arith, step_zone c k inside, zone_next c k inside, zone_first c some)
      route_distinct c (suc e) (suc k) h below same =
          let inside : k < steps X c = omega (arith, steps_more c (steps_had c (suc k) h)) in
          full.route_once c e k inside (omega arith) (sym (zone_next c e (omega arith)) ∙ same ∙ zone_next c k inside)

  -- ---- its moves: one move more for each cart, onto the stop line

  abbrev S : System
  S = system X

  abbrev T : System
  T = system Y

  out_more : (c : ℕ) → 0 < steps X c → (pos S.out c ≡ suc (steps X c)) × (pos T.out c ≡ suc (suc (steps X c)))
  out_more c some = (out_steps X c 0 some, omega (arith, out_steps Y c 0 (omega (arith, steps_more c some)), steps_more c some))

  moves_had : (c p : ℕ) → p < pos T.out c → 0 < steps X c
  moves_had c p h = steps_had c 0 (moves_within (steps Y c) p (rw (out_are Y c) at h)).0

  -- the step in a zone is one later, and at the stop line it is the first
  step_later : (c z : ℕ) → Visits X c z → step_in Y c z ≡ suc (step_in X c z)
  step_later c z (j, h, at) =
      place_is (route Y c) z (lined_complete.route_once c) (suc j) (omega (arith, steps_more c (omega arith))) (zone_next c j h ∙ at)
      ∙ ap suc (sym (place_is (route X c) z (full.route_once c) j h at))

  step_line : (c z : ℕ) → 0 < steps X c → line c ≡ z → step_in Y c z ≡ 0
  step_line c z some is =
      place_is (route Y c) z (lined_complete.route_once c) 0 (omega (arith, steps_more c some)) (zone_first c some ∙ is)

  -- who is ahead at the stop line
  line_ahead : (d c : ℕ) → 0 < steps X c → (Y.before (line c) d c ≡ true) ↔ ((d < c) × OnLane lane routes (lane c) d)
  line_ahead d c some =
      let says = passing_ahead (is_on_lane lane routes (lane c)) (length routes) c d (cart_below c some) ((on_lane_says lane routes (lane c) c).1 (some, refl)) in
      let test = on_lane_says lane routes (lane c) d in
      rw (list_line (lane c) (lane_below c some)) (λ b. let (l, t) = says.0 b in (l, test.0 t), λ (l, on). says.1 (l, test.1 on))

  only_X : (z d c : ℕ) → X.before z d c ≡ true → Visits X d z
  only_X = plan_visitors (next_in_front lane routes) routes lists full

  -- ---- where the plan's moves are ranked, so are these

  module _ (ranked : Ranked S) where
    abbrev after : ℕ → ℕ → ℕ
    after c zero = 2 * ranked.rank c 0
    after c (suc p) = suc (2 * ranked.rank c p)

    -- of two carts of a lane the one in front makes its first move first
    lane_first : (d c : ℕ) → d < c → 0 < steps X c → OnLane lane routes (lane c) d → ranked.rank d 0 < ranked.rank c 0
    lane_first d c below some on =
        lane_closed lane routes (λ d c. ranked.rank d 0 < ranked.rank c 0)
        (λ d c is there here. chain_rises S ranked (front_chain X only_X d c ((front_says X d c).1 (record { is = is; there = there; here = here }))))
        (λ e d c r q. omega arith) (suc c) d c (omega arith) below some on

    after_rises : (d q c p : ℕ) → Before T d q c p → after d q < after c p
    after_rises d q c p b = go b.because
      where
        some_c : 0 < steps X c
        some_c = moves_had c p b.later

        own : (q p : ℕ) → d ≡ c → suc q ≡ p → p < pos T.out c → after d q < after c p
        own q zero same next in_c = absurd (omega arith)
        own zero (suc p) same next in_c = let is : p ≡ 0 = omega arith in rw (same, is) (omega arith)
        own (suc q) (suc p) same next in_c =
            let is : p ≡ suc q = omega arith in
            let step : q < steps X c = omega (arith, out_more c some_c) in
            rw (same, is) (omega (arith, ranked.rises c q c (suc q) (own_before X c q step)))

        by_zone : (p : ℕ) → p < steps Y c → Y.before (zone Y c p) d c ≡ true → suc q ≡ left_at Y d (zone Y c p) → after d q < after c p
        by_zone zero h ahead is =
            let (below, on) = (line_ahead d c some_c).0 (rw (zone_first c some_c) at ahead) in
            let at_line : line d ≡ line c = ap (λ (l : ℕ). zones + l) on.1 in
            let one : q ≡ 1 = omega (arith, is, ap (λ (z : ℕ). step_in Y d z) (zone_first c some_c), step_line d (line c) on.0 at_line) in
            rw one (omega (arith, lane_first d c below some_c on))
        by_zone (suc p) h ahead is =
            let inside : p < steps X c = omega (arith, steps_more c some_c) in
            let z = zone X c p in
            let before : X.before z d c ≡ true = rw (zone_next c p inside, list_zone z (step_zone c p inside)) at ahead in
            let visit = only_X z d c before in
            let two : q ≡ suc (suc (step_in X d z)) = omega (arith, is, ap (λ (z : ℕ). step_in Y d z) (zone_next c p inside), step_later d z visit) in
            let here : step_in X c z ≡ p = place_is (route X c) z (full.route_once c) p inside refl in
            let less = ranked.rises _ _ _ _ (left_before X z d c visit (p, inside, refl) before) in
            rw two (omega (arith, less, ap (ranked.rank c) here))

        go : ((d ≡ c) × (suc q ≡ p)) ⊎ (T.need c p d ≡ suc q) → after d q < after c p
        go (inl (same, next)) = own q p same next b.later
        go (inr need) =
            ⊎_elim (λ ((h, ahead), is). by_zone p h ahead (sym need ∙ is))
            (λ or. ⊎_elim (λ ((_, front), _). absurd (omega (arith, ((front_says Y d c).0 front).is))) (λ none. absurd (omega (arith, none, need))) or)
            (need_cases Y c p d)

    pub lined_ranked : Ranked T
    lined_ranked = record { rank = after; rises = after_rises }

  -- ---- and back

  module _ (ranked : Ranked T) where
    plain_rises : (d q c p : ℕ) → Before S d q c p → ranked.rank d (suc q) < ranked.rank c (suc p)
    plain_rises d q c p b = go b.because
      where
        some : (c p : ℕ) → p < pos S.out c → 0 < steps X c
        some c p h = (moves_within (steps X c) p (rw (out_are X c) at h)).0

        some_c : 0 < steps X c
        some_c = some c p b.later

        own : d ≡ c → suc q ≡ p → ranked.rank d (suc q) < ranked.rank c (suc p)
        own same next =
            rw same (ranked.rises c (suc q) c (suc p)
            (record {
              earlier = omega (arith, out_more c some_c, b.later);
              later = omega (arith, out_more c some_c, b.later);
              because = inl
                  (refl, ap suc next);
            }))

        by_zone : Behind X c p d → S.need c p d ≡ left_at X d (zone X c p) → S.need c p d ≡ suc q → ranked.rank d (suc q) < ranked.rank c (suc p)
        by_zone (h, ahead) is need =
            let z = zone X c p in
            let visit = only_X z d c ahead in
            let before : Y.before z d c ≡ true = rw (list_zone z (step_zone c p h)) ahead in
            let there : Visits Y d z = lined_complete.only_visitors z d (rw (list_zone z (step_zone c p h)) (full.all_visitors z d visit)) in
            let here : Visits Y c z = (suc p, omega (arith, steps_more c some_c), zone_next c p h) in
            let less = ranked.rises _ _ _ _ (left_before Y z d c there here before) in
            let first : suc (step_in Y d z) ≡ suc q = omega (arith, step_later d z visit, is, need) in
            let second : step_in Y c z ≡ suc p = omega (arith, step_later c z (p, h, refl), place_is (route X c) z (full.route_once c) p h refl) in
            subst₂ (λ (a e : ℕ). ranked.rank d a < ranked.rank c e) first second less

        by_line : InLine X c p d → S.need c p d ≡ 1 → S.need c p d ≡ suc q → ranked.rank d (suc q) < ranked.rank c (suc p)
        by_line (first, f) is need =
            let (below, on) = next_is lane routes d c ((front_says X d c).0 f).is in
            let at_line : line d ≡ line c = ap (λ (l : ℕ). zones + l) on.1 in
            let there : Visits Y d (line c) = (0, omega (arith, steps_more d on.0), zone_first d on.0 ∙ at_line) in
            let here : Visits Y c (line c) = (0, omega (arith, steps_more c some_c), zone_first c some_c) in
            let less = ranked.rises _ _ _ _ (left_before Y (line c) d c there here ((line_ahead d c some_c).1 (below, on))) in
            let next = ranked.rises _ _ _ _ (own_before Y c 0 (omega (arith, steps_more c some_c))) in
            let one : suc (step_in Y d (line c)) ≡ suc q = omega (arith, step_line d (line c) on.0 at_line, is, need) in
            let none : step_in Y c (line c) ≡ 0 = step_line c (line c) some_c refl in
            let less' = subst₂ (λ (a e : ℕ). ranked.rank d a < ranked.rank c e) one none less in
            rw first (omega (arith, less', next))

        go : ((d ≡ c) × (suc q ≡ p)) ⊎ (S.need c p d ≡ suc q) → ranked.rank d (suc q) < ranked.rank c (suc p)
        go (inl (same, next)) = own same next
        go (inr need) =
            ⊎_elim (λ (behind, is). by_zone behind is need)
            (λ or. ⊎_elim (λ (line, is). by_line line is need) (λ none. absurd (omega (arith, none, need))) or)
            (need_cases X c p d)

    pub plain_ranked : Ranked S
    plain_ranked = record { rank = λ c p. ranked.rank c (suc p); rises = plain_rises }

  -- ---- so all carts come out of both, or of neither

  ranked_out : (S : System) → Meetable S → Ranked S → AllComeOut S (start S)
  ranked_out S meet ranked = (out_iff_no_cycle S meet).1 (ranked_no_cycle S ranked)

  pub lined_out : AllComeOut S (start S) ↔ AllComeOut T (start T)
  lined_out = (
    λ all. ranked_out T (meetable Y (plan_visitors (λ c. 0) lined listed lined_complete)) (lined_ranked (out_ranked S all)),
    λ all. ranked_out S (meetable X only_X) (plain_ranked (out_ranked T all)),
  )
