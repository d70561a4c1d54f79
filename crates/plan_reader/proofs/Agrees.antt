-- The one pass is the table's answer: each turn of a loop makes the checks of one list or of one entry, in their order.
use Prim.Native.Nat.{ℕ, zero, suc, ◌+◌, ◌≤◌, ◌<◌}
use mathlib.Core.Path.{◌≡◌, refl, sym, ap, ◌∙◌}
use mathlib.Core.Bool.{Bool, true, false, not, ◌&&◌}
use mathlib.Core.List.{List, [], ◌∷◌, ◌++◌, append-nil, append_assoc}
use native.Mathlib.Omega.{arith}
use native.Mathlib.Numerals.{add-one}
use native.Mathlib.Decide.{dec_lt}
use lib.Dec.{eqb}
use Rattle.std.specs.Prelude.{Option, Some, None, Result, Err}
use lib.ListN.{length, get_or}
use borrow.Author.Tests.{eqb-true, not-true}
use Rattle.words.specs.Lists.{each, table}
use Rattle.words.specs.Checks.{Check, check, first_failing}
use Rattle.words.specs.declared.Outcome.{Outcome}
use Rattle.words.proofs.Filling.{table_none, table_next}
use Rattle.words.proofs.Tests.{and_both}
use Rattle.words.proofs.Rows.{rows_next, front_next}
use Rattle.fields.specs.Field.{field_checks}
use Rattle.fields.specs.Field.{outside}
use Rattle.fields.specs.declared.Cursor.{Cursor}
use Rattle.fields.proofs.TakingLaws.{taking_checks, pick_checks}
use Rattle.sets.specs.inner.Member.{has}
use Rattle.sheet.specs.Valid.{Valid}
use Rattle.sheet.specs.declared.Sheet.{Sheet}
use Rattle.opening.specs.inner.Opening.{opening_by, on_opening}
use Rattle.opening.proofs.OpeningLaws.{opening_of}
use Rattle.plan.specs.Layout.{count_at, count_of, cart_at, cart_of}
use Rattle.plan.specs.Lists.{visits, visitors}
use Rattle.plan.specs.Checks.{is_listed, cart_checks, list_checks, lane_checks, plan_checks}
use Rattle.plan.specs.Reading.{plan_done}
use Rattle.plan.specs.declared.Orders.{Orders}
use Rattle.plan.specs.declared.PlanRead.{PlanRead}
use Rattle.plan.proofs.Visitors.{visitors_most}
use Rattle.plan_lists.specs.inner.Sets.{who_visits, may_lead, with_cart, first_late}
use Rattle.plan_lists.specs.inner.Scan.{Lists, Taken, got, count_taken, cart_taken, no_lists, put_count, put_cart, Scanned, on_taken, carts_from, lists_from}
use Rattle.plan_reader.specs.inner.Scan.{unless_late, plan_of, orders_of, finish, on_scanned, from_lists, scan, sheet_scan}
use Rattle.plan_reader.proofs.Listed.{seen, seen_none, seen_has, seen_more, who, who_ones, who_has, visits_below, lead, late_is}
use Rattle.plan_reader.proofs.ListTables.{before_rule, listed, before, listed_none, before_none, listed_put, before_put}
use Rattle.plan_reader.proofs.Late.{first, told, LateIs, late_none, next_late, late_entry, late_zone}

module _ (sheet : Sheet) (valid : Valid sheet) (p : List ℕ) where
  -- the lists when the counts of h zones, the lists of the zones before z and e entries of zone z's list are read
  abbrev so_far : ℕ → ℕ → ℕ → Option ℕ → Lists
  so_far h z e late = record { count = table 24 h (count_of p); list = listed p z e; before = before p z e; late = late }

  -- the answer where all passes
  abbrev pub answer : PlanRead
  answer = plan_done sheet (orders_of sheet.steps sheet.zone (so_far sheet.zones sheet.zones 0 None))

  abbrev table_answer : List Check → PlanRead
  table_answer = first answer sheet p

  abbrev Late : ℕ → ℕ → Option ℕ → Type 0
  Late = LateIs answer sheet p

  abbrev whole : Scanned → PlanRead
  whole r = plan_of sheet (on_scanned r (finish p sheet.steps sheet.zone))

  abbrev visitors_of : List ℕ
  visitors_of = who_visits sheet.steps sheet.zone

  abbrev leads : List ℕ
  leads = may_lead sheet.lane

  cart_next : (z e : ℕ) → cart_at p z e + 1 ≡ cart_at p z (e + 1)
  cart_next z e = omega arith

  count_next : (z : ℕ) → cart_at p z (count_of p z) ≡ count_at p (z + 1)
  unfolding count_at
  count_next z = rw (add-one z)

  -- the checks of entry e, by the sets
  abbrev is_free : ℕ → ℕ → ℕ → Bool
  is_free z e i = has (who sheet z) i && not (has (seen p z e) i)

  free_is : (z e : ℕ) → z < 24 → is_free z e (cart_of p z e) ≡ (visits sheet (cart_of p z e) z && not (is_listed p z e (cart_of p z e)))
  free_is z e l = rw (who_has sheet valid z (cart_of p z e) l) (go (visits sheet (cart_of p z e) z) refl)
    where
      go : (b : Bool) → visits sheet (cart_of p z e) z ≡ b → (b && not (has (seen p z e) (cart_of p z e))) ≡ (b && not (is_listed p z e (cart_of p z e)))
      go true v = ap not (seen_has p z e (cart_of p z e) (visits_below sheet valid z (cart_of p z e) v))
      go false v = refl

  entry_checks : (z e : ℕ) → z < 24 → field_checks 15 p (outside (cart_at p z e)) 1 19 (is_free z e) ≡ cart_checks sheet p z e
  unfolding cart_checks field_checks
  entry_checks z e l = rw (free_is z e l)

  late_next : (z e : ℕ) (late : Option ℕ) → ((k : ℕ) → k < e → cart_of p z k < 16) → cart_of p z e < 16
      → first_late late (cart_at p z e) (seen p z e) (lead sheet (cart_of p z e)) ≡ next_late answer sheet p z e late
  unfolding first_late
  late_next z e (Some known) few l = refl
  late_next z e None few l = rw (late_is sheet p z e few l)

  carts_agree : (z : ℕ) → z < 24 → count_of p z ≤ 16 → (n e : ℕ) (late : Option ℕ) → e + n ≡ count_of p z → Late z e late
      → ((k : ℕ) → k < e → cart_of p z k < 16) → (go : Lists → ℕ → Scanned) (later : List Check)
      → ((end : Option ℕ) → Late z (count_of p z) end → whole (go (so_far (z + 1) z (count_of p z) end) (cart_at p z (count_of p z))) ≡ table_answer later)
      → whole (carts_from p (who sheet z) leads z n e (seen p z e) (so_far (z + 1) z e late) (cart_at p z e) go)
      ≡ table_answer (each n e (cart_checks sheet p z) ++ later)
  unfolding carts_from cart_taken each
  carts_agree z l m zero e late q h few go later k = let end : e ≡ count_of p z = omega arith in rw end (k late (rw end at h))
  carts_agree z l m (suc n) e late q h few go later k =
      rw (append_assoc, ← entry_checks z e l)
      (taking_checks then Err answer 15 p 1 (outside (cart_at p z e)) 19 (is_free z e) got _ λ _ t.
      let both : (visits sheet (cart_of p z e) z ≡ true) × (not (is_listed p z e (cart_of p z e)) ≡ true) = and_both _ _ (sym (free_is z e l) ∙ t) in
      let below : cart_of p z e < 16 = visits_below sheet valid z (cart_of p z e) both.0 in
      rw (
        cart_next z e,
        seen_more p z e,
        listed_put p z e l (omega arith),
        before_put p z e l (omega arith) below (not-true _ both.1),
        late_next
            z e late few below,
      )
      (carts_agree z l m n (e + 1) (next_late answer sheet p z e late) (omega arith) (late_entry answer sheet p z e late h) (more below) go later k))
    where
      then : Taken → PlanRead
      then r =
          whole (on_taken r λ i next. carts_from p (who sheet z) leads z n (e + 1) (with_cart (seen p z e) i)
          (put_cart (so_far (z + 1) z e late) z e i (seen p z e) (first_late late (cart_at p z e) (seen p z e) (get_or leads i 0))) next go)

      more : cart_of p z e < 16 → (j : ℕ) → j < e + 1 → cart_of p z j < 16
      more below j r = elim (dec_lt j e) [ yes s ↦ few j s | no s ↦ let j-is : e ≡ j = omega arith in rw j-is at below ]

  -- what follows the lists
  abbrev last : List Check
  last = check 20 (count_at p sheet.zones) (eqb (count_at p sheet.zones) (length p)) ∷ each sheet.zones 0 (lane_checks sheet p)

  finish_agrees : (late : Option ℕ) → Late sheet.zones 0 late
      → plan_of sheet (finish p sheet.steps sheet.zone (so_far sheet.zones sheet.zones 0 late) (count_at p sheet.zones))
      ≡ table_answer last
  unfolding finish each first_failing
  finish_agrees late h =
      pick_checks (plan_of sheet) Err answer 20 (outside (count_at p sheet.zones)) (eqb (count_at p sheet.zones) (length p)) _
      (each sheet.zones 0 (lane_checks sheet p))
      (late_told late _ ∙ sym (h.says []) ∙ ap table_answer (append-nil (each sheet.zones 0 (lane_checks sheet p))))
    where
      late_told : (known : Option ℕ) (orders : Orders) → plan_of sheet (unless_late known orders) ≡ told answer sheet p known (plan_done sheet orders)
      late_told (Some place) orders = refl
      late_told None orders = refl

  lists_agree : (n z : ℕ) (late : Option ℕ) → z + n ≡ sheet.zones → Late z 0 late
      → whole (lists_from p visitors_of leads n z (so_far z z 0 late) (count_at p z)) ≡ table_answer (each n z (list_checks sheet p) ++ last)
  unfolding lists_from count_taken each list_checks
  lists_agree zero z late q h = let end : z ≡ sheet.zones = omega arith in rw end (finish_agrees late (rw end at h))
  lists_agree (suc n) z late q h =
      let l : z < 24 = omega (arith, valid.zones_most) in
      let start : count_at p z + 1 ≡ cart_at p z 0 = omega arith in
      simp append_assoc
      (rw (who_ones sheet z l)
      (taking_checks then Err answer 15 p 1 (outside (count_at p z)) 19 (λ k. eqb k (visitors sheet z)) got _ λ _ t.
      let few : count_of p z ≤ 16 = omega (arith, eqb-true (count_of p z) (visitors sheet z) t, visitors_most sheet z) in
      rw (table_next 24 (count_of p) z (count_of p z) _ l refl refl, start)
      (ap (λ (x : ℕ). whole (carts_from p (who sheet z) leads z (count_of p z) 0 x (so_far (z + 1) z 0 late) (cart_at p z 0)
      (lists_from p visitors_of leads n (z + 1)))) (seen_none p z)
      ∙ carts_agree z l few (count_of p z) 0 late (omega arith) h (λ k m. absurd (omega arith)) (lists_from p visitors_of leads n (z + 1))
      (each n (z + 1) (list_checks sheet p) ++ last) λ end g.
      next end (lists_agree n (z + 1) end (omega arith) (late_zone answer sheet p z (count_of p z) end refl g)))))
    where
      then : Taken → PlanRead
      then r =
          whole (on_taken r λ k c. carts_from p (who sheet z) leads z k 0 0 (put_count (so_far z z 0 late) z k) c (lists_from p visitors_of leads n (z + 1)))

      next : (end : Option ℕ)
          → whole (lists_from p visitors_of leads n (z + 1) (so_far (z + 1) (z + 1) 0 end) (count_at p (z + 1))) ≡ table_answer
          (each n (z + 1) (list_checks sheet p) ++ last)
          → whole (lists_from p visitors_of leads n (z + 1) (so_far (z + 1) z (count_of p z) end) (cart_at p z (count_of p z))) ≡
          table_answer (each n (z + 1) (list_checks sheet p) ++ last)
      next end g = rw (
        count_next z,
        front_next 384 16 (count_of p) (cart_of p) z (count_of p z) refl,
        rows_next 384 16 (count_of p) (before_rule p) z
            (count_of p z) refl,
      ) g

  nothing_yet : no_lists ≡ so_far 0 0 0 None
  nothing_yet = rw (← table_none 24 (count_of p), ← listed_none p, ← before_none p)

  pub scan_agrees : plan_of sheet (sheet_scan p sheet) ≡ table_answer (plan_checks sheet p)
  unfolding scan opening_by plan_checks from_lists count_at
  scan_agrees =
      ap then (opening_of p 15 sheet.zones)
      ∙ simp append_assoc
      (taking_checks then Err answer 15 p 1 (outside 0) 16 _ _ _ λ _ _.
      taking_checks then Err answer 15 p 2 (outside 1) 17 _ _ _ λ _ _.
      taking_checks then Err answer 15 p 1 (outside 3) 18 _ _ _ λ _ _.
      ap (λ (l : Lists). whole (lists_from p visitors_of leads sheet.zones 0 l 4)) nothing_yet
      ∙ lists_agree sheet.zones 0 None (omega arith) (late_none answer sheet p))
    where
      then : Result (ℕ × Cursor) Outcome → PlanRead
      then r = plan_of sheet (on_opening Err r λ n c. from_lists p sheet.zones sheet.steps sheet.zone sheet.lane c.at)
