-- The orders of complete passing lists are readable orders, and their lists are these lists.
use Prim.Native.Nat.{ℕ, ◌+◌, ◌*◌, ◌/◌, ◌%◌, ◌≤◌, ◌<◌}
use mathlib.Core.Path.{◌≡◌, refl, sym, ap, ◌∙◌}
use mathlib.Core.Logic.{◌↔◌}
use mathlib.Core.Bool.{true}
use mathlib.Core.List.{List, []}
use native.Mathlib.Decide.{dec_lt}
use native.Mathlib.Omega.{arith}
use lib.ListN.{length, get_or, get_or-eq_default}
use lib.Seq.{ext_get_or}
use Rattle.words.specs.Lists.{entries}
use Rattle.words.proofs.Entries.{length_entries, get_d_entries, entries_is, at_entry}
use Rattle.words.proofs.Tests.{ltb_says, eqb_says, same_test}
use Rattle.words.proofs.Tables.{used_entry, unused_entry, row_at, column_at, used_at, unused_at}
use Rattle.sets.specs.Counting.{set_below}
use Rattle.sets.proofs.Counting.{count_same}
use Rattle.moves.proofs.Search.{any_says}
use Rattle.routes.specs.Lists.{is_named, is_ahead}
use Rattle.routes.specs.inner.Lists.{Named}
use Rattle.routes.specs.Plans.{list_of}
use Rattle.routes.specs.inner.Plans.{Complete}
use Rattle.routes.proofs.Places.{named_says}
use Rattle.sheet.specs.Valid.{lane, steps, zone, Valid}
use Rattle.sheet.specs.declared.Sheet.{Sheet}
use Rattle.plan.specs.Lists.{visits, visitors}
use Rattle.plan.specs.Written.{count, listed}
use Rattle.plan.specs.Valid.{passing_list, ahead, Shaped, ValidEntry, ValidOrders}
use Rattle.plan.specs.declared.Orders.{Orders}
use Rattle.plan.proofs.Visitors.{count_values, visitors_most, step_cart, step_valid, steps_most, visitor_cart}
use Rattle.crossing.specs.inner.Tables.{crossing_by, sheet_fronts}
use Rattle.crossing.specs.Plans.{routes_of, lists_of, orders_by}
use Rattle.crossing.proofs.Tables.{steps_is, zone_is}
use Rattle.crossing.proofs.Sheets.{step_is}

module _ (sheet : Sheet) (v : Valid sheet) where
  -- the route of a cart names the zones that it visits
  route_visits : (c z : ℕ) → (visits sheet c z ≡ true) ↔ Named (get_or (routes_of sheet) c []) z
  unfolding crossing_by
  route_visits c z = (
    λ e.
        let (j, h, at) = says.0 e in
        let l : c < 16 = omega (arith, step_cart sheet v c j h, v.carts_most) in
        let below : j < length (get_or (routes_of sheet) c []) = omega (arith, steps_is sheet.steps sheet.zone (sheet_fronts sheet) [] c l) in
        (j, below, zone_is sheet.steps sheet.zone (sheet_fronts sheet) [] c l j below ∙ at),
    λ (j, h, at). let (below, there) = step_is sheet v [] c j h in says.1 (j, below, sym there ∙ at),
  )
    where
      says : (visits sheet c z ≡ true) ↔ ((j : ℕ) × (j < steps sheet c) × (zone sheet c j ≡ z))
      says = any_says _ (steps sheet c) (λ j. zone sheet c j ≡ z) (λ j. eqb_says (zone sheet c j) z)

  route_zone : (c z : ℕ) → Named (get_or (routes_of sheet) c []) z → z < sheet.zones
  unfolding crossing_by
  route_zone c z (j, h, at) = let (below, there) = step_is sheet v [] c j h in omega (arith, (step_valid sheet v c j below).zone_below)

  module _ (lists : List (List ℕ)) (full : Complete (routes_of sheet) lists) where
    abbrev orders : Orders
    orders = orders_by sheet lists

    abbrev entry : ℕ → ℕ → ℕ
    entry z k = get_or (list_of lists z) k 0

    list_zone : (z k : ℕ) → k < length (list_of lists z) → z < sheet.zones
    list_zone z k h = route_zone (entry z k) z (full.only_visitors z (entry z k) (k, h, refl))

    list_none : (z : ℕ) → sheet.zones ≤ z → length (list_of lists z) ≡ 0
    list_none z m = elim (dec_lt 0 (length (list_of lists z))) [ yes h ↦ absurd (omega (arith, list_zone z 0 h)) | no h ↦ omega arith ]

    count_is : (z : ℕ) → count orders z ≡ length (list_of lists z)
    unfolding orders_by
    count_is z =
        elim (dec_lt z sheet.zones) [
          | yes l ↦ used_entry 24 (λ k. ltb_says k sheet.zones) (λ z. length (list_of lists z)) z (omega (arith, v.zones_most)) l
          | no m ↦ unused_entry 24 (λ k. ltb_says k sheet.zones) (λ z. length (list_of lists z)) z m ∙ sym (list_none z (omega (arith, m)))
        ]

    listed_is : (z k : ℕ) → k < 16 → listed orders z k ≡ entry z k
    unfolding orders_by
    listed_is z k h =
        elim (dec_lt z 24) [
          | yes l ↦ at_entry 384 rule (16 * z + k) (omega arith) ∙ rw (row_at z k h, column_at z k h)
          | no m ↦
              get_or-eq_default (entries 384 0 rule) 0 {n = 16 * z + k} (omega (arith, m, length_entries 384 0 rule))
              ∙ sym (get_or-eq_default (list_of lists z) 0 {n = k} (omega (arith, m, v.zones_most, list_none z (omega (arith, m, v.zones_most)))))
        ]
      where
        rule : ℕ → ℕ
        rule x = get_or (get_or lists (x / 16) []) (x % 16) 0

    -- as many are listed as visit
    counted : (z : ℕ) → length (list_of lists z) ≡ visitors sheet z
    counted z =
        sym (count_values 16 (length (list_of lists z)) (entry z) (λ k h. below k h) (λ e k h l. full.once z e k h l))
        ∙ count_same 16 (is_named (list_of lists z)) (λ i. visits sheet i z) (λ i _. same_test _ _ (to i) (from i))
      where
        below : (k : ℕ) → k < length (list_of lists z) → entry z k < 16
        below k h =
            omega (arith, v.carts_most, visitor_cart sheet v (entry z k) z ((route_visits (entry z k) z).1 (full.only_visitors z (entry z k) (k, h, refl))))

        to : (i : ℕ) → is_named (list_of lists z) i ≡ true → visits sheet i z ≡ true
        to i e = (route_visits i z).1 (full.only_visitors z i ((named_says (list_of lists z) i).0 e))

        from : (i : ℕ) → visits sheet i z ≡ true → is_named (list_of lists z) i ≡ true
        from i e = (named_says (list_of lists z) i).1 (full.all_visitors z i ((route_visits i z).0 e))

    few : (z k : ℕ) → k < length (list_of lists z) → k < 16
    few z k h = omega (arith, counted z, visitors_most sheet z)

    passing_is : (z : ℕ) → passing_list orders z ≡ list_of lists z
    passing_is z =
        sym (entries_is (list_of lists z) (count orders z) (listed orders z) (sym (count_is z)) λ k h.
        sym (listed_is z k (few z k (omega (arith, count_is z)))))

    -- the lists of these orders are the lists
    pub lists_are : length lists ≡ sheet.zones → lists_of sheet orders ≡ lists
    lists_are sized =
        ext_get_or [] (lists_of sheet orders) lists (length_entries sheet.zones 0 (passing_list orders) ∙ sym sized) λ z l.
        get_d_entries sheet.zones 0 (passing_list orders) z [] (omega (arith, length_entries sheet.zones 0 (passing_list orders)))
        ∙ ap (passing_list orders) (omega arith)
        ∙ passing_is z

    shaped : Shaped orders
    unfolding orders_by
    shaped = record { count_24 = length_entries 24 0 _; list_384 = length_entries 384 0 _; ahead_128 = length_entries 128 0 _ }

    -- who is ahead of step j of cart i
    abbrev ahead_of : ℕ → ℕ → ℕ
    ahead_of i j = set_below 16 λ d. is_ahead (list_of lists (zone sheet i j)) i d

    ahead_is : (i j : ℕ) → j < steps sheet i → ahead orders i j ≡ set_below 16 (λ d. is_ahead (passing_list orders (zone sheet i j)) i d)
    unfolding orders_by
    ahead_is i j h =
        used_at 128 8 (λ i j. ltb_says j (steps sheet i)) ahead_of i j (omega (arith, steps_most sheet v i))
        (omega (arith, steps_most sheet v i, step_cart sheet v i j h, v.carts_most)) h
        ∙ ap (λ (list : List ℕ). set_below 16 λ d. is_ahead list i d) (sym (passing_is (zone sheet i j)))

    no_ahead : (i j : ℕ) → j < 8 → steps sheet i ≤ j → ahead orders i j ≡ 0
    unfolding orders_by
    no_ahead i j l m = unused_at 128 8 (λ i j. ltb_says j (steps sheet i)) ahead_of i j l (λ h. omega arith)

    pub orders_valid : ((z e k : ℕ) → e < k → k < length (list_of lists z) → lane sheet (entry z e) ≡ lane sheet (entry z k) → entry z e < entry z k)
        → ValidOrders sheet orders
    orders_valid in_lane = record {
      shaped = shaped;
      list = λ z _. record { all_visitors = count_is z ∙ counted z; entry = λ k h. valid_entry z k (omega (arith, count_is z)) };
      ahead_is = ahead_is;
      unused = record { no_count = λ z m. count_is z ∙ list_none z m; no_listed = no_listed; no_ahead = no_ahead };
    }
      where
        valid_entry : (z k : ℕ) → k < length (list_of lists z) → ValidEntry sheet orders z k
        valid_entry z k h =
            let here = listed_is z k (few z k h) in
            record {
              visiting = rw here ((route_visits (entry z k) z).1 (full.only_visitors z (entry z k) (k, h, refl)));
              once = λ e l same. full.once z e k h l (sym (listed_is z e (few z e (omega arith))) ∙ same ∙ here);
              in_lane = λ e l. rw (here, listed_is z e (few z e (omega arith))) (in_lane z e k l h);
            }

        no_listed : (z k : ℕ) → k < 16 → count orders z ≤ k → listed orders z k ≡ 0
        no_listed z k h m = listed_is z k h ∙ get_or-eq_default (list_of lists z) 0 {n = k} (omega (arith, count_is z))
