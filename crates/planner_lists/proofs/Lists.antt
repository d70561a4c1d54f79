-- The lists read off a table that stands for strict orders are the passing lists of these orders.
use Prim.Native.Nat.{ℕ, ◌+◌, ◌*◌, ◌/◌, ◌%◌, ◌≤◌, ◌<◌}
use mathlib.Core.Path.{◌≡◌, refl, sym, ap, ◌∙◌}
use mathlib.Core.Logic.{⊎_elim}
use mathlib.Core.Bool.{false, not-eq-not}
use mathlib.Core.List.{List, []}
use native.Mathlib.Decide.{dec_lt}
use native.Mathlib.Nat.{mod-lt}
use native.Mathlib.Omega.{arith}
use lib.ListN.{length, get_or, get_or-eq_default}
use lib.Dec.{ltb}
use lib.Count.{ones}
use borrow.Author.Tests.{lt-ltb, le-ltb}
use Rattle.words.specs.Lists.{pick, entries}
use Rattle.words.proofs.Entries.{length_entries, entries_is, same_entries}
use Rattle.sets.proofs.Counting.{count_most, count_none}
use Rattle.routes.specs.Crossing.{Crossing, steps, zone}
use Rattle.routes.specs.Plans.{list_of}
use Rattle.plan_lists.specs.inner.Sets.{Routes, who_visits}
use Rattle.crossing.specs.inner.Tables.{crossing_by}
use Rattle.crossing.specs.Plans.{count_table, list_table}
use Rattle.crossing.proofs.Tables.{steps_is, zone_is}
use Rattle.removal.specs.Pairs.{Unplanned, visits}
use Rattle.removal.specs.inner.Plannable.{Plannable}
use Rattle.removal.specs.inner.Passable.{Passable}
use Rattle.removal.specs.Removal.{passing_cart, visitors, passing_lists}
use Rattle.removal.proofs.Pairs.{Visiting, visits_says}
use Rattle.removal.proofs.Lists.{place_in, list_counts, list_place, place_listed, lists_complete}
use Rattle.planner_orders.specs.inner.Unplanned.{unplanned_by, unordered}
use Rattle.planner_orders.specs.inner.Stands.{StandsFor}
use Rattle.planner_groups.proofs.Visitors.{visitors_says}
use Rattle.plan.specs.declared.Orders.{Orders}
use Rattle.planner_lists.specs.inner.Places.{IsStep, zone_at, place_at, Placeable, EntryOf, PlacedTo, Listed}
use Rattle.planner_lists.proofs.Members.{ones_upto}

module _ (step_table zone_table lane arrival passing travel follow cross : List ℕ) (zones carts : ℕ) where
  abbrev U : Unplanned
  U = unplanned_by step_table zone_table lane arrival passing travel follow cross zones carts

  module _ (X : Crossing) (good : Passable U X) (ahead : List ℕ) (stands : StandsFor U X ahead) where
    able : Plannable U
    able = stands.sheet_sized.able

    abbrev place : ℕ → ℕ → ℕ
    place = place_in U X

    abbrev lists : List (List ℕ)
    lists = passing_lists U X

    -- ---- places

    -- a visitor's place is in its zone's list, and there stands the visitor
    place_few : (c z : ℕ) → Visiting U c z → place z c < visitors U z
    place_few c z v =
        let l = able.zone_below c z v in
        let counted = list_counts U able X good.both good.strict z l in
        let (k, h, at) = (lists_complete U able X good.both good.strict).all_visitors z c v in
        let below : k < visitors U z = omega (arith, h, counted) in
        omega (arith, below, (list_place U able X good.both good.strict z l k c below at).1)

    place_apart : (c d z : ℕ) → Visiting U c z → Visiting U d z → place z c ≡ place z d → c ≡ d
    place_apart c d z v w same =
        let l = able.zone_below c z v in
        sym (place_listed U able X good.both good.strict z l c v) ∙ ap (λ (k : ℕ). get_or (list_of lists z) k 0) same ∙ place_listed U able X
        good.both good.strict z l d w

    -- ---- a step in the tables, and a cart that visits a zone

    table_step : (c j : ℕ) → IsStep step_table c j → (j < steps (unordered U) c) × (zone (unordered U) c j ≡ zone_at zone_table c j)
    unfolding crossing_by
    table_step c j (l, h) =
        let below : j < steps (unordered U) c = omega (arith, h, steps_is step_table zone_table [] [] c l) in
        (below, zone_is step_table zone_table [] [] c l j below)

    step_table_lem : (c j : ℕ) → j < steps (unordered U) c → IsStep step_table c j × (zone (unordered U) c j ≡ zone_at zone_table c j)
    unfolding crossing_by
    step_table_lem c j h =
        let l : c < 16 = omega (arith, able.cart_below c (zone (unordered U) c j) (j, h, refl), stands.sheet_sized.carts_most) in
        ((l, omega (arith, h, steps_is step_table zone_table [] [] c l)), zone_is step_table zone_table [] [] c l j h)

    -- the carts counted in a step's set are those that go before
    place_is : (c j : ℕ) → j < steps (unordered U) c → place_at ahead c j ≡ place (zone (unordered U) c j) c
    place_is c j h =
        let z = zone (unordered U) c j in
        ones_upto carts (get_or ahead (8 * c + j) 0) (λ d. X.before z d c) (λ d. stands.ahead_is c j d h) (λ d b. able.cart_below d z (good.both z d c b).0)

    place_small : (c j : ℕ) → j < steps (unordered U) c → place_at ahead c j < 16
    place_small c j h =
        let z = zone (unordered U) c j in
        omega (arith, place_is c j h, place_few c z (j, h, refl), count_most carts (λ d. visits U d z), stands.sheet_sized.carts_most)

    -- an entry is that of a visitor at its place
    entry_is : (c j z k : ℕ) → k < 16 → EntryOf step_table zone_table ahead c j (16 * z + k) → Visiting U c z × (place z c ≡ k)
    entry_is c j z k few e =
        let (h, there) = table_step c j e.is_step in
        let small = place_small c j h in
        let same : zone (unordered U) c j ≡ z = omega (arith, e.at, there) in
        let at : place_at ahead c j ≡ k = omega (arith, e.at, there) in
        ((j, h, same), rw same at (sym (place_is c j h) ∙ at))

    -- and a visitor's place is its entry
    visitor_entry : (c z : ℕ) → Visiting U c z → (j : ℕ) × EntryOf step_table zone_table ahead c j (16 * z + place z c)
    visitor_entry c z (j, h, there) =
        let (is_step, at) = step_table_lem c j h in
        let own : place z c ≡ place_at ahead c j = rw there at (sym (place_is c j h)) in
        (j, record { is_step = is_step; at = omega (arith, own, there, at) })

    pub strict_placeable : (table : List ℕ) → Routes step_table zone_table → table ≡ who_visits step_table zone_table
        → Placeable step_table zone_table ahead table
    strict_placeable table sheet-routes visitors_are = record {
      routes = sheet-routes;
      visitors_are = visitors_are;
      place_below = λ c j s. place_small c j (table_step c j s).0;
      apart = λ c j d k s t zones_same places_same.
          let (h, at_c) = table_step c j s in
          let (i, at-d) = table_step d k t in
          let z = zone (unordered U) c j in
          let same : zone (unordered U) d k ≡ z = omega (arith, zones_same, at_c, at-d) in
          let its : place_at ahead d k ≡ place z d = rw same at (place_is d k i) in
          place_apart c d z (j, h, refl) (k, i, same) (sym (place_is c j h) ∙ places_same ∙ its);
    }

    -- ---- the lists

    no_list : (z : ℕ) → zones ≤ z → list_of lists z ≡ []
    unfolding passing_lists
    no_list z past = get_or-eq_default lists [] {n = z} (omega (arith, length_entries zones 0 (λ y. entries (visitors U y) 0 (passing_cart U X y))))

    module _ (list : List ℕ) (placed : PlacedTo step_table zone_table ahead 128 list) where
      -- where no visitor has place k the entry is 0
      none_placed : (z k : ℕ) → k < 16 → ((c : ℕ) → Visiting U c z → place z c ≡ k → ⊥) → get_or list (16 * z + k) 0 ≡ 0
      none_placed z k few no_one =
          ⊎_elim (λ e. e) (λ (c, j, e, _). let (v, at) = entry_is c j z k few e in absurd (no_one c v at)) (placed.others (16 * z + k))

      -- where one has, it is that cart
      one_placed : (c z k : ℕ) → Visiting U c z → place z c ≡ k → get_or list (16 * z + k) 0 ≡ c
      one_placed c z k v at =
          let (j, e) = visitor_entry c z v in
          let below : 8 * c + j < 128 = omega (arith, e.is_step.0, (table_step c j e.is_step).0, stands.sheet_sized.ranged.steps_most c) in
          placed.placed c j (16 * z + k) (rw at at e) below

      entry_listed : (z k : ℕ) → k < 16 → get_or list (16 * z + k) 0 ≡ get_or (list_of lists z) k 0
      entry_listed z k few = go (dec_lt z zones) (dec_lt k (visitors U z))
        where
          go : Dec (z < zones) → Dec (k < visitors U z) → get_or list (16 * z + k) 0 ≡ get_or (list_of lists z) k 0
          go (yes l) (yes m) =
              let (v, at) = list_place U able X good.both good.strict z l k (get_or (list_of lists z) k 0) m refl in
              one_placed (get_or (list_of lists z) k 0) z k v at
          go (yes l) (no m) =
              let empty = get_or-eq_default (list_of lists z) 0 {n = k} (omega (arith, m, list_counts U able X good.both good.strict z l)) in
              none_placed z k few (λ c v at. omega (arith, m, place_few c z v)) ∙ sym empty
          go (no n) _ = rw (no_list z (omega (arith, n))) (none_placed z k few (λ c v at. n (able.zone_below c z v)))

      list_listed : list ≡ list_table lists
      list_listed =
          entries_is list 384 _ placed.list_384 λ y l.
          let at : 16 * (y / 16) + y % 16 ≡ y = omega arith in
          ap (λ (x : ℕ). get_or list x 0) (sym at) ∙ entry_listed (y / 16) (y % 16) (mod-lt y (omega arith))

    -- ---- the counts

    module _ (table : List ℕ) (visitors_are : table ≡ who_visits step_table zone_table) where
      visitors_counted : (z : ℕ) → z < 24 → ones (get_or table z 0) ≡ visitors U z
      visitors_counted z l =
          ones_upto carts (get_or table z 0) (λ d. visits U d z) (λ d. rw visitors_are (visitors_says step_table zone_table z l d))
          (λ d v. able.cart_below d z ((visits_says U d z).0 v))

      no_visitors : (z : ℕ) → zones ≤ z → visitors U z ≡ 0
      no_visitors z past =
          count_none carts (λ d. visits U d z) λ d _.
          (not-eq-not {b = false}).0 (λ v. omega (arith, able.zone_below d z ((visits_says U d z).0 v)))

      counts_listed : entries 24 0 (λ z. ones (get_or table z 0)) ≡ count_table zones lists
      counts_listed = same_entries 24 _ _ λ z l. visitors_counted z l ∙ go z (dec_lt z zones)
        where
          go : (z : ℕ) → Dec (z < zones) → visitors U z ≡ pick (ltb z zones) (length (list_of lists z)) 0
          go z (yes m) = rw (lt-ltb z zones m) (sym (list_counts U able X good.both good.strict z m))
          go z (no n) = let past : zones ≤ z = omega (arith, n) in rw (le-ltb z zones past) (no_visitors z past)

    -- the lists read off are those of the orders
    pub lists_are : (table : List ℕ) → table ≡ who_visits step_table zone_table → (r : Orders) → Listed step_table zone_table ahead table r
        → (r.count ≡ count_table zones (passing_lists U X)) × (r.list ≡ list_table (passing_lists U X))
    lists_are table visitors_are r is = (is.count_is ∙ counts_listed table visitors_are, list_listed r.list is.list_is)
