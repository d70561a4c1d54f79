-- The one pass is the table's answer: each turn of a loop makes the checks of one zone, step or cart, in their order.
use Prim.Native.Nat.{ℕ, zero, suc, ◌+◌, ◌*◌, ◌≤◌, ◌<◌}
use mathlib.Core.Path.{◌≡◌, refl, sym, ap, ◌∙◌}
use mathlib.Core.Bool.{Bool, false, ◌||◌}
use mathlib.Core.List.{List, [], ◌∷◌, ◌++◌, append_assoc}
use native.Mathlib.Omega.{arith}
use lib.Dec.{eqb}
use lib.ListN.{length, set}
use borrow.Author.Tests.{leb-true}
use Rattle.std.specs.Prelude.{Result, Err}
use Rattle.words.specs.declared.Outcome.{Outcome}
use Rattle.words.specs.Lists.{any_below, each, table}
use Rattle.words.specs.Checks.{Check, check, first_failing}
use Rattle.words.proofs.Any.{any_same}
use Rattle.words.proofs.Filling.{table_none, table_next, table_used}
use Rattle.words.proofs.Tests.{leb_says, and_says, among_more}
use Rattle.fields.specs.Field.{outside, in_cart, in_step}
use Rattle.fields.specs.declared.Cursor.{Cursor}
use Rattle.fields.proofs.TakingLaws.{taking_checks, pick_checks, unless_checks}
use Rattle.sheet.specs.Layout.{zone_count, follow_at, follow_of, cross_at, cross_of, cart_count_at, cart_count, cart_at, lane_at, lane_of, arrival_at, arrival_of}
use Rattle.sheet.specs.Layout.{step_count_at, step_count, zone_at, zone_of, passing_at, passing_of, travel_at, travel_of, end_at}
use Rattle.sheet.specs.Checks.{field, is_cart_count, is_named_before, arrives_early, zone_checks, step_checks, cart_checks, lane_checks, sheet_checks}
use Rattle.sheet.specs.Reading.{blank, sheet_refused, sheet_done, sheet_of, read_sheet}
use Rattle.sheet.specs.declared.Sheet.{Sheet}
use Rattle.sheet.specs.declared.SheetRead.{SheetRead}
use Rattle.sheet.proofs.Told.{cart_next}
use Rattle.sheet_cart.specs.inner.Parts.{head_at, step_at}
use Rattle.sheet_cart.specs.declared.CartHead.{CartHead}
use Rattle.sheet_cart.specs.declared.Step.{Step}
use Rattle.sheet_filling.specs.inner.Filled.{made}
use Rattle.opening.specs.inner.Opening.{opening_by, on_opening}
use Rattle.sheet_carts.specs.inner.Scan.{put_cart, put_step, early, lanes_from, finish, on_part, steps_from, carts_from}
use Rattle.sheet_reader.specs.inner.Scan.{with_zones, count_from, zones_from, scan}
use Rattle.sheet_reader.proofs.Tables.{passed, passed_none, passed_put, passed_cart, passed_all}

module _ (s : List ℕ) where
  -- the sheet when the gaps of z zones, the cart count, the heads of h carts, and the steps before step j of cart i are read
  abbrev so_far : ℕ → ℕ → ℕ → ℕ → ℕ → Sheet
  so_far z carts h i j =
      made (zone_count s) carts
      (table 24 z (follow_of s)
      ∷ table 24 z (cross_of s)
      ∷ table 16 h (lane_of s)
      ∷ table 16 h (arrival_of s)
      ∷ table 16 h (step_count s)
      ∷ passed s i j (zone_of s)
      ∷ passed s i j (passing_of s)
      ∷ passed s i j (travel_of s)
      ∷ [])

  nothing_yet : so_far 0 0 0 0 0 ≡ with_zones blank (zone_count s)
  nothing_yet =
      rw (
        ← table_none 24 (follow_of s),
        ← table_none 24 (cross_of s),
        ← table_none 16 (lane_of s),
        ← table_none 16 (arrival_of s),
        ← table_none 16
            (step_count s),
        ← passed_none s (zone_of s),
        ← passed_none s (passing_of s),
        ← passed_none s (travel_of s),
      )

  -- the answer where all of some checks pass
  abbrev first : List Check → SheetRead
  first checks = first_failing sheet_refused (sheet_done (sheet_of s)) checks

  early_same : (n i : ℕ) → n ≤ 16 → i < n → early (table 16 n (lane_of s)) (table 16 n (arrival_of s)) i ≡ arrives_early s i
  early_same n i l h =
      any_same _ _ i λ e q.
      rw (
        table_used 16 n (lane_of s) l e (omega arith),
        table_used 16 n (lane_of s) l i h,
        table_used 16 n (arrival_of s) l e (omega arith),
        table_used
            16 n (arrival_of s) l i h,
      )

  module _ (few : cart_count s ≤ 16) where
    -- the sheet when all is read
    abbrev whole : Sheet
    whole = so_far (zone_count s) (cart_count s) (cart_count s) (cart_count s) 0

    whole_is : whole ≡ sheet_of s
    unfolding sheet_of
    whole_is = rw (passed_all s (zone_of s), passed_all s (passing_of s), passed_all s (travel_of s))

    abbrev spots : ℕ → List ℕ
    spots i = table 16 i (arrival_at s)

    lanes_agree : (n i : ℕ) → i + n ≡ cart_count s → lanes_from whole (spots (cart_count s)) n i ≡ first (each n i (lane_checks s))
    unfolding lanes_from each lane_checks first_failing
    lanes_agree zero i e = ap sheet_done whole_is
    lanes_agree (suc n) i e =
        rw (early_same (cart_count s) i few (omega arith), table_used 16 (cart_count s) (arrival_at s) few i (omega arith))
        (unless_checks (λ r. r) sheet_refused (sheet_done (sheet_of s)) 14 (in_cart i (arrival_at s i)) (arrives_early s i) _ (each n (i + 1) (lane_checks s))
        (lanes_agree n (i + 1) (omega arith)))

    abbrev last : List Check
    last = check 13 (end_at s) (eqb (end_at s) (length s)) ∷ each (cart_count s) 0 (lane_checks s)

    finish_agrees : finish s whole (spots (cart_count s)) (end_at s) ≡ first last
    unfolding finish
    finish_agrees = pick_checks (λ r. r) sheet_refused (sheet_done (sheet_of s)) 13 (outside (end_at s)) (eqb (end_at s) (length s)) _ _
        (lanes_agree (cart_count s) 0 (omega arith))

    -- the sheet when step j of cart i is next
    abbrev at_step : ℕ → ℕ → Sheet
    at_step i j = so_far (zone_count s) (cart_count s) (i + 1) i j

    -- the zones that the steps of cart i before step j name
    abbrev named_before : ℕ → ℕ → ℕ → Bool
    named_before i j z = any_below (λ e. eqb (zone_of s i e) z) j

    steps_agree : (i n j : ℕ) → i < 16 → step_count s i ≤ 8 → j + n ≡ step_count s i
        → (named : ℕ → Bool) → ((z : ℕ) → named z ≡ named_before i j z) → (go : Sheet → ℕ → SheetRead) (later : List Check)
        → go (at_step i (step_count s i)) (zone_at s i (step_count s i)) ≡ first later
        → steps_from s i (step_count s i) n j named (at_step i j) (zone_at s i j) go ≡ first (each n j (step_checks s i) ++ later)
    unfolding steps_from step_at each step_checks
    steps_agree i zero j hi hk e named same go later h = let q : j ≡ step_count s i = omega arith in rw q h
    steps_agree i (suc n) j hi hk e named same go later h =
        let third : passing_at s i j + 2 ≡ travel_at s i j = omega arith in
        let fourth : travel_at s i j + 2 ≡ zone_at s i (j + 1) = omega arith in
        simp append_assoc
        (taking_checks then Err done 1 s 1 (in_step i j (zone_at s i j)) 10 _ _ _ λ _ _.
        rw (same (zone_of s i j))
        (unless_checks then Err done 11 (in_step i j (zone_at s i j)) (is_named_before s i j) _ _
        (taking_checks then Err done 1 s 2 (in_step i j (passing_at s i j)) 12 _ _ _ λ _ _.
        rw third
        (taking_checks then Err done 1 s 2 (in_step i j (travel_at s i j)) 12 _ _ _ λ _ _.
        rw (
          fourth,
          passed_put s (zone_of s) i j hi (omega arith),
          passed_put s (passing_of s) i j hi (omega arith),
          passed_put s (travel_of s) i j hi
              (omega arith),
        )
        (steps_agree i n (j + 1) hi hk (omega arith) _
        (λ z. ap (λ (b : Bool). b || eqb z (zone_of s i j)) (same z) ∙ sym (among_more (zone_of s i) j z)) go later h)))))
      where
        done : SheetRead
        done = sheet_done (sheet_of s)

        then : Result (Step × Cursor) Outcome → SheetRead
        then r =
            on_part r λ step next.
            steps_from s i (step_count s i) n (j + 1) (λ z. named z || eqb z step.zone) (put_step (at_step i j) (8 * i + j) step) next.at go

    -- the sheet when cart i is next
    abbrev at_cart : ℕ → Sheet
    at_cart i = so_far (zone_count s) (cart_count s) i i 0

    carts_agree : (n i : ℕ) → i + n ≡ cart_count s → carts_from s n i (at_cart i) (spots i) (cart_at s i) ≡ first (each n i (cart_checks s) ++ last)
    unfolding carts_from head_at each cart_checks any_below
    carts_agree zero i e = let q : i ≡ cart_count s = omega arith in rw q finish_agrees
    carts_agree (suc n) i e =
        let second : arrival_at s i + 4 ≡ step_count_at s i = omega arith in
        let third : step_count_at s i + 1 ≡ zone_at s i 0 = omega arith in
        let below : i < 16 = omega arith in
        simp append_assoc
        (taking_checks then Err done 1 s 1 (in_cart i (lane_at s i)) 7 _ _ _ λ _ _.
        taking_checks then Err done 1 s 4 (in_cart i (arrival_at s i)) 8 _ _ _ λ _ _.
        rw second
        (taking_checks then Err done 1 s 1 (in_cart i (step_count_at s i)) 9 _ _ _ λ _ k.
        rw (
          third,
          table_next 16 (lane_of s) i (lane_of s i) _ below refl refl,
          table_next 16 (arrival_of s) i (arrival_of s i) _ below refl refl,
          table_next 16 (step_count s) i (step_count s i) _ below refl refl,
          table_next 16 (arrival_at s) i (arrival_at s i) _ below refl refl,
        )
        (steps_agree i (step_count s i) 0 below ((and_says _ _ (leb_says 1 (step_count s i)) (leb_says (step_count s i) 8)).0 k).1 (omega arith) _ (λ z. refl) _
        (each n (i + 1) (cart_checks s) ++ last) (next (carts_agree n (i + 1) (omega arith))))))
      where
        done : SheetRead
        done = sheet_done (sheet_of s)

        then : Result (CartHead × Cursor) Outcome → SheetRead
        then r =
            on_part r λ h c.
            steps_from s i h.steps h.steps 0 (λ z. false) (put_cart (at_cart i) i h) c.at λ sh at.
            carts_from s n (i + 1) sh (set (spots i) i h.place) at

        next : carts_from s n (i + 1) (at_cart (i + 1)) (spots (i + 1)) (cart_at s (i + 1)) ≡ first
            (each n (i + 1) (cart_checks s) ++ last) → carts_from s n (i + 1) (at_step i (step_count s i)) (spots (i + 1))
            (zone_at s i (step_count s i)) ≡ first (each n (i + 1) (cart_checks s) ++ last)
        next h = rw (← cart_next s i, passed_cart s (zone_of s) i, passed_cart s (passing_of s) i, passed_cart s (travel_of s) i) h

  -- what follows the gaps
  abbrev carts : List Check
  carts =
      field s (outside (cart_count_at s)) 1 6 is_cart_count
      ++ (each (cart_count s) 0 (cart_checks s) ++ (check 13 (end_at s) (eqb (end_at s) (length s)) ∷ each (cart_count s) 0 (lane_checks s)))

  count_agrees : count_from s (so_far (zone_count s) 0 0 0 0) (cart_count_at s) ≡ first carts
  unfolding count_from cart_at
  count_agrees =
      taking_checks (λ r. r) sheet_refused (sheet_done (sheet_of s)) 1 s 1 (outside (cart_count_at s)) 6 _ _ _ λ _ m.
      ap (λ (spot : List ℕ). carts_from s (cart_count s) 0 (so_far (zone_count s) (cart_count s) 0 0 0) spot (cart_count_at s + 1))
      (table_none 16 (arrival_at s))
      ∙ carts_agree (leb-true (cart_count s) 16 m) (cart_count s) 0 (omega arith)

  zones_agree : (n z : ℕ) → zone_count s ≤ 24 → z + n ≡ zone_count s → zones_from s n z (so_far z 0 0 0 0) (follow_at z) ≡ first
      (each n z (zone_checks s) ++ carts)
  unfolding zones_from each zone_checks
  zones_agree zero z l e = let q : z ≡ zone_count s = omega arith in rw q count_agrees
  zones_agree (suc n) z l e =
      let next : cross_at z + 2 ≡ follow_at (z + 1) = omega arith in
      let below : z < 24 = omega arith in
      simp append_assoc
      (taking_checks (λ r. r) sheet_refused (sheet_done (sheet_of s)) 1 s 2 (outside (follow_at z)) 5 _ _ _ λ _ _.
      taking_checks (λ r. r) sheet_refused (sheet_done (sheet_of s)) 1 s 2 (outside (cross_at z)) 5 _ _ _ λ _ _.
      rw (next, table_next 24 (follow_of s) z (follow_of s z) _ below refl refl, table_next 24 (cross_of s) z (cross_of s z) _ below refl refl)
      (zones_agree n (z + 1) l (omega arith)))

  pub scan_agrees : scan s ≡ read_sheet s
  unfolding scan opening_by read_sheet sheet_checks
  scan_agrees =
      simp append_assoc
      (taking_checks then Err done 1 s 1 (outside 0) 2 _ _ _ λ _ _.
      taking_checks then Err done 1 s 2 (outside 1) 3 _ _ _ λ _ _.
      taking_checks then Err done 1 s 1 (outside 3) 4 _ _ _ λ _ n.
      ap (λ (sh : Sheet). zones_from s (zone_count s) 0 sh 4) (sym nothing_yet)
      ∙ zones_agree (zone_count s) 0 ((and_says _ _ (leb_says 1 (zone_count s)) (leb_says (zone_count s) 24)).0 n).1 (omega arith))
    where
      done : SheetRead
      done = sheet_done (sheet_of s)

      then : Result (ℕ × Cursor) Outcome → SheetRead
      then r = on_opening sheet_refused r λ n c. zones_from s n 0 (with_zones blank n) c.at
