-- A request under a readable plan: each test fails or passes, and what is said then.
use Prim.Native.Nat.{ℕ, ◌+◌, ◌≤◌, ◌<◌}
use mathlib.Core.Path.{◌≡◌, refl, sym, ap, ◌∙◌}
use mathlib.Core.Logic.{◌↔◌}
use mathlib.Core.Bool.{Bool, true, false, not-eq-not, false≢true}
use mathlib.Core.List.{List, [], ◌∷◌}
use native.Mathlib.Decide.{dec_lt}
use native.Mathlib.Omega.{arith}
use lib.ListN.{get_or}
use Rattle.std.specs.Prelude.{Option, Some, None, is_some}
use borrow.Author.Tests.{ltb-true, lt-ltb, le-ltb}
use Rattle.words.specs.Checks.{check, done, refused, first_failing, AllPass}
use Rattle.words.proofs.First.{first_pass}
use Rattle.moves.specs.System.{System, pos}
use Rattle.moves.specs.Moves.{Permitted, is_permitted}
use Rattle.moves.proofs.Moves.{permitted_says}
use Rattle.routes.specs.Crossing.{Crossing, steps}
use Rattle.routes.specs.Moves.{system}
use Rattle.routes.proofs.Moves.{moves_some}
use Rattle.times.specs.Running as running
use Rattle.crossing.specs.inner.Tables.{sheet_fronts, sheet_crossing}
use Rattle.crossing.specs.Plans.{sheet_given}
use Rattle.crossing.specs.inner.Sound.{Sound}
use Rattle.crossing.proofs.Tables.{steps_is}
use Rattle.crossing.proofs.Permitted.{out_permitted}
use Rattle.crossing.proofs.Plans.{plan_sound, plan_system_lem}
use Rattle.sheet.specs.Valid as valid
use Rattle.sheet.specs.Valid.{Valid}
use Rattle.sheet.specs.declared.Sheet.{Sheet}
use Rattle.plan.specs.Valid.{ValidOrders}
use Rattle.plan.specs.declared.Orders.{Orders}
use Rattle.plan.proofs.Visitors.{step_valid}
use Rattle.judge_one_move.specs.inner.Standing.{Standing}
use Rattle.moving_record.specs.Record.{is_reached}
use Rattle.moving_record.specs.inner.Tables.{Orderly, TestedAs}
use Rattle.moving_record.specs.declared.Record.{Record}
use Rattle.moving_record.proofs.Few.{reached_few}
use Rattle.judge.specs.Judging.{plan_system, is_out}
use Rattle.judge.proofs.Verdict.{out_at, tables_out}
use Rattle.moving_asking.specs.inner.Tables.{WantsZone, held_by, no_move}
use Rattle.moving_asking.specs.Asking.{has_moved, not_moved, record_checks}
use Rattle.moving_asking.specs.inner.Held.{tested_of, ask_of}
use Rattle.moving_asking.proofs.Ahead.{ahead_counted}

module _ (sheet : Sheet) (v : Valid sheet) (cart : ℕ) (present : cart < sheet.carts) where
  pub cart_few : cart < 16
  cart_few = omega (arith, v.carts_most)

module _ (sheet : Sheet) (orders : Orders) (v : Valid sheet) (w : ValidOrders sheet orders) where
  abbrev X : Crossing
  X = sheet_crossing sheet orders.ahead

  abbrev S : System
  S = plan_system sheet orders

  sound : Sound X (sheet_given sheet)
  sound = plan_sound sheet v orders w

  pub sheet_orderly : Orderly sheet.steps sheet.zone sheet.lane orders.ahead
  sheet_orderly = record {
    steps_16 = v.shaped.steps_16;
    once = sound.once;
    only = sound.only;
    zone_below = sound.zone_below;
    steps_most = sound.ranged.steps_most;
  }

  module _ (lent : Record) where
    -- ---- the record

    reached_is : (tested : Option (List ℕ)) → TestedAs X lent tested → is_reached S lent ≡ is_some tested
    reached_is tested test = sym (ap (λ (T : System). is_reached T lent) (plan_system_lem sheet v orders w)) ∙ sym test.reached_is

    pub tested_standing : (left : List ℕ) → TestedAs X lent (Some left) → Standing X lent.position left
    tested_standing left test = record {
      once = sound.once;
      only = sound.only;
      zone_below = sound.zone_below;
      steps_most = sound.ranged.steps_most;
      left_is = test.left_is;
    }

    module _ (cart : ℕ) where
      -- where the cart stands, and how many steps it has
      abbrev p : ℕ
      p = get_or lent.position cart 0

      abbrev k : ℕ
      k = get_or sheet.steps cart 0

      last : cart < sheet.carts → pos S.out cart ≡ k + 1
      last present = out_at sheet orders cart (cart_few sheet v cart present) ∙ moves_some k (λ e. omega (arith, (v.cart cart present).steps_least, e))

      -- ---- each way out of the test of record and cart; `run` is whether all carts come out

      module _ (run : Bool) (run_is : run ≡ running.is_out X) where
        out_is : run ≡ is_out sheet orders
        out_is = run_is ∙ tables_out sheet orders v w

        pub locked_is : run ≡ false → tested_of sheet orders lent cart ≡ refused 22 0
        unfolding first_failing
        locked_is locked = rw (sym out_is ∙ locked)

        module _ (accepted : run ≡ true) where
          out : is_out sheet orders ≡ true
          out = sym out_is ∙ accepted

          pub unreached_is : TestedAs X lent None → tested_of sheet orders lent cart ≡ refused 23 0
          unfolding first_failing
          unreached_is test = rw (out, reached_is None test)

          module _ (left : List ℕ) (test : TestedAs X lent (Some left)) where
            reached : is_reached S lent ≡ true
            reached = reached_is (Some left) test

            pub absent_is : sheet.carts ≤ cart → tested_of sheet orders lent cart ≡ refused 24 0
            unfolding first_failing
            absent_is past = rw (out, reached, le-ltb cart sheet.carts past)

            module _ (present : cart < sheet.carts) where
              pub already_is : k < p → tested_of sheet orders lent cart ≡ refused 25 0
              unfolding first_failing
              already_is past = rw (out, reached, lt-ltb cart sheet.carts present, le-ltb p (pos S.out cart) (omega (arith, last present)))

              pub inside_is : p ≤ k → tested_of sheet orders lent cart ≡ done
              unfolding first_failing
              inside_is inside = rw (out, reached, lt-ltb cart sheet.carts present, lt-ltb p (pos S.out cart) (omega (arith, last present)))

      -- ---- where the checks pass

      module _ (passed : AllPass (record_checks sheet orders lent cart)) where
        present : cart < sheet.carts
        present = ltb-true cart sheet.carts passed.1.1.0

        pub tested_cart : cart < 16
        tested_cart = cart_few sheet v cart present

        pub tested_place : p ≤ 8
        tested_place = omega (arith, ltb-true p (pos S.out cart) passed.1.1.1.0, last present, (v.cart cart present).steps_most)

        pub made_few : lent.made ≤ 144
        made_few =
            reached_few sheet.steps sheet.zone sheet.lane orders.ahead sheet_orderly lent
            (ap (λ (T : System). is_reached T lent) (plan_system_lem sheet v orders w) ∙ passed.1.0)

        module _ (may : Bool) (says : (may ≡ true) ↔ Permitted (system X) lent.position cart) where
          permitted_is : is_permitted S lent.position cart ≡ may
          permitted_is = go may refl
            where
              same : system X ≡ S
              same = plan_system_lem sheet v orders w

              go : (b : Bool) → may ≡ b → is_permitted S lent.position cart ≡ b
              go true e = (permitted_says S lent.position cart).1 (rw same at (says.0 e))
              go false e = (not-eq-not {b = false}).0 (λ t. false≢true (sym e ∙ says.1 (rw same ((permitted_says S lent.position cart).0 t))))

          own_decides : ask_of sheet orders lent cart ≡ first_failing (not_moved sheet orders lent cart) (has_moved lent cart) (check 26 0 may ∷ [])
          own_decides =
              first_pass (not_moved sheet orders lent cart) (has_moved lent cart) (record_checks sheet orders lent cart) _ passed
              ∙ ap (λ (b : Bool). first_failing (not_moved sheet orders lent cart) (has_moved lent cart) (check 26 0 b ∷ [])) permitted_is

          pub moved_is : may ≡ true → has_moved lent cart ≡ ask_of sheet orders lent cart
          unfolding first_failing
          moved_is e = sym (own_decides ∙ rw e)

          module _ (held : may ≡ false) where
            -- the move out is always permitted, so the cart wants a zone
            wants : p < k
            wants = go (dec_lt p k)
              where
                counted : steps X cart ≡ k
                counted = steps_is sheet.steps sheet.zone (sheet_fronts sheet) orders.ahead cart tested_cart

                go : Dec (p < k) → p < k
                go (yes h) = h
                go (no n) =
                    let m = out_permitted sheet.steps sheet.zone (sheet_fronts sheet) orders.ahead sound.once sound.only lent.position cart
                    tested_cart (omega (arith, counted, (v.cart cart present).steps_least))
                    (omega (arith, n, ltb-true p (pos S.out cart) passed.1.1.1.0, last present, counted)) in
                    absurd (false≢true (sym held ∙ says.1 m))

            pub held_wanting : WantsZone sheet.zone lent.position cart
            held_wanting = record {
              cart = tested_cart;
              step = omega (arith, wants, (v.cart cart present).steps_most);
              known = omega (arith, (step_valid sheet v cart p wants).zone_below, v.zones_most);
            }

            pub held_is : (left : List ℕ) → Standing X lent.position left → (n : ℕ)
                → n ≡ held_by X sheet.zone orders.ahead lent.position left cart → no_move (refused 26 0) n ≡ ask_of sheet orders lent cart
            unfolding first_failing
            held_is left standing n is =
                let counted =
                is ∙ ahead_counted sheet v orders w lent.position cart tested_cart wants _ (standing.left_is (valid.zone sheet cart p)) in
                ap (no_move (refused 26 0)) counted ∙ sym (own_decides ∙ rw held)
