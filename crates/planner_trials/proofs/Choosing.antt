-- The choice is the order that the turn takes: the tables hold the run's entering times and spare times, and any run gives the same.
use Prim.Native.Nat.{ℕ, ◌+◌, ◌*◌, ◌≤◌, ◌<◌}
use mathlib.Core.Path.{◌≡◌, refl, sym, ap, subst, ◌∙◌}
use mathlib.Core.Bool.{Bool, true, false}
use mathlib.Core.List.{List, []}
use native.Mathlib.Omega.{arith}
use lib.ListN.{get_or, take, replicate}
use lib.Dec.{eqb}
use Rattle.sheet_table.specs.inner.Parts as parts
use Rattle.words.specs.Lists.{pick}
use Rattle.words.specs.inner.Limits.{latest_leaving}
use Rattle.sets.specs.inner.Member.{has}
use Rattle.moves.specs.System.{System, start}
use Rattle.moves.specs.Runs as moves
use Rattle.moves.specs.Runs.{after}
use Rattle.moves.specs.inner.Runs.{AllComeOut}
use Rattle.routes.specs.Crossing.{Crossing, steps, zone}
use Rattle.routes.specs.inner.Crossing.{Visits}
use Rattle.routes.specs.Moves.{system}
use Rattle.routes.proofs.Places.{named_says}
use Rattle.times.specs.Times.{Given, largest, finish}
use Rattle.times.proofs.Rules.{times_keep}
use Rattle.times.proofs.Largest.{largest_most}
use Rattle.crossing.specs.inner.Tables.{fronts_of, crossing_by, crossing_of, given_of}
use Rattle.crossing.specs.Plans.{given_by}
use Rattle.judge_entering.specs.Times.{times_of}
use Rattle.judge_entering.specs.inner.Times.{AtMost}
use Rattle.judge_running.proofs.Verdict.{settled_times}
use Rattle.judge_finish.specs.inner.Finish.{last_at, last_leaving, Leavable}
use Rattle.judge_finish.proofs.Finish.{finish_is}
use Rattle.removal.specs.Pairs.{Unplanned, Order}
use Rattle.removal.specs.Present.{present}
use Rattle.times.specs.Running.{is_out, moves_made, entering_time}
use Rattle.removal.specs.Spare.{spare_time}
use Rattle.removal.specs.Cost.{largest_cost}
use Rattle.removal.specs.Removal.{candidates, turn}
use Rattle.times.proofs.Running.{all_made}
use Rattle.removal.proofs.Present.{present_both}
use Rattle.removal.proofs.Spare.{SameAtSteps, spare_time_same}
use Rattle.removal.proofs.Turns.{on_taken}
use Rattle.planner_orders.specs.inner.Unplanned.{unplanned_of}
use Rattle.planner_orders.specs.inner.Holds.{Holds}
use Rattle.planner_orders.proofs.Settled.{goes_visits, present_system, present_times}
use Rattle.planner_spare.specs.inner.Rears.{rears_of}
use Rattle.planner_spare.specs.inner.Behind.{crossing_behind}
use Rattle.planner_spare.specs.inner.Runs.{SpareReady, SpareTimes}
use Rattle.planner_spare.proofs.Told.{spare_told}
use Rattle.planner_spare.proofs.Ready.{settled_ready}
use Rattle.planner_costs.specs.inner.Tables.{Tables, tables_of, InRange}
use Rattle.planner_costs.specs.inner.Choices.{ChosenBelow}
use Rattle.planner_costs.specs.declared.Choice.{Choice}
use Rattle.planner_costs.proofs.Group.{choice_none, choice_some}
use Rattle.planner_trials.specs.inner.Trying.{Told}
use Rattle.planner_trials.specs.inner.Turns.{RunsOut, Underway, Chooses, Chosen}
use Rattle.judge_one_move.specs.declared.Run.{Run}
use Rattle.std.specs.Prelude.{Option, Some, None}
use Rattle.planner_trials.proofs.Told.{on_tables, tabled, told_sound, run_says, holds_undecided}
use Rattle.sheet_table.specs.declared.Table.{Table}

module _ (sheet : Table) (ranks pairs visit ahead behind undecided : List ℕ) (run : Run) (runs : RunsOut (crossing_of sheet ahead) (given_of sheet) run) where
  abbrev X : Crossing
  X = crossing_of sheet ahead

  abbrev G : Given
  G = given_of sheet

  out : run.at ≡ (system X).out
  out = runs.out.0 refl

  -- some numbers of zones and carts, and what their group's trial has decided
  module _ (zones carts : ℕ) where
    abbrev U : Unplanned
    U = unplanned_of sheet zones carts

    module _ (told : Told U sheet ranks pairs visit)
        (low high : ℕ) (decided : List Order) (holds : Holds U low high decided ahead behind undecided) where
      abbrev Z : Crossing
      Z = present U low high decided

      all_out : is_out Z ≡ true
      all_out =
          run_says sheet ranks pairs visit ahead behind undecided run None runs U told low high decided holds

      leavable : Leavable (parts.steps sheet) (parts.passing sheet) run.enter
      leavable = record {
        steps_most = λ c _. told.routed.routes.few c;
        passing_most = told.passing_most;
        enter_most = runs.settled.enter_most;
      }

      behind_visits : (c j d : ℕ) → j < steps (crossing_behind sheet behind) c → has (get_or behind (8 * c + j) 0) d ≡ true
          → Visits (crossing_behind sheet behind) d (zone (crossing_behind sheet behind) c j)
      unfolding crossing_behind
      behind_visits c j d h is =
          (named_says (get_or U.routes d []) _).0 (goes_visits U low high decided _ c d (sym ((holds.at_step c j h).behind_is d) ∙ is)).1

      ready : (rears : List (Option ℕ)) → rears ≡ rears_of sheet → (finishing : ℕ) → finishing ≡ largest (last_leaving (parts.steps sheet) (parts.passing sheet) run.enter) 16
          → SpareReady sheet rears behind visit run.enter (take run.made run.order) finishing (replicate 128 0)
      ready rears rears_are finishing is =
          settled_ready sheet rears ahead behind visit G run.at run.left run.enter run.order run.made finishing runs.settled out told.routed
          told.places told.passing_most is behind_visits rears_are

      lanes_most : AtMost 15 (parts.lane sheet)
      unfolding given_by
      lanes_most = (told_sound sheet ranks pairs visit ahead behind undecided U told low high decided holds).ranged.lane_most

      finish_told : largest (last_leaving (parts.steps sheet) (parts.passing sheet) run.enter) 16 ≡ finish X G (times_of run.enter)
      finish_told =
          let sound = told_sound sheet ranks pairs visit ahead behind undecided U told low high decided holds in
          finish_is (parts.steps sheet) (parts.zone sheet) (fronts_of sheet) ahead (parts.lane sheet) (parts.arrival sheet) (parts.passing sheet)
          (parts.travel sheet)
          (parts.follow sheet) (parts.cross sheet) run.enter
          (times_keep X G sound.only (times_of run.enter) (settled_times X G run.at run.left run.enter run.order run.made runs.settled out))

      finish_most : largest (last_leaving (parts.steps sheet) (parts.passing sheet) run.enter) 16 ≤ latest_leaving
      finish_most = largest_most (last_leaving (parts.steps sheet) (parts.passing sheet) run.enter) 16 latest_leaving λ c _. one
          (eqb (get_or (parts.steps sheet) c 0) 0) c
        where
          one : (b : Bool) (c : ℕ) → pick b 0 (get_or run.enter (last_at (parts.steps sheet) c) 0 + get_or (parts.passing sheet)
              (last_at (parts.steps sheet) c) 0) ≤ latest_leaving
          one true c = omega arith
          one false c = omega (arith, runs.settled.enter_most (last_at (parts.steps sheet) c), told.passing_most (last_at (parts.steps sheet) c))

      module _ (finishing : ℕ) (spare : List ℕ) (is : finishing ≡ largest (last_leaving (parts.steps sheet) (parts.passing sheet) run.enter) 16)
          (spares : SpareTimes sheet behind run.enter (take run.made run.order) finishing spare) where
        abbrev T : Tables
        T = tables_of (parts.zone sheet) (parts.cross sheet) (parts.passing sheet) ranks visit undecided run.enter spare

        in_range : InRange T
        unfolding given_by
        in_range = record {
          zone_most = told.zone_most;
          cross_most = told.sheet_sized.ranged.cross_most;
          passing_most = told.passing_most;
          visit_most = λ y. omega (arith, told.places.below y);
          enter_most = runs.settled.enter_most;
          spare_most = λ x. omega (arith, spares.spare_most x, is, finish_most);
        }

        -- the times that the turn works out
        abbrev time : ℕ → ℕ → ℕ
        time = entering_time Z G (moves_made Z)

        times_same : SameAtSteps U.routes time (times_of run.enter)
        times_same c s h =
            sym (present_times _ _ _ _ _ _ _ _ zones carts low high decided ahead behind undecided holds _ _ _ _ _ runs.settled all_out c s h)

        -- the run over the tables
        abbrev run_made : AllComeOut (system Z) (start (system Z))
        run_made =
            let same = present_system _ _ _ _ _ _ _ _ zones carts low high decided ahead behind undecided holds in
            record {
              run = take run.made run.order;
              is_run = subst (λ (S : System). moves.Run S (start S) (take run.made run.order)) same runs.settled.is_run;
              ends = subst (λ (S : System). after (start S) (take run.made run.order) ≡ S.out) same (runs.settled.run_ends ∙ out);
            }

        finish_same : finishing ≡ finish Z G (times_of run.enter)
        unfolding finish crossing_by
        finish_same = is ∙ finish_told

        spares_same : SameAtSteps U.routes (spare_time Z G (moves_made Z) time) (times_of spare)
        unfolding given_by
        spares_same c j h =
            spare_time_same Z G told.sheet_sized.able.once (present_both U low high decided) (all_made Z all_out) run_made time (times_of run.enter)
            times_same c j h
            ∙ sym (spare_told sheet behind Z.before told.routed (λ c j d h. (holds.at_step c j h).behind_is d)
            run.enter (take run.made run.order) finishing spare
            spares G (λ c j. refl) finish_same c j h)

        turn_told : turn U low high decided ≡ on_taken U low high decided (largest_cost U time (spare_time Z G (moves_made Z) time) (candidates U low high decided))
        unfolding turn
        turn_told = refl

        chooses : (choice : Option Choice) → ChosenBelow T 128 choice → Chooses U low high decided (parts.zone sheet) choice
        chooses choice chosen =
            let by = tabled sheet ranks pairs visit U told in
            let held = holds_undecided U low high decided ahead behind undecided holds in
            record {
              none_left = λ e. turn_told ∙ ap (on_taken U low high decided) (choice_none U low high decided T by held time
                  (spare_time Z G (moves_made Z) time) times_same spares_same (rw e at chosen));
              taken = λ r e. turn_told ∙ ap (on_taken U low high decided) (choice_some U low high decided T by held time
                  (spare_time Z G (moves_made Z) time) times_same spares_same r (rw e at chosen));
            }

  -- ---- what the tables ask and tell, whatever the numbers of zones and carts are

  abbrev IsTold : Unplanned → Type 0
  IsTold W = Told W sheet ranks pairs visit

  -- what follows from a trial under way, for U's own numbers of zones and carts
  of_trial : (P : Type 0)
      → ((zones carts : ℕ) → IsTold (U zones carts) → (low high : ℕ) (decided : List Order) → Holds (U zones carts) low high decided ahead behind undecided → P)
      → Underway sheet ranks pairs visit ahead behind undecided → P
  of_trial P h trial =
      on_tables sheet ranks pairs visit
      (λ W. IsTold W → (low high : ℕ) (decided : List Order) → Holds W low high decided ahead behind undecided → P) h trial.U trial.told
      trial.told trial.low trial.high trial.decided trial.holds

  pub trial_leavable : Underway sheet ranks pairs visit ahead behind undecided → Leavable (parts.steps sheet) (parts.passing sheet) run.enter
  trial_leavable = of_trial _ leavable

  pub trial_lanes : Underway sheet ranks pairs visit ahead behind undecided → AtMost 15 (parts.lane sheet)
  trial_lanes = of_trial _ lanes_most

  pub trial_ready : (rears : List (Option ℕ)) → rears ≡ rears_of sheet → (finishing : ℕ) → finishing ≡ largest
      (last_leaving (parts.steps sheet) (parts.passing sheet) run.enter) 16
      → Underway sheet ranks pairs visit ahead behind undecided
      → SpareReady sheet rears behind visit run.enter (take run.made run.order) finishing (replicate 128 0)
  trial_ready rears rears_are finishing is =
      of_trial _ (λ zones carts told low high decided holds. ready zones carts told low high decided holds rears rears_are finishing is)

  pub trial_range : (finishing : ℕ) (spare : List ℕ) → finishing ≡ largest (last_leaving (parts.steps sheet) (parts.passing sheet) run.enter) 16
      → SpareTimes sheet behind run.enter (take run.made run.order) finishing spare
      → Underway sheet ranks pairs visit ahead behind undecided
      → InRange (tables_of (parts.zone sheet) (parts.cross sheet) (parts.passing sheet) ranks visit undecided run.enter spare)
  trial_range finishing spare is spares = of_trial _ (λ zones carts told low high decided holds. in_range zones carts told low high decided holds
      finishing spare is spares)

module _ (sheet : Table) (ranks visit behind undecided : List ℕ) (run : Run) (finishing : ℕ) (spare : List ℕ)
    (is : finishing ≡ largest (last_leaving (parts.steps sheet) (parts.passing sheet) run.enter) 16)
    (spares : SpareTimes sheet behind run.enter (take run.made run.order) finishing spare) where
  pub chosen_told : (choice : Option Choice) → ChosenBelow (tables_of (parts.zone sheet) (parts.cross sheet) (parts.passing sheet) ranks visit undecided
      run.enter spare) 128 choice
      → Chosen sheet ranks visit behind undecided run choice
  chosen_told choice chosen = record {
    candidate = λ r e.
        let is : ChosenBelow (tables_of (parts.zone sheet) (parts.cross sheet) (parts.passing sheet) ranks visit undecided run.enter spare) 128
        (Some r) = rw e at chosen in
        record { step_below = is.step_below; first_below = is.first_below; still_undecided = is.still_undecided };
    tells = λ pairs ahead runs_out W low high decided told holds.
        on_tables sheet ranks pairs visit
        (λ W. Told W sheet ranks pairs visit → Holds W low high decided ahead behind undecided
        → Chooses W low high decided (parts.zone sheet) choice)
        (λ zones carts told holds.
        chooses sheet ranks pairs visit ahead behind undecided run runs_out zones carts told low
        high decided holds finishing spare is spares choice chosen)
        W told told holds;
  }
