-- Where the table holds what is undecided in a group, the tables' candidates are the group's, and the choice is the order that is taken.
use Prim.Native.Nat.{ℕ, ◌+◌, ◌*◌, ◌/◌, ◌%◌, ◌<◌}
use mathlib.Core.Path.{◌≡◌, refl, sym, ◌∙◌}
use mathlib.Core.Logic.{◌↔◌}
use mathlib.Core.Bool.{true}
use mathlib.Core.Option.{none, some}
use Rattle.std.specs.Prelude.{Option, Some, None}
use mathlib.Core.List.{List}
use native.Mathlib.Decide.{dec_lt}
use native.Mathlib.Omega.{arith}
use lib.ListN.{length, get_or}
use Rattle.words.proofs.Tables.{row_at}
use Rattle.sets.specs.inner.Member.{has}
use Rattle.judge_entering.specs.Times.{times_of}
use Rattle.removal.specs.Pairs.{Unplanned, Order}
use Rattle.removal.specs.Present.{is_undecided}
use Rattle.removal.specs.Cost.{largest_cost}
use Rattle.removal.specs.Removal.{candidates}
use Rattle.removal.proofs.Pairs.{Visiting, pair_says}
use Rattle.removal.proofs.Candidates.{IsCandidate, undecided_says}
use Rattle.removal.proofs.Spare.{SameAtSteps}
use Rattle.planner_costs.specs.inner.Tables.{Tables, CandidateBelow, route, Tabled, Costable, HoldsUndecided}
use Rattle.planner_costs.specs.inner.Choices.{chosen, Chosen, ChosenBelow}
use Rattle.planner_costs.specs.declared.Choice.{Choice}
use Rattle.planner_costs.proofs.Strict.{clash}
use Rattle.planner_costs.proofs.Taken.{same_order}
use Rattle.planner_costs.proofs.Largest.{largest_none, largest_told}
use Rattle.planner_costs.proofs.Candidates.{among_candidates}
use Rattle.planner_costs.proofs.SameTimes.{largest_same}
use Rattle.planner_costs.proofs.Told.{told_carts}
use Rattle.planner_costs.proofs.Choosing.{chosen_as}

module _ (U : Unplanned) (low high : ℕ) (decided : List Order) where
  visited : (o : Order) → IsCandidate U low high decided o → Visiting U o.first o.zone × Visiting U o.second o.zone
  visited o u = ((pair_says U o.zone o.first o.second).0 u.undecided.is_in_lem.pair).0

  module _ (T : Tables) (K : Tabled U T.zone T.cross T.passing T.rank T.visit) (H : HoldsUndecided U low high decided T.undecided) where
    module _ (x a : ℕ) (below : x < 128) (is : has (get_or T.undecided x 0) a ≡ true) where
      place : 8 * (x / 8) + x % 8 ≡ x
      place = omega arith

      is_step : x % 8 < length (route U (x / 8))
      is_step =
          elim (dec_lt (x % 8) (length (route U (x / 8)))) [
            | yes l ↦ l
            | no l ↦ clash is (H.elsewhere x a below l)
          ]

      step_zone : get_or (route U (x / 8)) (x % 8) 0 ≡ get_or T.zone x 0
      step_zone = sym (rw place at (K.zone_is (x / 8) (x % 8) is_step))

      still_undecided : is_undecided U low high decided (get_or T.zone x 0) a (x / 8) ≡ true
      still_undecided = rw step_zone at (sym (rw place at (H.at_step (x / 8) (x % 8) a is_step)) ∙ is)

    group_costable : Costable U T
    group_costable = record {
      tabled = K;
      is_step = is_step;
      are_pairs = λ x a below is. ((undecided_says U low high decided _ a (x / 8)).0 (still_undecided x a below is)).is_in_lem.pair;
    }

    on : (o : Order) → CandidateBelow T 128 o → IsCandidate U low high decided o
    on o c =
        let carts = told_carts U T group_costable c.step o.first c.step_below c.still_undecided in
        rw c.is_order (record {
          zone_below = rw (step_zone c.step o.first c.step_below c.still_undecided) at
              (K.zone_below _ _ (is_step c.step o.first c.step_below c.still_undecided));
          first_below = carts.0;
          second_below = carts.1;
          undecided = (undecided_says U low high decided _ _ _).0 (still_undecided c.step o.first c.step_below c.still_undecided);
        })

    back : (o : Order) → IsCandidate U low high decided o → CandidateBelow T 128 o
    back o u =
        let (j, l, there) = (visited o u).1 in
        let few : j < 8 = omega (arith, K.steps_most o.second) in
        record {
          step = 8 * o.second + j;
          step_below = omega (arith, u.second_below, K.carts_most);
          still_undecided = H.at_step o.second j o.first l ∙ rw there ((undecided_says U low high decided o.zone o.first o.second).1
              u.undecided);
          is_order = same_order o _ (sym (K.zone_is o.second j l ∙ there)) refl (sym (row_at o.second j few));
        }

    group_candidates : (o : Order) → CandidateBelow T 128 o ↔ IsCandidate U low high decided o
    group_candidates o = (on o, back o)

    among : (r : Option Choice) → ChosenBelow T 128 r → Chosen T (IsCandidate U low high decided) r
    among = chosen_as T group_candidates

    -- by any times that the tables hold
    module _ (t spare : ℕ → ℕ → ℕ) (same : SameAtSteps U.routes t (times_of T.enter))
        (same-spare : SameAtSteps U.routes spare (times_of T.spare)) where
      by_tables : largest_cost U t spare (candidates U low high decided) ≡ largest_cost U (times_of T.enter) (times_of T.spare)
          (candidates U low high decided)
      by_tables = largest_same U _ _ _ _ same same-spare (candidates U low high decided) (λ o m. visited o ((among_candidates U low high decided o).0 m))

      pub choice_none : ChosenBelow T 128 None → largest_cost U t spare (candidates U low high decided) ≡ none
      choice_none R = by_tables ∙ (largest_none U _ _ (candidates U low high decided)).1
          (λ o m. among None R o ((among_candidates U low high decided o).0 m))

      pub choice_some : (r : Choice) → ChosenBelow T 128 (Some r) → largest_cost U t spare (candidates U low high decided) ≡ some (chosen T r)
      choice_some r R =
          by_tables
          ∙ largest_told U _ _ (candidates U low high decided) (among_candidates U low high decided) (λ o u. (u.first_below, u.second_below))
          (chosen T r) ((among (Some r) R).largest U group_costable)
