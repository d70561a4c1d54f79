-- A choice and one candidate more: the candidate is taken over the choice, or the choice stays.
use Prim.Native.Nat.{ℕ, ◌<◌}
use mathlib.Core.Path.{◌≡◌, refl, sym, ◌∙◌}
use mathlib.Core.Logic.{◌↔◌, ◌⊎◌, ⊎_elim}
use mathlib.Core.Bool.{Bool, true, false}
use lib.ListN.{get_or}
use lib.IntN.{ℤ}
use Rattle.std.specs.Prelude.{Option, Some, None}
use Rattle.sets.specs.inner.Member.{has}
use Rattle.judge_entering.specs.Times.{times_of}
use Rattle.removal.specs.Pairs.{Unplanned, Order}
use Rattle.removal.specs.Cost.{is_taken_over, cost}
use Rattle.planner_costs.specs.inner.Largest.{IsLargest}
use Rattle.planner_costs.specs.inner.Tables.{Tables, CostIs, order_at, Costable}
use Rattle.planner_costs.specs.inner.Choices.{is_taken_at, chosen, Chosen, IsChosen}
use Rattle.planner_costs.specs.declared.Choice.{Choice}
use Rattle.planner_costs.proofs.Strict.{clash}
use Rattle.planner_costs.proofs.Taken.{taken_asym}
use Rattle.planner_costs.proofs.Largest.{largest_as, largest_alone, largest_over, largest_stays}
use Rattle.planner_costs.proofs.Told.{clear_at, latest_at, told_carts, told_cost, told_taken}

module _ (T : Tables) where
  -- the same candidates, told otherwise
  pub chosen_as : {Candidate Other : Order → Type 0} → ((o : Order) → Candidate o ↔ Other o) → (r : Option Choice)
      → Chosen T Candidate r → Chosen T Other r
  chosen_as same None R = λ o c. R o ((same o).1 c)
  chosen_as same (Some r) R = record {
    step_below = R.step_below;
    first_below = R.first_below;
    still_undecided = R.still_undecided;
    largest = λ U K. largest_as U (times_of T.enter) (times_of T.spare) same (chosen T r) (R.largest U K);
  }

  module _ (x a : ℕ) (below : x < 128) (few : a < 16) (is : has (get_or T.undecided x 0) a ≡ true)
      (v : ℤ) (its_cost : CostIs (clear_at T x a) (latest_at T x) v)
      (Candidate More : Order → Type 0) (is-more : More (order_at T x a)) (either : (o : Order) → More o → Candidate o ⊎ (o ≡ order_at T x a)) where
    abbrev new : Choice
    new = record { cost = v; step = x; first = a }

    abbrev over : Option Choice → Bool
    over r = is_taken_at T.zone T.rank x a v r

    module _ (U : Unplanned) (K : Costable U T) where
      cost_told : v ≡ cost U (times_of T.enter) (times_of T.spare) (order_at T x a)
      cost_told = its_cost.value ∙ sym (told_cost U T K x a below is)

      taken_told : (r : Choice) → IsChosen T Candidate r → over (Some r) ≡ is_taken_over U (chosen T new) (chosen T r)
      taken_told r R = told_taken U T K.tabled x a v r (told_carts U T K x a below is) (told_carts U T K r.step r.first R.step_below R.still_undecided)

    pub chosen_over : (r : Option Choice) → Chosen T Candidate r → over r ≡ true → Chosen T More (Some new)
    chosen_over r R taken = record { step_below = below; first_below = few; still_undecided = is; largest = λ U K. largest U K r R taken }
      where
        largest : (U : Unplanned) → Costable U T → (r : Option Choice) → Chosen T Candidate r → over r ≡ true
            → IsLargest U (times_of T.enter) (times_of T.spare) More (chosen T new)
        largest U K None R taken =
            rw (cost_told U K)
            (largest_alone U _ _ More (order_at T x a) is-more (λ o m. ⊎_elim (λ c. absurd (R o c)) (λ e. e) (either o m)))
        largest U K (Some r) R taken =
            rw (cost_told U K)
            (largest_over U _ _ More (order_at T x a) is-more Candidate either (chosen T r) (R.largest U K)
            (rw (cost_told U K) at (taken_asym U (chosen T new) (chosen T r) (sym (taken_told U K r R) ∙ taken))))

    pub chosen_stays : ((o : Order) → Candidate o → More o) → (r : Option Choice) → Chosen T Candidate r → over r ≡ false → Chosen T More r
    chosen_stays all None R under = clash refl under
    chosen_stays all (Some r) R under = record {
      step_below = R.step_below;
      first_below = R.first_below;
      still_undecided = R.still_undecided;
      largest = λ U K.
          largest_stays U _ _ More (order_at T x a) is-more Candidate either (chosen T r) (R.largest U K)
          (all (order_at T r.step r.first) (R.largest U K).candidate)
          (rw (cost_told U K) at (sym (taken_told U K r R) ∙ under));
    }
