-- What the tables tell of U's routes, and what a run over the orders that they hold tells of U.
use Prim.Native.Nat.{ℕ, ◌+◌, ◌*◌, ◌/◌, ◌%◌, ◌<◌}
use mathlib.Core.Path.{◌≡◌, refl, sym, ap, subst, ◌∙◌}
use mathlib.Core.Logic.{◌↔◌}
use mathlib.Core.Bool.{Bool, true, false, true≢false, not}
use mathlib.Core.List.{List, []}
use native.Mathlib.Decide.{dec_lt}
use native.Mathlib.Nat.{mod-lt, div-add-mod}
use native.Mathlib.Omega.{arith}
use lib.ListN.{length, get_or}
use Rattle.sheet_table.specs.inner.Parts as parts
use Rattle.sets.specs.inner.Member.{has}
use Rattle.sets.proofs.Laws.{has_none}
use Rattle.moves.specs.System.{System}
use Rattle.routes.specs.Crossing.{steps, zone}
use Rattle.times.specs.Times.{Given}
use Rattle.crossing.specs.inner.Tables.{fronts_of, crossing_by, crossing_of, given_of}
use Rattle.crossing.specs.Plans.{given_by}
use Rattle.crossing.specs.inner.Sound.{Sound}
use Rattle.crossing.proofs.Tables.{step_below, steps_is, zone_is}
use Rattle.removal.specs.Pairs.{Unplanned, Order}
use Rattle.removal.specs.Present.{present}
use Rattle.times.specs.Running.{is_out}
use Rattle.planner_orders.specs.inner.Unplanned.{unplanned_of, unordered}
use Rattle.planner_orders.specs.inner.Holds.{Holds}
use Rattle.planner_orders.proofs.Settled.{present_system, present_sound, present_out}
use Rattle.planner_costs.specs.inner.Tables.{route, Tabled, HoldsUndecided}
use Rattle.planner_trials.specs.inner.Trying.{Told}
use Rattle.judge_verdict.specs.inner.Verdict.{Runs}
use Rattle.judge_one_move.specs.declared.Run.{Run}
use Rattle.std.specs.Prelude.{Option, Some, None}
use Rattle.std.specs.Option.{is_some}
use Rattle.planner_trials.specs.inner.Turns.{comes_out}
use Rattle.sheet_table.specs.declared.Table.{Table}

-- two tests that hold together are the same
same_test : (a b : Bool) → (a ≡ true) ↔ (b ≡ true) → a ≡ b
same_test true b h = sym (h.0 refl)
same_test false true h = h.1 refl
same_test false false h = refl

-- where all come out none is stuck
pub none_out : (stuck : Option ℕ) → comes_out stuck ≡ true → stuck ≡ None
none_out None e = refl
none_out (Some c) e = absurd (true≢false (sym e))

pub out_is : (stuck : Option ℕ) (b : Bool) → is_some stuck ≡ b → comes_out stuck ≡ not b
out_is None false e = refl
out_is None true e = absurd (true≢false (sym e))
out_is (Some c) true e = refl
out_is (Some c) false e = absurd (true≢false e)

module _ (sheet : Table) (ranks pairs visit : List ℕ) where
  abbrev IsTold : Unplanned → Type 0
  IsTold U = Told U sheet ranks pairs visit

  abbrev G : Given
  G = given_of sheet

  -- what holds for whatever numbers of zones and carts holds for U's
  pub on_tables : (P : Unplanned → Type 0) → ((zones carts : ℕ) → P (unplanned_of sheet zones carts))
      → (U : Unplanned) → IsTold U → P U
  on_tables P of-all U told = subst P (sym told.is) (of-all U.zones U.carts)

  -- a step of U's is the tables'
  pub record StepIs (U : Unplanned) (c j : ℕ) : Type 0 where
    pub cart : c < 16
    pub in_table : j < get_or (parts.steps sheet) c 0
    pub zone_at : get_or (parts.zone sheet) (8 * c + j) 0 ≡ zone (unordered U) c j

  pub step_is : (U : Unplanned) → IsTold U → (c j : ℕ) → j < steps (unordered U) c → StepIs U c j
  unfolding crossing_by
  step_is =
      on_tables (λ U. (c j : ℕ) → j < steps (unordered U) c → StepIs U c j) λ _ _ c j h.
      let l = step_below (parts.steps sheet) (parts.zone sheet) (fronts_of sheet) [] c j h in
      record {
        cart = l;
        in_table = omega (arith, steps_is (parts.steps sheet) (parts.zone sheet) (fronts_of sheet) [] c l);
        zone_at = sym (zone_is (parts.steps sheet) (parts.zone sheet) (fronts_of sheet) [] c l j h);
      }

  pub tabled : (U : Unplanned) → IsTold U → Tabled U (parts.zone sheet) (parts.cross sheet) (parts.passing sheet) ranks visit
  unfolding given_by
  tabled U told = record {
    carts_most = told.sheet_sized.carts_most;
    steps_most = told.sheet_sized.ranged.steps_most;
    present = λ c j h. told.sheet_sized.able.cart_below c _ (j, h, refl);
    once = told.sheet_sized.able.once;
    zone_below = λ c j h. told.sheet_sized.able.zone_below c _ (j, h, refl);
    zone_is = λ c j h. (step_is U told c j h).zone_at;
    visit_is = λ c j h.
        let is = step_is U told c j h in
        rw is.zone_at at (told.places.step_at c j is.cart is.in_table);
    passing_is = λ c j _. passing_is U told c j;
    cross_is = λ z _. cross_is U told z;
    rank_is = told.has_ranks.at_cart;
  }
    where
      passing_is : (U : Unplanned) → IsTold U → (c j : ℕ) → get_or (parts.passing sheet) (8 * c + j) 0 ≡ U.given.passing c j
      passing_is = on_tables (λ U. (c j : ℕ) → get_or (parts.passing sheet) (8 * c + j) 0 ≡ U.given.passing c j) (λ _ _ c j. refl)

      cross_is : (U : Unplanned) → IsTold U → (z : ℕ) → get_or (parts.cross sheet) z 0 ≡ U.given.cross z
      cross_is = on_tables (λ U. (z : ℕ) → get_or (parts.cross sheet) z 0 ≡ U.given.cross z) (λ _ _ z. refl)

  module _ (ahead behind undecided : List ℕ) where
    -- carts may run over the tables
    pub told_sound : (U : Unplanned) → IsTold U → (low high : ℕ) (decided : List Order) → Holds U low high decided ahead behind undecided
        → Sound (crossing_of sheet ahead) G
    told_sound U told =
        on_tables (λ U. (low high : ℕ) (decided : List Order) → Holds U low high decided ahead behind undecided → Sound (crossing_of sheet ahead) G)
        (λ zones carts low high decided holds.
        present_sound _ _ _ _ _ _ _ _ zones carts low high decided ahead behind undecided holds told.steps_16)
        U told

    -- the run tells whether all come out over the orders present
    pub run_says : (run : Run) (stuck : Option ℕ) → Runs (crossing_of sheet ahead) G run stuck
        → (U : Unplanned) → IsTold U → (low high : ℕ) (decided : List Order) → Holds U low high decided ahead behind undecided
        → is_out (present U low high decided) ≡ comes_out stuck
    run_says run stuck runs =
        on_tables (λ U. (low high : ℕ) (decided : List Order) → Holds U low high decided ahead behind undecided → is_out (present U low high decided) ≡ comes_out stuck)
        (λ zones carts low high decided holds.
        let same = ap (λ (S : System). S.out) (present_system _ _ _ _ _ _ _ _ zones carts low high decided ahead behind undecided holds) in
        let says = present_out _ _ _ _ _ _ _ _ zones carts low high decided ahead behind undecided holds _ _ _ _ _ runs.settled in
        same_test _ _ (λ e. ap comes_out (runs.out.1 (says.0 e ∙ sym same)), λ e. says.1 (runs.out.0 (none_out stuck e) ∙ same)))

-- the table holds what is undecided in a group
module _ (U : Unplanned) (low high : ℕ) (decided : List Order) (ahead behind undecided : List ℕ) (holds : Holds U low high decided ahead behind undecided) where
  no_step : (x : ℕ) → x < 128 → ¬ (x % 8 < length (route U (x / 8))) → get_or undecided x 0 ≡ 0
  no_step x below past =
      ap (λ (y : ℕ). get_or undecided y 0) (sym (div-add-mod x 8)) ∙ (holds.unused (x / 8) (x % 8) (mod-lt x (omega arith)) (omega (arith, past))).2

  pub holds_undecided : HoldsUndecided U low high decided undecided
  holds_undecided = record {
    at_step = λ c j d h. (holds.at_step c j h).undecided_is d;
    elsewhere = λ x d below past. rw (no_step x below past) (has_none d);
  }

  -- where something is undecided there is a step
  pub undecided_step : (x d : ℕ) → x < 128 → has (get_or undecided x 0) d ≡ true → x % 8 < steps (unordered U) (x / 8)
  undecided_step x d below is =
      elim (dec_lt (x % 8) (steps (unordered U) (x / 8))) [
        | yes l ↦ l
        | no past ↦ absurd (true≢false (sym is ∙ holds_undecided.elsewhere x d below past))
      ]
