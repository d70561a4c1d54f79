-- A candidate of the table is an undecided pair of U, and its steps stand where they are looked up; so each direction is decided and tried.
use Prim.Native.Nat.{ℕ, ◌+◌, ◌*◌, ◌/◌, ◌%◌, ◌<◌}
use mathlib.Core.Path.{◌≡◌, sym, ap, ap₂, ◌∙◌}
use mathlib.Core.Bool.{Bool, true, false, true≢false}
use mathlib.Core.Option.{Option, none}
use mathlib.Core.List.{List, ◌∷◌}
use native.Mathlib.Nat.{div-add-mod}
use lib.ListN.{get_or}
use Rattle.sheet_table.specs.inner.Parts as parts
use Rattle.sets.specs.inner.Member.{has}
use Rattle.routes.specs.Crossing.{steps, zone}
use Rattle.times.specs.Times.{Given}
use Rattle.crossing.specs.inner.Tables.{crossing_of, given_of}
use Rattle.removal.specs.Pairs.{Unplanned, Order, opposite}
use Rattle.removal.specs.Present.{present, is_undecided}
use Rattle.times.specs.Running.{is_out}
use Rattle.removal.specs.While.{Turn, more, stop}
use Rattle.removal.specs.Removal.{decide}
use Rattle.removal.proofs.Pairs.{pair_says}
use Rattle.removal.proofs.Candidates as of-removal
use Rattle.planner_orders.specs.inner.Unplanned.{unordered}
use Rattle.planner_orders.specs.inner.Holds.{Holds}
use Rattle.planner_orders.specs.inner.Deciding as tables
use Rattle.planner_orders.proofs.Added.{undecided_turned}
use Rattle.planner_trials.specs.inner.Trying.{Told}
use Rattle.judge_verdict.specs.inner.Verdict.{Runs}
use Rattle.crossing.specs.inner.Sound.{Sound}
use Rattle.planner_trials.specs.inner.Turns.{order_of, comes_out, Candidate, Underway, Decided}
use Rattle.judge_one_move.specs.declared.Run.{Run}
use Rattle.std.specs.Prelude.{Option as Maybe}
use Rattle.planner_trials.proofs.Told.{step_is, told_sound, run_says, undecided_step}
use Rattle.sheet_table.specs.declared.Table.{Table}

module _ (U : Unplanned) (low high : ℕ) (decided : List Order) (o : Order) where
  -- what is decided, by whether all come out with the opposite and with the order itself
  abbrev by_out : Bool → Bool → Turn (List Order) (Option (List Order))
  by_out opposite-out this-out =
      elim opposite-out [
        | true ↦ more (opposite o ∷ decided)
        | false ↦ elim this-out [ true ↦ more (o ∷ decided) | false ↦ stop none ]
      ]

  abbrev out_with : Order → Bool
  out_with p = is_out (present U low high (p ∷ decided))

  decide_opposite : out_with (opposite o) ≡ true → decide U low high decided o ≡ more (opposite o ∷ decided)
  unfolding decide
  decide_opposite e = ap (λ (a : Bool). by_out a (out_with o)) e

  decide_this : out_with (opposite o) ≡ false → (b : Bool) → out_with o ≡ b → decide U low high decided o ≡ by_out false b
  unfolding decide
  decide_this e b f = ap₂ by_out e f

module _ (sheet : Table) (ranks pairs visit ahead behind undecided : List ℕ) (step first : ℕ)
    (candidate : Candidate undecided step first) where
  -- where the first cart's step in the zone stands
  abbrev other : ℕ
  other = get_or visit (16 * get_or (parts.zone sheet) step 0 + first) 0

  abbrev o : Order
  o = order_of (parts.zone sheet) step first

  module _ (U : Unplanned) (told : Told U sheet ranks pairs visit)
      (low high : ℕ) (decided : List Order) (holds : Holds U low high decided ahead behind undecided) where
    is_step : step % 8 < steps (unordered U) (step / 8)
    is_step = undecided_step U low high decided ahead behind undecided holds step first candidate.step_below candidate.still_undecided

    there : zone (unordered U) (step / 8) (step % 8) ≡ get_or (parts.zone sheet) step 0
    there =
        sym (step_is sheet ranks pairs visit U told (step / 8) (step % 8) is_step).zone_at
        ∙ ap (λ (x : ℕ). get_or (parts.zone sheet) x 0) (div-add-mod step 8)

    pair_undecided : is_undecided U low high decided o.zone first (step / 8) ≡ true
    pair_undecided =
        ap (λ (z : ℕ). is_undecided U low high decided z first (step / 8)) (sym there)
        ∙ sym ((holds.at_step (step / 8) (step % 8) is_step).undecided_is first)
        ∙ ap (λ (x : ℕ). has (get_or undecided x 0) first) (div-add-mod step 8)
        ∙ candidate.still_undecided

    first_at : tables.StepAt U o.zone first other
    first_at =
        let is = (of-removal.undecided_says U low high decided o.zone first (step / 8)).0 pair_undecided in
        let (((j, h, at), _), _) = (pair_says U o.zone first (step / 8)).0 is.is_in_lem.pair in
        let own = step_is sheet ranks pairs visit U told first j h in
        record {
          step = j;
          is_step = h;
          there = at;
          at = rw (own.zone_at, at) at (told.places.step_at first j own.cart own.in_table);
        }

    -- the opposite of the order, as it is decided
    pub decidable_opposite : tables.Candidate U low high decided (opposite o) other step
    decidable_opposite = record {
      undecided = undecided_turned U low high decided o.zone (step / 8) first ∙ pair_undecided;
      second = first_at;
      first = record { step = step % 8; is_step = is_step; there = there; at = sym (div-add-mod step 8) };
    }

module _ (sheet : Table) (visit ahead behind undecided : List ℕ) (step first : ℕ)
    (candidate : Candidate undecided step first) (ahead₁ behind₁ undecided₁ : List ℕ)
    (decides : tables.Decides (get_or visit (16 * get_or (parts.zone sheet) step 0 + first) 0) step ahead behind undecided ahead₁ behind₁ undecided₁) where
  abbrev G : Given
  G = given_of sheet

  -- the order of which the opposite is decided first
  abbrev taken : Order
  taken = order_of (parts.zone sheet) step first

  abbrev Answers : List ℕ → List ℕ → List ℕ → Run → Maybe ℕ → Type 0
  Answers = Decided sheet visit ahead behind undecided step first

  module _ (ranks pairs : List ℕ) (U : Unplanned) (low high : ℕ) (decided : List Order)
      (told : Told U sheet ranks pairs visit)
      (holds : Holds U low high decided ahead behind undecided) where
    opposite_candidate : tables.Candidate U low high decided (opposite taken) (get_or visit (16 * get_or (parts.zone sheet) step 0 + first) 0) step
    opposite_candidate =
        decidable_opposite sheet ranks pairs visit ahead behind undecided step first candidate U told low high decided holds

    opposite_held : Holds U low high (opposite taken ∷ decided) ahead₁ behind₁ undecided₁
    opposite_held = decides.holds U low high decided (opposite taken) opposite_candidate holds

    says : (ahead' behind' : List ℕ) (all : List Order) → Holds U low high all ahead' behind' undecided₁ → (run : Run) (stuck : Maybe ℕ)
        → Runs (crossing_of sheet ahead') G run stuck → is_out (present U low high all) ≡ comes_out stuck
    says ahead' behind' all held run stuck runs =
        run_says sheet ranks pairs visit ahead' behind' undecided₁ run stuck runs U told low high all held

  module _ (trial : (ranks : List ℕ) × (pairs : List ℕ) × Underway sheet ranks pairs visit ahead behind undecided) where
    pub opposite_sound : Sound (crossing_of sheet ahead₁) G
    opposite_sound =
        let (ranks, pairs, t) = trial in
        told_sound sheet ranks pairs visit ahead₁ behind₁ undecided₁ t.U t.told t.low t.high _
        (opposite_held ranks pairs t.U t.low t.high t.decided t.told t.holds)

  module _ (run : Run) (stuck : Maybe ℕ) (runs : Runs (crossing_of sheet ahead₁) G run stuck) where
    -- "Decide the opposite."
    pub opposite_decided : comes_out stuck ≡ true → Answers ahead₁ behind₁ undecided₁ run stuck
    opposite_decided out = record {
      runs = runs;
      decides = λ ranks pairs U low high decided told holds.
          let held = opposite_held ranks pairs U low high decided told holds in
          let is = says ranks pairs U low high decided told holds ahead₁ behind₁ _ held run stuck runs in
          record {
            one_more = λ _. (opposite taken ∷ decided, (decide_opposite U low high decided taken (is ∙ out), held));
            fails = λ e. absurd (true≢false (sym out ∙ e));
          };
    }

    -- "If the moves now have a cycle, decide this direction instead. If that has one too," the trial has failed
    module _ (was_stuck : comes_out stuck ≡ false) (ahead₂ behind₂ : List ℕ)
        (turns : tables.TurnsRound (get_or visit (16 * get_or (parts.zone sheet) step 0 + first) 0) step ahead₁ behind₁ ahead₂ behind₂) where
      this_held : (ranks pairs : List ℕ) (U : Unplanned) (low high : ℕ) (decided : List Order)
          → Told U sheet ranks pairs visit
          → Holds U low high decided ahead behind undecided → Holds U low high (taken ∷ decided) ahead₂ behind₂ undecided₁
      this_held ranks pairs U low high decided told holds =
          turns.holds U low high decided (opposite taken) undecided₁ (opposite_candidate ranks pairs U low high decided told holds)
          (opposite_held ranks pairs U low high decided told holds)

      pub this_sound : (trial : (ranks : List ℕ) × (pairs : List ℕ) × Underway sheet ranks pairs visit ahead behind undecided)
          → Sound (crossing_of sheet ahead₂) G
      this_sound (ranks, pairs, t) =
          told_sound sheet ranks pairs visit ahead₂ behind₂ undecided₁ t.U t.told t.low t.high _
          (this_held ranks pairs t.U t.low t.high t.decided t.told t.holds)

      pub this_decided : (again : Run) (stuck' : Maybe ℕ) → Runs (crossing_of sheet ahead₂) G again stuck' → Answers ahead₂ behind₂ undecided₁ again stuck'
      this_decided again stuck' runs-again = record {
        runs = runs-again;
        decides = λ ranks pairs U low high decided told holds.
            let held = this_held ranks pairs U low high decided told holds in
            let was = says ranks pairs U low high decided told holds ahead₁ behind₁ _ (opposite_held ranks pairs U low high decided told holds)
            run stuck runs ∙ was_stuck in
            let is = says ranks pairs U low high decided told holds ahead₂ behind₂ _ held again stuck' runs-again in
            record {
              one_more = λ out. (taken ∷ decided, (decide_this U low high decided taken was true (is ∙ out), held));
              fails = λ again-stuck. decide_this U low high decided taken was false (is ∙ again-stuck);
            };
      }
