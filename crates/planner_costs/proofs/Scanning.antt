-- The candidates looked at so far: those of the steps below x, and of the step at x those that are not left.
use Prim.Native.Nat.{ℕ, ◌+◌, ◌≤◌, ◌<◌}
use mathlib.Core.Path.{◌≡◌, refl, sym, ap, ◌∙◌}
use mathlib.Core.Logic.{◌⊎◌, inl, inr}
use mathlib.Core.Bool.{true, false, and-true, and-false, not-eq-not}
use native.Mathlib.Decide.{ℕ_discrete}
use native.Mathlib.Omega.{arith}
use lib.ListN.{get_or}
use lib.IntN.{ℤ}
use Rattle.std.specs.Prelude.{Option, Some, None}
use borrow.Author.Tests.{eq-eqb, ne_eqb}
use mir.Syntax.{w32}
use mir.Val.{to_z, of_z, SFits}
use mir.ValLaws.{to_z-of_z}
use Rattle.words.proofs.Tests.{and_both}
use Rattle.sets.specs.inner.Member.{has, Within, Lowest, Rest}
use Rattle.sets.proofs.Laws.{has_none}
use Rattle.removal.specs.Pairs.{Order}
use Rattle.planner_costs.specs.inner.Tables.{Tables, CostIs, order_at, CandidateBelow}
use Rattle.planner_costs.specs.inner.Choices.{is_taken_at, Chosen}
use Rattle.planner_costs.specs.declared.Choice.{Choice}
use Rattle.planner_costs.proofs.Strict.{clash}
use Rattle.planner_costs.proofs.Told.{clear_at, latest_at}
use Rattle.planner_costs.proofs.Choosing.{chosen_as, chosen_over, chosen_stays}

-- a number stored by its bits
abbrev bits : ℤ → ℤ
bits v = to_z w32 (of_z w32 v)

module _ (T : Tables) where
  pub chosen_none : Chosen T (CandidateBelow T 0) None
  chosen_none o c = omega (arith, c.step_below)

  module _ (x : ℕ) where
    abbrev here : ℕ
    here = get_or T.undecided x 0

    abbrev Here : ℕ → Order → Type 0
    Here others o = (has here o.first ≡ true) × (has others o.first ≡ false) × (o ≡ order_at T x o.first)

    abbrev Seen : ℕ → Order → Type 0
    Seen others o = CandidateBelow T x o ⊎ Here others o

    -- the scan of a step's set: what is left is part of the set, and the choice is among what is seen
    abbrev pub Scanned : ℕ → Option Choice → Type 0
    Scanned others r = Within others here × Chosen T (Seen others) r

    next : (o : Order) → CandidateBelow T x o → CandidateBelow T (x + 1) o
    next o c = record { step = c.step; step_below = omega (arith, c.step_below); still_undecided = c.still_undecided; is_order = c.is_order }

    pub scan_start : (r : Option Choice) → Chosen T (CandidateBelow T x) r → Scanned here r
    scan_start r R = (λ d h. h, chosen_as T (λ o. (inl, back o)) r R)
      where
        back : (o : Order) → Seen here o → CandidateBelow T x o
        back o (inl c) = c
        back o (inr h) = clash h.0 h.1

    pub scan_end : (others : ℕ) → others ≤ 0 → (r : Option Choice) → Scanned others r → Chosen T (CandidateBelow T (x + 1)) r
    scan_end others none r (_, R) = chosen_as T (λ o. (on o, back o)) r R
      where
        empty : (d : ℕ) → has others d ≡ false
        empty d = let is : others ≡ 0 = omega arith in rw is (has_none d)

        on : (o : Order) → Seen others o → CandidateBelow T (x + 1) o
        on o (inl c) = next o c
        on o (inr h) = record { step = x; step_below = omega arith; still_undecided = h.0; is_order = h.2 }

        back : (o : Order) → CandidateBelow T (x + 1) o → Seen others o
        back o c =
            elim (ℕ_discrete c.step x) [
              | yes e ↦ inr (rw e at c.still_undecided, empty o.first, rw e at c.is_order)
              | no e ↦ inl (record { step = c.step; step_below = omega (arith, c.step_below); still_undecided = c.still_undecided; is_order = c.is_order })
            ]

    -- nothing is undecided at the step
    pub scan_skip : here ≤ 0 → (r : Option Choice) → Chosen T (CandidateBelow T x) r → Chosen T (CandidateBelow T (x + 1)) r
    scan_skip none r R = scan_end here none r (scan_start r R)

    -- the lowest of what is left is looked at
    module _ (others rest a : ℕ) (low : Lowest others a) (less : Rest others rest) where
      lowest_gone : has rest a ≡ false
      lowest_gone = less.others a low a ∙ rw (eq-eqb a a refl) (and-false (has others a))

      other_stays : (d : ℕ) → ¬ (d ≡ a) → has rest d ≡ has others d
      other_stays d n = less.others a low d ∙ rw (ne_eqb d a n) (and-true (has others d))

      rest_within : (d : ℕ) → has rest d ≡ true → has others d ≡ true
      rest_within d h = (and_both (has others d) _ (sym (less.others a low d) ∙ h)).0

      gone_stays : (o : Order) → Here others o → Here rest o
      gone_stays o (h, n, e) = (h, (not-eq-not {b = false}).0 (λ t. clash (rest_within o.first t) n), e)

      all_stay : (o : Order) → Seen others o → Seen rest o
      all_stay o (inl c) = inl c
      all_stay o (inr h) = inr (gone_stays o h)

      either : (o : Order) → Seen rest o → Seen others o ⊎ (o ≡ order_at T x a)
      either o (inl c) = inl (inl c)
      either o (inr (h, n, e)) =
          elim (ℕ_discrete o.first a) [
            | yes q ↦ inr (e ∙ ap (order_at T x) q)
            | no q ↦ inl (inr (h, sym (other_stays o.first q) ∙ n, e))
          ]

      -- the cost is passed on and stored by its bits
      module _ (below : x < 128) (few : a < 16) (v : ℤ) (fits : SFits w32 v) (its_cost : CostIs (clear_at T x a) (latest_at T x) v) (r : Option Choice)
          (scanned : Scanned others r) where
        is_here_lem : has here a ≡ true
        is_here_lem = scanned.0 a low.member

        within : Within rest here
        within d h = scanned.0 d (rest_within d h)

        same : bits v ≡ v
        same = to_z-of_z w32 v fits

        pub scan_over : is_taken_at T.zone T.rank x a (bits v) r ≡ true → Scanned rest (Some (record { cost = bits v; step = x; first = a }))
        scan_over over = (
          within,
          rw same
              (chosen_over T x a below few is_here_lem v its_cost (Seen others) (Seen rest) (inr (is_here_lem, lowest_gone, refl)) either r scanned.1
              (rw same at over)),
        )

        pub scan_stays : is_taken_at T.zone T.rank x a (bits v) r ≡ false → Scanned rest r
        scan_stays under = (
          within,
          chosen_stays T x a below few is_here_lem v its_cost (Seen others) (Seen rest) (inr (is_here_lem, lowest_gone, refl)) either all_stay r scanned.1
              (rw same at under),
        )
