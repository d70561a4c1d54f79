-- The order that is taken, as a choice among the tables' candidates.
use Rattle.std.specs.Prelude.{ℕ, ◌<◌, ◌≡◌, Bool, true, List, get_or, ℤ, Option, Some, None}
use Rattle.std.specs.Int.Signed.{lt_z}
use Rattle.sets.specs.inner.Member.{has}
use Rattle.sheet_table.specs.inner.Parts as parts
use Rattle.judge_entering.specs.Times.{times_of}
use Rattle.removal.specs.Pairs.{Unplanned, Order}
use Rattle.removal.specs.Cost.{Costed, level}
use Rattle.planner_costs.specs.inner.Largest.{IsLargest}
use Rattle.planner_costs.specs.inner.Tables.{Tables, tables_of, InRange, wins_tie, order_at, CandidateBelow, Costable}
use Rattle.planner_costs.specs.declared.Choice.{Choice}
use Rattle.planner_costs.specs.declared.CostFacts.{CostFacts}

-- the tables that the facts lend
abbrev pub tables_in : CostFacts → Tables
tables_in f = tables_of (parts.zone f.sheet.now) (parts.cross f.sheet.now) (parts.passing f.sheet.now) f.rank.now f.visit.now
    f.undecided.now f.enter.now f.spare.now

-- "Take the direction of largest cost; ties go to": whether cart a before the cart of the step at x, at this cost, is taken over a choice; over none it is
abbrev pub is_taken_at : List ℕ → List ℕ → ℕ → ℕ → ℤ → Option Choice → Bool
is_taken_at zone rank x a cost None = true
is_taken_at zone rank x a cost (Some r) = level (lt_z r.cost cost) (lt_z cost r.cost) (wins_tie zone rank x a r.step r.first)

module _ (T : Tables) where
  -- the order of a choice, with its cost
  abbrev pub chosen : Choice → Costed
  chosen r = record { order = order_at T r.step r.first; cost = r.cost }

  -- the candidate of largest cost, by the costs and ranks of any U that the tables tell of
  pub record IsChosen (Candidate : Order → Type 0) (r : Choice) : Type 0 where
    pub step_below : r.step < 128
    pub first_below : r.first < 16
    pub still_undecided : has (get_or T.undecided r.step 0) r.first ≡ true
    pub largest : (U : Unplanned) → Costable U T → IsLargest U (times_of T.enter) (times_of T.spare) Candidate (chosen r)

  -- it, or none where there is no candidate
  abbrev pub Chosen : (Order → Type 0) → Option Choice → Type 0
  Chosen Candidate None = (o : Order) → Candidate o → ⊥
  Chosen Candidate (Some r) = IsChosen Candidate r

  -- the choice among the candidates of the steps below n
  abbrev pub ChosenBelow : ℕ → Option Choice → Type 0
  ChosenBelow n r = Chosen (CandidateBelow T n) r

  -- what is asked before the candidates of the step at x are looked at
  pub record Choosing (x : ℕ) (r : Option Choice) : Type 0 where
    pub in_range : InRange T
    pub is_step : x < 128
    pub so_far : ChosenBelow x r
