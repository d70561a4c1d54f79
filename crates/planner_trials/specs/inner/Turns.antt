-- The turns of a trial over tables: the run over the orders present, the choice of the order that is taken, and its decision.
use Rattle.std.specs.Prelude.{ℕ, ◌/◌, ◌<◌, ◌≡◌, Bool, true, false, List, get_or, Option, Some, None}
use Rattle.std.proofs.Math.Option.{none, some}
use Rattle.sheet_table.specs.inner.Parts as parts
use Rattle.sets.specs.inner.Member.{has}
use Rattle.routes.specs.Crossing.{Crossing}
use Rattle.times.specs.Times.{Given}
use Rattle.crossing.specs.inner.Tables.{crossing_of, given_of}
use Rattle.removal.specs.Pairs.{Unplanned, Order}
use Rattle.removal.specs.While.{more, stop}
use Rattle.removal.specs.Removal.{decide, turn, trial}
use Rattle.planner_orders.specs.inner.Holds.{Holds}
use Rattle.planner_costs.specs.declared.Choice.{Choice}
use Rattle.planner_trials.specs.inner.Trying.{Told, Solved}
use Rattle.judge_verdict.specs.inner.Verdict.{Runs}
use Rattle.judge_one_move.specs.declared.Run.{Run}
use Rattle.sheet_table.specs.declared.Table.{Table}

-- a run over the orders present in which all carts come out
abbrev pub RunsOut : Crossing → Given → Run → Type 0
RunsOut X G run = Runs X G run None

-- whether all carts come out, where none is stuck or one is
abbrev pub comes_out : Option ℕ → Bool
comes_out None = true
comes_out (Some c) = false

-- the order of cart `first` before the cart of the step at `step`, in the step's zone
abbrev pub order_of : List ℕ → ℕ → ℕ → Order
order_of zone step first = record { zone = get_or zone step 0; first = first; second = step / 8 }

-- it is of an undecided pair, as the table tells
pub record Candidate (undecided : List ℕ) (step first : ℕ) : Type 0 where
  pub step_below : step < 128
  pub first_below : first < 16
  pub still_undecided : has (get_or undecided step 0) first ≡ true

-- "Take the direction of largest cost": what a choice tells of the turn, that no pair is left to decide, or which order is taken
pub record Chooses (U : Unplanned) (low high : ℕ) (decided : List Order) (zone : List ℕ) (choice : Option Choice) : Type 0 where
  pub none_left : choice ≡ None → turn U low high decided ≡ stop (some decided)
  pub taken : (r : Choice) → choice ≡ Some r → turn U low high decided ≡ decide U low high decided (order_of zone r.step r.first)

-- "Decide the opposite. If the moves now have a cycle, decide this direction instead.": the tables hold the order decided, or both directions have a cycle
pub record Decides (U : Unplanned) (low high : ℕ) (decided : List Order) (o : Order) (ahead behind undecided : List ℕ) (out : Bool) : Type 0 where
  pub one_more : out ≡ true → (next : List Order) × ((decide U low high decided o ≡ more next) × Holds U low high next ahead behind undecided)
  pub fails : out ≡ false → decide U low high decided o ≡ stop none

-- "While a pair is undecided": the trial gave its orders, which the tables hold, or none
pub record Ends (U : Unplanned) (low high : ℕ) (decided : List Order) (ahead behind undecided : List ℕ) (found : Bool) : Type 0 where
  pub some_orders : found ≡ true
      → (all : List Order) × ((trial U low high decided ≡ some all) × Holds U low high all ahead behind undecided)
  pub no_orders : found ≡ false → trial U low high decided ≡ none

module _ (sheet : Table) (ranks pairs visit ahead behind undecided : List ℕ) where
  -- the group of some U is tried: the tables tell of U, and hold the orders decided so far
  pub record Underway : Type 0 where
    pub U : Unplanned
    pub low : ℕ
    pub high : ℕ
    pub decided : List Order
    pub told : Told U sheet ranks pairs visit
    pub holds : Holds U low high decided ahead behind undecided

  -- a claim for every U whose group is tried so
  abbrev pub OfAll : ((U : Unplanned) (low high : ℕ) (decided : List Order) → Type 0) → Type 0
  OfAll Claim = (U : Unplanned) (low high : ℕ) (decided : List Order) → Told U sheet ranks pairs visit
      → Holds U low high decided ahead behind undecided → Claim U low high decided

-- an order is chosen, whatever the tables are that it does not look at: what is asked, and what the choice tells
module _ (sheet : Table) (ranks visit behind undecided : List ℕ) (run : Run) where
  pub record Choosable : Type 0 where
    pub pairs : List ℕ
    pub ahead : List ℕ
    pub underway : Underway sheet ranks pairs visit ahead behind undecided
    pub runs_out : RunsOut (crossing_of sheet ahead) (given_of sheet) run

  pub record Chosen (choice : Option Choice) : Type 0 where
    pub candidate : (r : Choice) → choice ≡ Some r → Candidate undecided r.step r.first
    pub tells : (pairs ahead : List ℕ)
        → RunsOut (crossing_of sheet ahead) (given_of sheet) run
        → OfAll sheet ranks pairs visit ahead behind undecided
        (λ U low high decided. Chooses U low high decided (parts.zone sheet) choice)

-- one of its two directions is decided: what is asked, and what the run that follows tells
module _ (sheet : Table) (visit ahead behind undecided : List ℕ) (step first : ℕ) where
  pub record Decidable : Type 0 where
    pub ranks : List ℕ
    pub pairs : List ℕ
    pub underway : Underway sheet ranks pairs visit ahead behind undecided
    pub candidate : Candidate undecided step first

  pub record Decided (ahead' behind' undecided' : List ℕ) (run : Run) (stuck : Option ℕ) : Type 0 where
    pub runs : Runs (crossing_of sheet ahead') (given_of sheet) run stuck
    pub decides : (ranks pairs : List ℕ) → OfAll sheet ranks pairs visit ahead behind undecided
        (λ U low high decided. Decides U low high decided (order_of (parts.zone sheet) step first) ahead' behind' undecided' (comes_out stuck))

-- orders are decided until no pair is left undecided: what is asked, and what the tables hold then
module _ (sheet : Table) (ranks visit ahead behind undecided : List ℕ) where
  pub record OnTrial (run : Run) : Type 0 where
    pub pairs : List ℕ
    pub underway : Underway sheet ranks pairs visit ahead behind undecided
    pub runs_out : RunsOut (crossing_of sheet ahead) (given_of sheet) run

  pub record AllTried (ahead' behind' undecided' : List ℕ) (found : Bool) : Type 0 where
    pub ends : (pairs : List ℕ) → OfAll sheet ranks pairs visit ahead behind undecided
        (λ U low high decided. Ends U low high decided ahead' behind' undecided' found)

-- the group is opened and its pairs are tried, where the ranks below it are solved
module _ (sheet : Table) (ranks pairs visit : List ℕ) (low high : ℕ) (ahead behind undecided : List ℕ) where
  pub record OpenedTried (ahead' behind' undecided' : List ℕ) (found : Bool) : Type 0 where
    pub ends : (U : Unplanned) → Told U sheet ranks pairs visit
        → (decided : List Order) → Solved U low decided ahead behind undecided → Ends U low high decided ahead' behind' undecided' found
