-- An opened group starts its trial; and where all its pairs are decided the group can be closed.
use Prim.Native.Nat.{ℕ}
use mathlib.Core.Path.{◌≡◌, sym, ◌∙◌}
use mathlib.Core.Bool.{Bool, true, false, true≢false}
use mathlib.Core.Option.{some}
use mathlib.Core.List.{List}
use Rattle.times.specs.Times.{Given}
use Rattle.crossing.specs.inner.Tables.{crossing_of, given_of}
use Rattle.removal.specs.Pairs.{Unplanned, Order}
use Rattle.removal.specs.Removal.{trial}
use Rattle.removal.proofs.Starts.{group_starts}
use Rattle.removal.proofs.Trial.{Tried, trial_starts, trial_tried, before_closed, tried_solved}
use Rattle.planner_orders.specs.inner.Holds.{Holds}
use Rattle.planner_orders.proofs.Groups.{leaves_group, solved_below}
use Rattle.planner_groups.specs.inner.Opening.{Opens}
use Rattle.planner_trials.specs.inner.Trying.{Told, Solved, Triable, Tries}
use Rattle.judge_verdict.specs.inner.Verdict.{Runs}
use Rattle.crossing.specs.inner.Sound.{Sound}
use Rattle.planner_trials.specs.inner.Turns.{OnTrial, AllTried, OpenedTried}
use Rattle.judge_one_move.specs.declared.Run.{Run}
use Rattle.std.specs.Prelude.{Option}
use Rattle.planner_trials.proofs.Told.{told_sound, run_says, none_out}
use Rattle.sheet_table.specs.declared.Table.{Table}

module _ (sheet : Table) (ranks pairs visit : List ℕ) (low high : ℕ) (ahead₀ behind₀ undecided₀ : List ℕ)
    (triable : Triable sheet ranks pairs visit low high ahead₀ behind₀ undecided₀) where
  abbrev G : Given
  G = given_of sheet

  abbrev IsTold : Unplanned → Type 0
  IsTold U = Told U sheet ranks pairs visit

  module _ (ahead behind undecided : List ℕ) (opens : Opens low high ranks pairs ahead₀ behind₀ undecided₀ ahead behind undecided) where
    opened : (U : Unplanned) → IsTold U → (decided : List Order) → Solved U low decided ahead₀ behind₀ undecided₀ → Holds U low high decided ahead
        behind undecided
    opened U told decided solved =
        opens.holds U decided told.has_ranks told.has_pairs triable.rising (solved_below U low decided solved.below) solved.holds

    abbrev held : Holds triable.U low high triable.decided ahead behind undecided
    held = opened triable.U triable.told triable.decided triable.solved

    pub opened_sound : Sound (crossing_of sheet ahead) G
    opened_sound = told_sound sheet ranks pairs visit ahead behind undecided triable.U triable.told low high triable.decided held

    -- all come out at the start
    pub opened_trial : (run : Run) (stuck : Option ℕ) → Runs (crossing_of sheet ahead) G run stuck → OnTrial sheet ranks visit ahead behind undecided run
    opened_trial run stuck runs = record {
      pairs = pairs;
      underway = record { U = triable.U; low = low; high = high; decided = triable.decided; told = triable.told; holds = held };
      runs_out =
          let out =
          sym (run_says sheet ranks pairs visit ahead behind undecided run stuck runs triable.U triable.told low high triable.decided held)
          ∙ group_starts triable.U triable.told.sheet_sized.able low high triable.decided triable.rising triable.solved.below in
          rw (none_out stuck out) at runs;
    }

    pub opened_tried : (ahead' behind' undecided' : List ℕ) (found : Bool)
        → AllTried sheet ranks visit ahead behind undecided ahead' behind' undecided' found
        → OpenedTried sheet ranks pairs visit low high ahead₀ behind₀ undecided₀ ahead' behind' undecided' found
    opened_tried ahead' behind' undecided' found all = record {
      ends = λ U told decided solved. all.ends pairs U low high decided told (opened U told decided solved);
    }

  -- every pair of the group is decided, and the tables hold the orders below the next group
  module _ (U : Unplanned) (told : IsTold U) (decided : List Order) (solved : Solved U low decided ahead₀ behind₀ undecided₀)
      (all : List Order) (is : trial U low high decided ≡ some all) where
    tried : Tried U told.sheet_sized.able low high decided all
    tried = trial_tried U told.sheet_sized.able low high decided (trial_starts U told.sheet_sized.able low high decided triable.rising
        solved.below) all is

    closed : (ahead behind undecided : List ℕ) → Holds U low high all ahead behind undecided → Solved U high all ahead behind undecided
    closed ahead behind undecided holds = record {
      below = tried_solved U told.sheet_sized.able low high decided triable.rising solved.below all tried;
      holds =
          leaves_group U low high all ahead behind undecided
          (before_closed U told.sheet_sized.able low high decided triable.rising solved.below all tried) tried.none_left holds;
    }

  module _ (ahead behind undecided : List ℕ) (found : Bool)
      (by : OpenedTried sheet ranks pairs visit low high ahead₀ behind₀ undecided₀ ahead behind undecided found) where
    pub group_tried : found ≡ true
        → Tries sheet ranks pairs visit low high ahead₀ behind₀ undecided₀ ahead behind undecided true
    group_tried yes-found = record {
      tried = λ U told decided solved.
          let (all, (is, holds)) = (by.ends U told decided solved).some_orders yes-found in
          record {
            some_orders = λ _. (all, (is, closed U told decided solved all is ahead behind undecided holds));
            no_orders = λ e. absurd (true≢false e);
          };
    }

    -- the tables are put back
    pub group_failed : found ≡ false
        → Tries sheet ranks pairs visit low high ahead₀ behind₀ undecided₀ ahead₀ behind₀ undecided₀ false
    group_failed None-found = record {
      tried = λ U told decided solved. record {
        some_orders = λ e. absurd (true≢false (sym e));
        no_orders = λ _. ((by.ends U told decided solved).no_orders None-found, solved);
      };
    }
