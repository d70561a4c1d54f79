-- The facts that spare times are made of, as one value.
use Rattle.std.specs.Prelude.{ℕ, ◌<◌, List, get_or}
use Rattle.sheet_table.specs.inner.Parts as parts
use Rattle.planner_spare.specs.inner.Steps.{least_in, SpareTables}
use Rattle.planner_spare.specs.inner.Runs.{SpareReady, SpareTimes}
use Rattle.planner_spare.specs.declared.SpareFacts.{SpareFacts}

module _ (f : SpareFacts) where
  -- what is asked of the tables, at step j of cart c
  pub record StepOf (c j : ℕ) : Type 0 where
    pub tables : SpareTables f.sheet.now f.rears.now f.behind.now f.visit.now f.enter.now f.finish
    pub is_cart : c < 16
    pub is_step : j < get_or (parts.steps f.sheet.now) c 0

  -- the step's spare time, from those of the steps after it
  abbrev pub least_of_step : List ℕ → ℕ → ℕ → ℕ
  least_of_step spare c j = least_in f.sheet.now f.rears.now f.behind.now f.visit.now f.enter.now spare f.finish c j

  abbrev pub ReadyBy : List ℕ → List ℕ → Type 0
  ReadyBy order spare = SpareReady f.sheet.now f.rears.now f.behind.now f.visit.now f.enter.now order f.finish spare

  abbrev pub TimesBy : List ℕ → List ℕ → Type 0
  TimesBy order spare = SpareTimes f.sheet.now f.behind.now f.enter.now order f.finish spare
