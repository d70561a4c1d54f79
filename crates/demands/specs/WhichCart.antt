-- Request #104: "Each refusal from 1 to 14 that stands inside a cart's part of the sheet returns that cart's number plus one, and its step plus one when it
-- is inside a step, else 0. The field reader says so itself and every operation passes it on."
use Rattle.std.specs.Prelude.{ℕ, List}
use Rattle.sheet.specs.Told.{Told}
use Rattle.sheet.specs.declared.SheetRead.{SheetRead}
use Rattle.plan.specs.declared.PlanRead.{PlanRead}
use Rattle.plan_writer.specs.declared.PlanWritten.{PlanWritten}
use Rattle.plan_zone_list.specs.declared.ListFound.{ListFound}
use Rattle.judge.specs.declared.Judged.{Judged}
use Rattle.planner.specs.declared.Planned.{Planned}
use Rattle.planner.specs.declared.Rule.{Rule}
use Rattle.moving_record.specs.declared.Record.{Record}
use Rattle.moving_asking.specs.declared.Asked.{Asked}
use Rattle.moving_why.specs.declared.Chain.{Chain}
use Rattle.demands.specs.DemandOne.{ReadingASheet, ReadingAPlan, WritingAgain, FindingAList, JudgingAPlan, PlanningASheet}
use Rattle.net.specs.declared.NetRun.{NetRun}
use Rattle.demands.specs.DemandOne.{AskingToMove, AskingWhy, MovingACart, NettingAPlan}

-- of each public operation that tells an outcome, for every input, by demand 1's promise alone
pub record CartTold : Type 0 where
  pub sheet_read : (s : List ℕ) (r : SheetRead) → ReadingASheet s r → Told s r.outcome
  pub plan_read : (s p : List ℕ) (r : PlanRead) → ReadingAPlan s p r → Told s r.outcome
  pub written_again : (s p room : List ℕ) (r : PlanWritten) (after : List ℕ) → WritingAgain s p room r after → Told s r.outcome
  pub list_found : (s p : List ℕ) (zone : ℕ) (r : ListFound) → FindingAList s p zone r → Told s r.outcome
  pub judged : (s p words : List ℕ) (r : Judged) (after : List ℕ) → JudgingAPlan s p words r after → Told s r.outcome
  pub planned : (rule : Rule) (s room : List ℕ) (r : Planned) (after : List ℕ) → PlanningASheet rule s room r after → Told s r.outcome
  pub asked : (s p : List ℕ) (lent : Record) (cart : ℕ) (r : Asked) → AskingToMove s p lent cart r → Told s r.outcome
  pub why_told : (s p : List ℕ) (lent : Record) (cart : ℕ) (r : Chain) → AskingWhy s p lent cart r → Told s r.outcome
  pub moved : (s p : List ℕ) (lent : Record) (cart : ℕ) (r : Asked) (after : Record) → MovingACart s p lent cart r after → Told s r.outcome
  pub netted : (s p room : List ℕ) (r : NetRun) (after : List ℕ) → NettingAPlan s p room r after → Told s r.outcome
