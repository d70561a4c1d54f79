-- A plan that is read has a valid sheet.
use Rattle.plan_reader.proofs.ReadLaws.{valid_sheet}
use Rattle.plan_reader.proofs.read_plan.Goals as goal

pub sheet_of-requires : goal.sheet_of-requires
sheet_of-requires c = valid_sheet _ _ _ _ _ c.in-Ok.ensures
