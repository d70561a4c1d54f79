use Rattle.sheet.proofs.Accepted.{done_valid}
use Rattle.sheet_reader.proofs.read_sheet.Goals as goal

pub sheet_of-requires : goal.sheet_of-requires
sheet_of-requires c = done_valid _ _ c.in-Ok.ensures
