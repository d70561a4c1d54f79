-- The blank sheet is the definition's.
use Rattle.sheet.proofs.sheet_refused.Goals as goal

pub returns : goal.returns
returns c = rw c.blank_sheet-sheet.ensures
