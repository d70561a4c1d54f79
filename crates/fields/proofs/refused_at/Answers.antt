-- What is named is the refusal at the cursor's place.
use Rattle.fields.proofs.refused_at.Goals as goal

pub returns : goal.returns
returns c = rw (c.named.ensures, c.refused.ensures)
