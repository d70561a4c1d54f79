-- The scan is done and leaves the rest to what follows the carts; its refusal is the answer.
use Rattle.sheet_carts.proofs.read_carts.Goals as goal

pub returns : goal.returns
returns c = rw c.in_ok-end.ensures (c.finished.ensures _)
