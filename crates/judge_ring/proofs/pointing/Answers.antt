-- Each call of the closure gives the cart that the definition points to, and changes nothing.
use Rattle.std.proofs.Common.{rules}
use native.Mathlib.Omega.{arith}
use Rattle.words.proofs.Made.{made_table, made_below}
use Rattle.judge_ring.proofs.pointing.Goals as goal

pub returns : goal.returns
returns c = (
  made_table c.from_fn.ensures.items _ (λ i y q h call. search rules),
  made_below c.from_fn.ensures.items 16 (omega arith) (λ i y q h call. search rules),
)
