-- Each call of the closure gives one less than the position.
use Rattle.std.proofs.Common.{rules}
use Rattle.words.proofs.Made.{made_table}
use Rattle.moving_record.proofs.zones_left.Goals as goal

pub returns : goal.returns
returns c = made_table c.from_fn.ensures.items _ (λ i y q h call. search rules)
