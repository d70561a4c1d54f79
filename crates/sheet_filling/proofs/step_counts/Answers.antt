-- The entries are bytes, so the closure gives them.
use Rattle.std.proofs.Common.{rules}
use Rattle.words.proofs.Made.{made_list}
use Rattle.sheet_filling.proofs.step_counts.Goals as goal

pub returns : goal.returns
returns c = made_list c.from_fn.ensures.items _ (λ i y q l k. search rules) c.requires.count
