-- The search's closure answers by the definition's test.
use mathlib.Core.Path.{refl}
use Rattle.std.proofs.Common.{rules}
use Rattle.words.proofs.Calls.{calls_any}
use Rattle.sheet_carts.proofs.is_early.Goals as goal

pub returns : goal.returns
returns c = calls_any _ _ _ _ _ _ refl c.any.ensures.ran (λ e b q h. search rules)
