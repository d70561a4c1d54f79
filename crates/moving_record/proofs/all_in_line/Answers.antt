-- Each call answers whether the cart still stands at the stop line, or whoever is in front of it has gone.
use mathlib.Core.Path.{refl}
use lib.ListN.{get_or}
use Rattle.std.specs.Prelude.{◌<◌}
use Rattle.std.proofs.Common.{arith, rules}
use Rattle.crossing.specs.inner.Tables.{FrontGone}
use Rattle.judge_entering.specs.inner.Lanes.{front_at}
use Rattle.moving_record.proofs.Calls.{calls_all}
use Rattle.moving_record.proofs.all_in_line.Goals as goal

pub returns : goal.returns
returns c =
    calls_all _ _ _ _ _ (λ k. 0 < get_or c.args.at.now k 0 → FrontGone (front_at c.args.lanes.now k) c.args.at.now) refl c.all.ensures.ran
    (λ k q h. (search rules, grind arith))
    (λ k q h. grind arith)
