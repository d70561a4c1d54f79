-- Counted cart by cart, as the rule counts them.
use Prim.Native.Nat.{◌+◌}
use mathlib.Core.Path.{refl}
use native.Mathlib.Omega.{arith}
use Rattle.sets.specs.Counting.{count_below}
use Rattle.sets.proofs.Counting.{count_most}
use Rattle.planner_ranks.specs.inner.Ranks.{comes_before_in}
use Rattle.planner_ranks.proofs.Ranking.{count_next, rank_all}
use Rattle.sheet_table.specs.inner.Parts as parts
use Rattle.planner_ranks.proofs.rank_of.Goals as goal

pub loop-d-init : goal.loop-d-init
unfolding count_below
loop-d-init c = refl

pub overflow_add-rank : goal.overflow_add-rank
overflow_add-rank c = omega (
  arith,
  count_next _ _ c.comes_before.result _ _ c.loop-d.invariant c.from-rank.ensures c.comes_before.ensures,
  count_most (c.loop-d.d + 1) (λ e. comes_before_in (parts.arrival c.args.sheet.now) e c.args.c),
)

pub loop-d-preserved : goal.loop-d-preserved
loop-d-preserved c = count_next _ _ c.comes_before.result _ _ c.loop-d.invariant c.from-rank.ensures c.comes_before.ensures

pub returns : goal.returns
returns c = rank_all (parts.arrival c.args.sheet.now) c.args.m c.loop-d.d c.args.c _ (omega arith) c.loop-d.invariant
