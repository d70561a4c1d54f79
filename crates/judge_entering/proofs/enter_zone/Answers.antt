-- The carts ahead in two parts, each with its gap.
use mathlib.Core.Path.{refl}
use Rattle.judge_entering.proofs.Latest.{latest_parts}
use Rattle.judge_entering.proofs.enter_zone.Goals as goal

pub latest_clear-clear-requires : goal.latest_clear-clear-requires
latest_clear-clear-requires c = (
  rw c.zone-z.ensures c.requires.zone_24,
  rw c.follow-follow.ensures (c.requires.follow_most _),
  c.requires.leave_most,
)

pub latest_clear-time-requires : goal.latest_clear-time-requires
latest_clear-time-requires c = (
  rw c.zone-z.ensures c.requires.zone_24,
  rw c.cross.ensures (c.requires.cross_most _),
  c.requires.leave_most,
)

pub returns : goal.returns
returns c = (
  latest_parts _ _ _ _ _ _ c.requires _ _ _ _ _ _ _ _ c.zone-z.ensures c.follow-follow.ensures
      c.cross.ensures c.less-others.ensures c.less.ensures c.latest_clear-clear.ensures c.latest_clear-time.ensures,
  refl,
)
