-- The tables hold what the definition says of each cart.
use mathlib.Core.Path.{◌∙◌}
use Rattle.judge_ring.specs.inner.Tables.{wanted_in, point_of}
use Rattle.judge_ring.proofs.Same.{ring_tables}
use Rattle.sheet_table.specs.inner.Parts as parts
use Rattle.judge_ring.proofs.ring_of.Goals as goal

pub wanted_zones-wanted-requires : goal.wanted_zones-wanted-requires
wanted_zones-wanted-requires c = c.requires.0.wanting

pub pointing-to-requires : goal.pointing-to-requires
pointing-to-requires c = c.requires.0

pub ring_by-requires : goal.ring_by-requires
ring_by-requires c = (c.requires.1, c.pointing-to.ensures.1)

pub returns : goal.returns
returns c = c.ring_by.ensures ∙ ring_tables (point_of c.args.ground.now.sheet.now c.args.orders.now.count c.args.orders.now.list c.args.at.now
    c.args.left.now)
    (wanted_in (parts.steps c.args.ground.now.sheet.now) (parts.zone c.args.ground.now.sheet.now) c.args.at.now) _ _ _
    c.pointing-to.ensures.0 c.wanted_zones-wanted.ensures c.pointing-to.ensures.1 c.requires.1
