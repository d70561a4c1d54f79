-- A sheet has 16 lanes.
use Rattle.crossing.specs.Plans.{given_by}
use Rattle.net_firing.proofs.Net.of.Goals as goal

pub lanes-requires : goal.lanes-requires
unfolding given_by
lanes-requires c = c.requires.ranged.lane_most

-- what is asked is the one fact, and the lanes worked out are the other
pub invariant_of-result : goal.invariant_of-result
invariant_of-result c = record { sound = c.requires; lanes_are = c.lanes.ensures }
