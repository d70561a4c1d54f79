-- The tables of a net, and the crossing that they stand for.
use Rattle.routes.specs.Crossing.{Crossing}
use Rattle.crossing.specs.inner.Tables.{crossing_of}
use Rattle.net_firing.specs.declared.Net.{Net}

abbrev pub crossing_in : Net → Crossing
crossing_in net = crossing_of net.sheet.now net.ahead.now
