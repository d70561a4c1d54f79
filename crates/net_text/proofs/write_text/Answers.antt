-- A room that is long enough has every line.
use mathlib.Core.Path.{◌≡◌, refl}
use Rattle.std.proofs.Common.{rules}
use Rattle.crossing.specs.inner.Tables.{crossing_of}
use Rattle.net_text.specs.Lines.{net_text, with_text}
use Rattle.net_text.proofs.LineLaws.{wrote_all}
use Rattle.net_text.proofs.write_text.Goals as goal

pub returns : goal.returns
returns c = let a = c.args in
    let wrote = rw (c.of.ensures.sheet, c.of.ensures.ahead) at c.put_net.ensures.wrote in
    let written : c.put_net.new.self.room.now ≡ with_text (net_text (crossing_of a.sheet.now a.ahead.now)) a.room.now
    = wrote_all (crossing_of a.sheet.now a.ahead.now) refl c.requires.1 wrote in
    search (rules, written, c.put_net.ensures.wrote.same_room)
