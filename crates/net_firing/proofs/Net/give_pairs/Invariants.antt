-- The loop keeps that the steps passed have got their tokens.
use mathlib.Core.Path.{◌≡◌}
use lib.ListN.{length}
use Rattle.sheet_table.specs.inner.Parts.{zone}
use Rattle.net_firing.specs.inner.Marking.{Gives}
use Rattle.net_firing.proofs.Net.give_pairs.Given as goal

abbrev pub invariant-loop-y : goal.invariant-loop-y
invariant-loop-y l = Gives (zone l.self.sheet.now) l.self.ahead.now l.initial.pairs l.z l.c l.y l.pairs × (length l.pairs ≡ 128)
