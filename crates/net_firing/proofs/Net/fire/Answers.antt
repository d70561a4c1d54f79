-- The tokens before the transition are taken, then those after it are given; each branch tells what it makes of the tables.
use Prim.Native.Nat.{ℕ, ◌+◌, ◌≤◌}
use mathlib.Core.Path.{◌≡◌, refl}
use native.Mathlib.Omega.{arith}
use lib.ListN.{length, get_or, set}
use Rattle.moves.specs.Moves.{moved}
use Rattle.routes.specs.Crossing.{Crossing}
use Rattle.sheet_table.specs.inner.Parts.{steps}
use Rattle.crossing.specs.inner.Tables.{crossing_of}
use Rattle.net_firing.specs.declared.Tokens.{Tokens}
use Rattle.net_firing.proofs.CanFire.{x_128, within}
use Rattle.net_firing.proofs.Firing.{PairsTaken, PairsGiven, LinesFired, moved_on, marked_fired}
use Rattle.net_firing.proofs.Firing.{pairs_taken, pairs_kept, pairs_given, pairs_none, lines_first, lines_later}
use Rattle.net_firing.proofs.Net.fire.Goals as goal
use Rattle.net_firing.proofs.Net.fire.Goals.{then-p-steps, else-p-steps, then-p-gt0, else-p-gt0}

pub take_pairs-requires : goal.take_pairs-requires
take_pairs-requires c = (x_128 _ _ c.args.self.now.sound _ c.requires.0 _ (omega arith), c.requires.1.pairs_128)

pub returns : goal.returns
returns c =
    let net = c.args.self.now in
    let old : Tokens = c.args.on.now in
    let X : Crossing = crossing_of net.sheet.now net.ahead.now in
    let p : ℕ = c.from-p.result in
    let mid : Tokens = c.if-p-steps.on in
    let after : Tokens = c.if-p-gt0.on in
    let from = c.from-p.ensures in
    let most : p ≤ get_or (steps net.sheet.now) c.args.c 0
    = omega (arith, from, within _ _ net.sound _ c.requires.0 old c.requires.2) in
    -- past the first branch the tokens of the pair places are taken
    let taken : PairsTaken X old.pairs c.args.c p mid.pairs × (length mid.pairs ≡ 128) × (mid.lines ≡ old.lines) × (mid.position ≡ old.position)
    = elim c.if-p-steps.branch [
      | then-p-steps w ↦ rw w.on-is (
        pairs_taken _ _ net.sound _ c.requires.0 old.pairs _ p (omega arith) _ refl w.take_pairs.ensures.0,
        w.take_pairs.ensures.1,
        refl,
        refl,
      )
      | else-p-steps w ↦ rw w.on-is (
        pairs_kept _ _ net.sound _ c.requires.0 old.pairs _ p (omega arith) refl,
        c.requires.1.pairs_128,
        refl,
        refl,
      )
    ] in
    -- past the second those of the pair places, or of the line, are given
    let given : PairsGiven X mid.pairs c.args.c p after.pairs × LinesFired X mid.lines c.args.c p after.lines
    × (length after.pairs ≡ 128) × (after.position ≡ mid.position)
    = elim c.if-p-gt0.branch [
      | then-p-gt0 w ↦ rw w.on-is (
        pairs_given _ _ net.sound _ c.requires.0 mid.pairs _ p w.if-p-gt0.true most _ w.zone-left.ensures w.give_pairs.ensures.0,
        lines_later _ _ net.sound _ c.requires.0 mid.lines _ p w.if-p-gt0.true refl,
        w.give_pairs.ensures.1,
        refl,
      )
      | else-p-gt0 w ↦
          let first : p ≡ 0 = omega (arith, w.if-p-gt0.false) in
          rw w.on-is (
            pairs_none _ _ net.sound _ c.requires.0 mid.pairs _ p first refl,
            lines_first _ _ net.sound _ c.requires.0 mid.lines _ p first _ net.lanes_are _ w.without.ensures w.give_line-on.ensures,
            taken.1,
            refl,
          )
    ] in
    let on : set after.position c.args.c (p + 1) ≡ moved old.position c.args.c
    = rw (given.3, taken.3) (moved_on old.position c.args.c _ (omega (arith, from))) in (
      marked_fired _ net.sound.only old c.requires.1 _ c.requires.0 c.requires.2 mid.pairs _ (rw from at taken.0) (rw from at given.0)
          (rw (from, taken.2) at given.1) on given.2,
      on,
    )
