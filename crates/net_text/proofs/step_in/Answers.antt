use mathlib.Core.Path.{◌≡◌, sym, ◌∙◌}
use native.Mathlib.Omega.{arith}
use lib.ListN.{get_or}
use Rattle.sheet_table.specs.inner.Parts as parts
use Rattle.net_text.proofs.TableLines.{few, step_found, step_none}
use Rattle.net_text.proofs.step_in.Goals as goal

pub overflow_add-d : goal.overflow_add-d
overflow_add-d c = omega (arith, few _ _ c.args.d c.requires c.args.net.now.sound, c.steps-j-end.ensures)

pub zone-requires : goal.zone-requires
zone-requires c = omega (arith, few _ _ c.args.d c.requires c.args.net.now.sound, c.steps-j-end.ensures)

pub returns-then-zone-z : goal.returns-then-zone-z
returns-then-zone-z c = let a = c.args in (
  step_found a.net.now.sheet.now a.d a.z _ (omega (arith, c.steps-j-end.ensures)) c.loop-j.invariant (sym c.zone.ensures ∙ c.if-zone-z.true),
  omega (arith, few _ _ a.d c.requires a.net.now.sound, c.steps-j-end.ensures),
)

pub returns : goal.returns
returns c = let a = c.args in
    let all : c.loop-j.j ≡ get_or (parts.steps a.net.now.sheet.now) a.d 0 = omega (arith, c.steps-j-end.ensures) in
    (step_none a.net.now.sheet.now a.d a.z (rw all at c.loop-j.invariant), omega arith)
