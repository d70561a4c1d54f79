-- The ones of the set are counted by its members.
use mathlib.Core.Path.{◌∙◌}
use native.Mathlib.Omega.{arith}
use Rattle.sets.proofs.Laws.{ones_passing}
use Rattle.moving_asking.proofs.not_gone.Goals as goal

pub offset_bounds-left-z : goal.offset_bounds-left-z
offset_bounds-left-z c = omega (arith, rw (← c.from.ensures, ← c.zone-z.ensures) at c.requires.known)

pub bounds-left-z : goal.bounds-left-z
bounds-left-z c = omega (arith, rw (← c.from.ensures, ← c.zone-z.ensures) at c.requires.known)

pub returns : goal.returns
returns c = c.count.ensures ∙ ones_passing 16 _ _ (omega (arith, c.less.type_inv))
    (λ i _. rw (c.zone-z.ensures, c.from.ensures) at (c.less.ensures i))
