-- The set's test is the definition's search.
use mathlib.Core.Path.{◌≡◌, refl, ap, ◌∙◌}
use mathlib.Core.Bool.{true, false, not, ◌&&◌}
use Prim.Native.Nat.{ℕ}
use Rattle.std.specs.Prelude.{Option, Some, None}
use Rattle.std.specs.Option.{option_or}
use Rattle.words.specs.Lists.{any_below}
use Rattle.sets.specs.inner.Member.{has}
use Rattle.plan_lists.specs.inner.Sets.{first_late}
use Rattle.plan_lists.proofs.SetLaws.{some_left}
use Rattle.plan_lists.proofs.first_late.Goals as goal

within_late : (late : Option ℕ) (at seen lead : ℕ) → any_below (λ d. has seen d && not (has lead d)) 16 ≡ false → late ≡ first_late late at seen lead
unfolding first_late
within_late (Some known) at seen lead e = refl
within_late None at seen lead e = rw e

past_late : (late : Option ℕ) (at seen lead : ℕ) → any_below (λ d. has seen d && not (has lead d)) 16 ≡ true
    → option_or late (Some at) ≡ first_late late at seen lead
unfolding first_late
past_late (Some known) at seen lead e = refl
past_late None at seen lead e = rw e

pub returns-then-within : goal.returns-then-within
returns-then-within c = within_late _ _ _ _ (some_left _ _ _ c.ranges.seen.fits c.within.ensures ∙ ap not c.if-within.true)

pub returns-else-within : goal.returns-else-within
returns-else-within c = c.or.ensures ∙ past_late _ _ _ _ (some_left _ _ _ c.ranges.seen.fits c.within.ensures ∙ ap not c.if-within.false)
