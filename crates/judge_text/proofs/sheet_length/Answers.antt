-- By what the field of two bytes answers; the lesser of two numbers is the one that a test picks.
use Rattle.std.proofs.Common.{sym, ◌≡◌, ◌∙◌, ℕ, leb, min, le_refl, rules, arith}
use Rattle.std.proofs.lemmas.Bool.Decides.{leb_tells}
use Rattle.words.specs.Lists.{pick}
use Rattle.judge_text.specs.inner.Input.{sheet_length}
use Rattle.judge_text.proofs.sheet_length.Goals as goal

min_pick : (a b : ℕ) → min a b ≡ pick (leb b a) b a
min_pick a b = grind (arith, leb_tells)

pub returns-in_default : goal.returns-in_default
unfolding sheet_length
returns-in_default c = (rw (← c.outside.ensures, sym c.two_bytes.ensures ∙ c.in_default.is), le_refl _)

pub returns : goal.returns
unfolding sheet_length
returns c = (rw (← c.outside.ensures, sym c.in-Some.ensures, c.min.ensures, min_pick _ _), search rules)
