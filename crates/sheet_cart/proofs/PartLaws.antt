-- What every head and every step that is read has, and that a refusal has a number.
use Prim.Native.Nat.{ℕ, ◌+◌, ◌≤◌, ◌<◌}
use mathlib.Core.Path.{◌≡◌, subst}
use mathlib.Core.Bool.{Bool, true, false}
use mathlib.Core.List.{List}
use native.Mathlib.Omega.{arith}
use lib.Dec.{leb, ltb, eqb, lit<, lit≤}
use borrow.Author.Tests.{ltb-true, leb-true}
use Rattle.words.specs.Lists.{pick}
use Rattle.words.specs.declared.Outcome.{Outcome}
use Rattle.words.specs.Limits.{most_time}
use Rattle.words.proofs.Tests.{leb_says, and_says}
use Rattle.fields.specs.declared.Cursor.{Cursor}
use Rattle.fields.proofs.TakingLaws.{pick_holds, taking_holds}
use Rattle.sheet.specs.Checks.{is_lane, is_arrival, is_step_count, is_passing, most_travel}
use Rattle.sheet_cart.specs.inner.Parts.{head_at, step_at}
use Rattle.sheet_cart.specs.declared.CartHead.{CartHead}
use Rattle.sheet_cart.specs.declared.Step.{Step}
use Rattle.std.specs.Prelude.{Result, Ok, Err}

pub travel_most : (j k : ℕ) → most_travel j k ≤ most_time
travel_most j k = go (eqb (j + 1) k)
  where
    go : (last : Bool) → pick last 0 most_time ≤ most_time
    go true = lit≤ tt
    go false = lit≤ tt

pub travel_fits : (t j k : ℕ) → leb t (most_travel j k) ≡ true → t ≤ most_time
travel_fits t j k e = omega (arith, leb-true t (most_travel j k) e, travel_most j k)

data HeadFine : Result (CartHead × Cursor) Outcome → Type 0 where
  few_steps : {h : CartHead} {next : Cursor} → h.steps ≤ 8 → HeadFine (Ok (h, next))
  head_number : {outcome : Outcome} → 0 < outcome.number → HeadFine (Err outcome)

head_fine : (s : List ℕ) (c : Cursor) → HeadFine (head_at s c)
unfolding head_at
head_fine s c =
    taking_holds HeadFine Err 1 s 1 c 7 is_lane _ (head_number (lit< tt)) (head_number (lit< tt)) λ lane c2 _.
    taking_holds HeadFine Err 1 s 4 c2 8 is_arrival _ (head_number (lit< tt)) (head_number (lit< tt)) λ arrival c3 _.
    taking_holds HeadFine Err 1 s 1 c3 9 is_step_count _ (head_number (lit< tt)) (head_number (lit< tt)) λ steps c4 e.
    few_steps ((and_says _ _ (leb_says 1 steps) (leb_says steps 8)).0 e).1

pub head_steps : (s : List ℕ) (c : Cursor) (h : CartHead) (next : Cursor) → head_at s c ≡ Ok (h, next) → h.steps ≤ 8
head_steps s c h next e = go (subst HeadFine e (head_fine s c))
  where
    go : HeadFine (Ok (h, next)) → h.steps ≤ 8
    go (few_steps f) = f

pub head_refused : (s : List ℕ) (c : Cursor) (outcome : Outcome) → head_at s c ≡ Err outcome → 0 < outcome.number
head_refused s c outcome e = go (subst HeadFine e (head_fine s c))
  where
    go : HeadFine (Err outcome) → 0 < outcome.number
    go (head_number f) = f

data StepFine (n : ℕ) : Result (Step × Cursor) Outcome → Type 0 where
  known_zone : {step : Step} {next : Cursor} → step.zone < n → StepFine n (Ok (step, next))
  step_number : {outcome : Outcome} → 0 < outcome.number → StepFine n (Err outcome)

module _ (s : List ℕ) (n : ℕ) (named : ℕ → Bool) (j k : ℕ) (c : Cursor) where
  step_fine : StepFine n (step_at s n named j k c)
  unfolding step_at
  step_fine =
      taking_holds (StepFine n) Err 1 s 1 c 10 (λ z. ltb z n) _ (step_number (lit< tt)) (step_number (lit< tt)) λ z c2 known.
      pick_holds (StepFine n) (named z) _ _ (λ _. step_number (lit< tt))
      (taking_holds (StepFine n) Err 1 s 2 c2 12 is_passing _ (step_number (lit< tt)) (step_number (lit< tt)) λ p c3 _.
      taking_holds (StepFine n) Err 1 s 2 c3 12 (λ t. leb t (most_travel j k)) _ (step_number (lit< tt)) (step_number (lit< tt)) λ t c4 _.
      known_zone (ltb-true z n known))

  pub step_zone : (step : Step) (next : Cursor) → step_at s n named j k c ≡ Ok (step, next) → step.zone < n
  step_zone step next e = go (subst (StepFine n) e step_fine)
    where
      go : StepFine n (Ok (step, next)) → step.zone < n
      go (known_zone f) = f

  pub step_refused : (outcome : Outcome) → step_at s n named j k c ≡ Err outcome → 0 < outcome.number
  step_refused outcome e = go (subst (StepFine n) e step_fine)
    where
      go : StepFine n (Err outcome) → 0 < outcome.number
      go (step_number f) = f
