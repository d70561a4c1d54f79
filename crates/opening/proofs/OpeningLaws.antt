-- What every opening that is read has, and that a refusal has a number.
use Prim.Native.Nat.{ℕ, ◌+◌, ◌≤◌, ◌<◌}
use mathlib.Core.Path.{◌≡◌, subst, ap}
use mathlib.Core.List.{List}
use native.Mathlib.Omega.{arith}
use native.Mathlib.Decide.{dec_lt}
use lib.Dec.{eqb}
use borrow.Author.Tests.{eq-eqb, ne_eqb, le-leb, lt-leb}
use lib.ListN.{length}
use Rattle.words.specs.declared.Outcome.{Outcome}
use Rattle.words.proofs.Tests.{leb_says, and_says}
use Rattle.fields.specs.declared.Cursor.{Cursor}
use Rattle.fields.proofs.TakingLaws.{taking_holds}
use Rattle.sheet.specs.Checks.{is_one}
use Rattle.opening.specs.inner.Opening.{opening_by, opening_at, is_between}
use Rattle.std.specs.Prelude.{Result, Ok, Err}

module _ (s : List ℕ) (first least most : ℕ) (numbers : 0 < first) where
  data Fine : Result (ℕ × Cursor) Outcome → Type 0 where
    between : {n : ℕ} {next : Cursor} → (least ≤ n) × (n ≤ most) → Fine (Ok (n, next))
    numbered : {outcome : Outcome} → 0 < outcome.number → Fine (Err outcome)

  fine : Fine (opening_at s first least most)
  unfolding opening_by
  fine =
      taking_holds Fine Err first s 1 _ (first + 1) is_one _ (numbered numbers) (numbered (omega arith)) λ version c _.
      taking_holds Fine Err first s 2 c (first + 2) (λ total. eqb total (length s)) _ (numbered numbers) (numbered (omega arith)) λ total c2 _.
      taking_holds Fine Err first s 1 c2 (first + 3) (is_between least most) _ (numbered numbers) (numbered (omega arith)) λ n c3 e.
      between ((and_says _ _ (leb_says least n) (leb_says n most)).0 e)

  pub opening_between : (n : ℕ) (next : Cursor) → opening_at s first least most ≡ Ok (n, next) → (least ≤ n) × (n ≤ most)
  opening_between n next e = go (subst Fine e fine)
    where
      go : Fine (Ok (n, next)) → (least ≤ n) × (n ≤ most)
      go (between f) = f

  pub opening_refused : (outcome : Outcome) → opening_at s first least most ≡ Err outcome → 0 < outcome.number
  opening_refused outcome e = go (subst Fine e fine)
    where
      go : Fine (Err outcome) → 0 < outcome.number
      go (numbered f) = f

pub ruleset opening_says = (opening_between, opening_refused)

-- from a number to itself is the number
between_is : (a n : ℕ) → is_between a a n ≡ eqb n a
between_is a n = go (dec_lt n a) (dec_lt a n)
  where
    go : Dec (n < a) → Dec (a < n) → is_between a a n ≡ eqb n a
    go (yes l) d = rw (lt-leb a n l, ne_eqb n a (λ q. omega arith))
    go (no m) (yes l) = rw (le-leb a n (omega (arith, m)), lt-leb n a l, ne_eqb n a (λ q. omega arith))
    go (no m) (no k) = rw (le-leb a n (omega (arith, m)), le-leb n a (omega (arith, k)), eq-eqb n a (omega (arith, m, k)))

pub opening_of : (s : List ℕ) (first a : ℕ) → opening_at s first a a ≡ opening_by s first (λ n. eqb n a)
opening_of s first a = ap (opening_by s first) (λ i n. between_is a n i)
