-- The members below a number, and the lowest and the highest member.
use Prim.Native.Nat.{ℕ, suc, ◌+◌, ◌-◌, ◌*◌, ◌/◌, ◌%◌, ◌^◌, ◌≤◌, ◌<◌}
use mathlib.Core.Path.{◌≡◌, refl, sym, ap, ◌∙◌}
use mathlib.Core.Logic.{◌↔◌}
use mathlib.Core.Bool.{Bool, true, false, not, ◌&&◌, false≢true}
use native.Mathlib.Nat.{one-mul, mod-eq_of_lt, mod-lt, div-add-mod', two-pow-succ}
use native.Mathlib.Decide.{ℕ_discrete, dec_lt}
use native.Mathlib.Omega.{arith}
use lib.Dec.{ltb}
use lib.Pow.{pow-lt, pow_pos}
use lib.Bits.{bit_and, and_mask}
use lib.Count.{count_leading_zeros, leading_top, count_trailing_zeros}
use borrow.Author.Tests.{lt-ltb, le-ltb}
use Rattle.sets.specs.inner.Member.{has, Less, Below, Lowest, Rest, First, Highest}
use Rattle.sets.specs.Counting.{bit}
use Rattle.sets.proofs.Laws.{has_above, has_none, lowest_same, lowest_trailing, without_gone, without_other}
use Rattle.sets.proofs.Counting.{has_top, has_under}

-- ---- the members below i

has_mod : (k x : ℕ) → Below x k (x % 2 ^ k)
has_mod k x j = go (dec_lt j k)
  where
    go : Dec (j < k) → has (x % 2 ^ k) j ≡ (ltb j k && has x j)
    go (yes l) = rw (lt-ltb j k l) (sym (has_under k j (x / 2 ^ k) (x % 2 ^ k) l) ∙ ap (λ (n : ℕ). has n j) (div-add-mod' x (2 ^ k)))
    go (no m) = rw (le-ltb j k (omega arith)) (has_above k (x % 2 ^ k) j (mod-lt x (pow_pos k)) (omega arith))

-- `1 << i` in k digits
shl_is : (k i : ℕ) → i < k → (1 * 2 ^ i) % 2 ^ k ≡ 2 ^ i
shl_is k i l = ap (λ (n : ℕ). n % 2 ^ k) (one-mul (2 ^ i)) ∙ mod-eq_of_lt (pow-lt l)

pub shl_some : (k i : ℕ) → i < k → 1 ≤ (1 * 2 ^ i) % 2 ^ k
shl_some k i l = rw (shl_is k i l) (pow_pos i)

-- `x & ((1 << i) - 1)`
pub below_and : (k x i : ℕ) → i < k → Below x i (bit_and x ((1 * 2 ^ i) % 2 ^ k - 1))
below_and k x i l = rw (shl_is k i l, and_mask x i) (has_mod i x)

-- ---- the lowest alone

pub first_none : (x : ℕ) → x ≡ 0 → First x 0
first_none x none j = rw none (λ e. absurd (false≢true (sym (has_none j) ∙ e)), λ low. low.member)

pub first_less : (k x rest r : ℕ) → 0 < x → x < 2 ^ k → Rest x rest → Less x rest r → First x r
first_less k x rest r some fits others less j = go (ℕ_discrete j low)
  where
    low : ℕ
    low = count_trailing_zeros k x

    is_low : Lowest x low
    is_low = lowest_trailing k x some fits

    apart : (b : Bool) → (b && not b) ≡ false
    apart true = refl
    apart false = refl

    go : Dec (j ≡ low) → (has r j ≡ true) ↔ Lowest x j
    go (yes e) = rw e (λ _. is_low, λ _. less low ∙ rw (is_low.member, without_gone x low rest (others.others low is_low)))
    go (no n) = (
      λ e. absurd (false≢true (sym (less j ∙ rw (without_other x low rest (others.others low is_low) j n) (apart (has x j))) ∙ e)),
      λ lowest. absurd (n (lowest_same x j low lowest is_low)),
    )

-- ---- the highest: below it are as many digits as are not above it

pub leading_few : (k x : ℕ) → 0 < x → x < 2 ^ k → count_leading_zeros k x < k
leading_few k x some fits = let (j, place, _, _) = leading_top k x some fits in omega arith

pub highest_leading : (k x : ℕ) → 0 < x → x < 2 ^ k → Highest x (k - 1 - count_leading_zeros k x)
highest_leading k x some fits =
    let (j, place, from, to) = leading_top k x some fits in
    let here : k - 1 - count_leading_zeros k x ≡ j = omega arith in
    let split : x ≡ bit true * 2 ^ j + (x - 2 ^ j) = omega (arith, one-mul (2 ^ j)) in
    let rest : x - 2 ^ j < 2 ^ j = omega (arith, two-pow-succ j) in
    rw here (record {
      member = ap (λ (n : ℕ). has n j) split ∙ has_top j (x - 2 ^ j) true rest;
      most = λ i above. has_above (suc j) x i to above;
    })
