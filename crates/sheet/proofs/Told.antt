-- Every check of the table tells the cart and step in whose part of the sheet it stands: a place lies in one cart's part and one step's at most.
use Prim.Native.Nat.{ℕ, zero, suc, ◌+◌, ◌≤◌, ◌<◌}
use mathlib.Core.Path.{◌≡◌, refl}
use mathlib.Core.Bool.{Bool}
use mathlib.Core.List.{List}
use mathlib.Core.Logic.{⊎_elim}
use native.Mathlib.Omega.{arith}
use native.Mathlib.Decide.{dec_lt}
use native.Mathlib.Numerals.{add-one}
use native.Mathlib.Nat.{eq-or-lt_of_le}
use Rattle.words.specs.Checks.{Check, done, refused, refusal}
use Rattle.words.proofs.Keeps.{Keeps, one_keeps, ◌with◌, each_keeps}
use Rattle.fields.specs.Field.{outside, in_cart, in_step, check_at}
use Rattle.fields.specs.inner.Field.{refused_at}
use Rattle.fields.specs.declared.Cursor.{Cursor}
use Rattle.fields.proofs.BytesLaws.{field_keeps}
use Rattle.sheet.specs.Layout.{cart_count_at, cart_count, cart_at, arrival_at, step_count, zone_at, end_at, zone_count}
use Rattle.sheet.specs.Checks.{field, zone_checks, step_checks, cart_checks, lane_checks, sheet_checks}
use Rattle.sheet.specs.Told.{LiesInCart, LiesInStep, Told}

module _ (s : List ℕ) where
  pub cart_next : (i : ℕ) → cart_at s (i + 1) ≡ zone_at s i (step_count s i)
  unfolding cart_at
  cart_next i = rw (add-one i)

  carts_rise : (i k : ℕ) → i ≤ k → cart_at s i ≤ cart_at s k
  unfolding cart_at
  carts_rise i zero l = let e : i ≡ 0 = omega arith in rw e (omega arith)
  carts_rise i (suc k) l =
      ⊎_elim (λ (q : i ≡ suc k). rw q (omega arith)) (λ (q : i < suc k). omega (arith, carts_rise i k (omega arith))) (eq-or-lt_of_le l)

  one_cart : (i k place : ℕ) → LiesInCart s i place → LiesInCart s k place → i ≡ k
  one_cart i k place a b = go (dec_lt i k) (dec_lt k i)
    where
      go : Dec (i < k) → Dec (k < i) → i ≡ k
      go (yes l) d = absurd (omega (arith, a.before, b.from, carts_rise (i + 1) k (omega arith)))
      go (no m) (yes l) = absurd (omega (arith, b.before, a.from, carts_rise (k + 1) i (omega arith)))
      go (no m) (no n) = omega (arith, m, n)

  -- a check of the sheet, and what it tells
  pub record OfTable (c : Check) : Type 0 where
    pub numbered : (1 ≤ c.number) × (c.number ≤ 14)
    pub told : Told s (refusal c)

  told_outside : (number place : ℕ) → (1 ≤ number) × (number ≤ 14) → ((i : ℕ) → LiesInCart s i place → ⊥) → Told s (refused number place)
  told_outside number place n none =
      record {
        which_cart = λ _ i. (λ e. absurd (omega arith), λ h. absurd (none i h));
        which_step = λ _ j. (λ e. absurd (omega arith), λ h. absurd (none h.0 h.1.inside_cart));
        after_carts = λ _. (refl, refl);
        at_arrival = λ _. refl;
        others = λ m. absurd (m n);
      }

  told_cart : (number i place : ℕ) → (1 ≤ number) × (number ≤ 14) → (number ≡ 13 → ⊥) → LiesInCart s i place → place < zone_at s i 0
      → Told s (refused_at number (in_cart i place))
  told_cart number i place n other lies head =
      record {
        which_cart = λ _ k. (λ e. let same : i ≡ k = omega arith in rw same at lies, λ h. omega (arith, one_cart i k place lies h));
        which_step = λ _ j. (λ e. absurd (omega arith), λ h. absurd (no_step j h.0 (one_cart i h.0 place lies h.1.inside_cart) h.1));
        after_carts = λ e. absurd (other e);
        at_arrival = λ _. refl;
        others = λ m. absurd (m n);
      }
    where
      no_step : (j k : ℕ) → i ≡ k → LiesInStep s k j place → ⊥
      no_step j k e h = let from : zone_at s i j ≤ place = rw e h.from in omega (arith, from, head)

  told_step : (number i j place : ℕ) → (1 ≤ number) × (number ≤ 12) → LiesInStep s i j place → Told s (refused_at number (in_step i j place))
  told_step number i j place n lies =
      record {
        which_cart = λ _ k.
            (λ e. let same : i ≡ k = omega arith in rw same at lies.inside_cart, λ h. omega (arith, one_cart i k place lies.inside_cart h));
        which_step = λ _ k. (
          λ e. let same : j ≡ k = omega arith in (i, rw same at lies),
          λ h. same_step k h.0 (one_cart i h.0 place lies.inside_cart h.1.inside_cart) h.1,
        );
        after_carts = λ e. absurd (omega (arith, n.1, e));
        at_arrival = λ e. absurd (omega (arith, n.1, e));
        others = λ m. absurd (m (n.0, omega (arith, n.1)));
      }
    where
      same_step : (k l : ℕ) → i ≡ l → LiesInStep s l k place → j + 1 ≡ k + 1
      same_step k l e h =
          let from : zone_at s i k ≤ place = rw e h.from in
          let before : place < zone_at s i (k + 1) = rw e h.before in
          omega (arith, from, before, lies.from, lies.before)

  -- a check of anything else tells no cart
  pub told_other : (c : Check) → 14 < c.number → (c.cart ≡ 0) × (c.step ≡ 0) → Told s (refusal c)
  told_other c l none =
      record {
        which_cart = λ n. absurd (omega (arith, l, n.1));
        which_step = λ n. absurd (omega (arith, l, n.1));
        after_carts = λ e. absurd (omega (arith, l, e));
        at_arrival = λ e. absurd (omega (arith, l, e));
        others = λ _. none;
      }

  pub told_done : Told s done
  told_done =
      record {
        which_cart = λ n. absurd (omega (arith, n.0));
        which_step = λ n. absurd (omega (arith, n.0));
        after_carts = λ e. absurd (omega (arith, e));
        at_arrival = λ e. absurd (omega (arith, e));
        others = λ _. (refl, refl);
      }

  -- a place where a check numbered up to 12 tells rightly
  abbrev Right : Cursor → Type 0
  Right c = (number : ℕ) (b : Bool) → (1 ≤ number) × (number ≤ 12) → OfTable (check_at number c b)

  field_right : (c : Cursor) (w number : ℕ) (passes : ℕ → Bool) → Right c → (1 ≤ number) × (number ≤ 12) → Keeps OfTable (field s c w number passes)
  field_right c w number passes r n = field_keeps 1 s c w number passes (λ b. r 1 b (omega arith, omega arith)) (λ b. r number b n)

  step_right : (i j place : ℕ) → LiesInStep s i j place → Right (in_step i j place)
  step_right i j place lies number b n = record { numbered = (n.0, omega (arith, n.1)); told = told_step number i j place n lies }

  cart_right : (i place : ℕ) → LiesInCart s i place → place < zone_at s i 0 → Right (in_cart i place)
  cart_right i place lies head number b n =
      let few : number ≤ 14 = omega (arith, n.1) in
      record { numbered = (n.0, few); told = told_cart number i place (n.0, few) (λ e. omega (arith, n.1, e)) lies head }

  -- before the first cart
  front_right : (place : ℕ) → place ≤ cart_count_at s → Right (outside place)
  unfolding cart_at
  front_right place l number b n =
      let few : number ≤ 14 = omega (arith, n.1) in
      record {
        numbered = (n.0, few);
        told = told_outside number place (n.0, few) (λ i h. omega (arith, l, h.from, carts_rise 0 i (omega arith)));
      }

  module _ (i : ℕ) (present : i < cart_count s) where
    in_head : (place : ℕ) → cart_at s i ≤ place → place < zone_at s i 0 → LiesInCart s i place
    in_head place l m = record { present = present; from = l; before = omega (arith, l, m, cart_next i) }

    in_steps : (j place : ℕ) → j < step_count s i → zone_at s i j ≤ place → place < zone_at s i (j + 1) → LiesInStep s i j place
    in_steps j place k l m =
        record {
          inside_cart = record { present = present; from = omega (arith, l); before = omega (arith, k, m, cart_next i) };
          present = k;
          from = l;
          before = m;
        }

    step_tells : (j : ℕ) → j < step_count s i → Keeps OfTable (step_checks s i j)
    unfolding step_checks
    step_tells j k =
        field_right _ 1 10 _ zone (omega arith, omega arith)
        with one_keeps (zone 11 _ (omega arith, omega arith))
        with field_right _ 2 12 _ (step_right i j _ (in_steps j _ k (omega arith) (omega arith))) (omega arith, omega arith)
        with field_right _ 2 12 _ (step_right i j _ (in_steps j _ k (omega arith) (omega arith))) (omega arith, omega arith)
      where
        zone : Right (in_step i j (zone_at s i j))
        zone = step_right i j _ (in_steps j _ k (omega arith) (omega arith))

    head_right : (place : ℕ) → cart_at s i ≤ place → place < zone_at s i 0 → Right (in_cart i place)
    head_right place l m = cart_right i place (in_head place l m) m

    cart_tells : Keeps OfTable (cart_checks s i)
    unfolding cart_checks
    cart_tells =
        field_right _ 1 7 _ (head_right _ (omega arith) (omega arith)) (omega arith, omega arith)
        with field_right _ 4 8 _ (head_right _ (omega arith) (omega arith)) (omega arith, omega arith)
        with field_right _ 1 9 _ (head_right _ (omega arith) (omega arith)) (omega arith, omega arith)
        with each_keeps (step_count s i) step_tells

    lane_tells : Keeps OfTable (lane_checks s i)
    unfolding lane_checks
    lane_tells =
        one_keeps (record {
          numbered = (omega arith, omega arith);
          told =
              told_cart 14 i (arrival_at s i) (omega arith, omega arith) (λ e. omega arith) (in_head (arrival_at s i) (omega arith) (omega arith)) (omega arith);
        })

  zone_tells : (z : ℕ) → z < zone_count s → Keeps OfTable (zone_checks s z)
  unfolding zone_checks
  zone_tells z l =
      field_right _ 2 5 _ (front_right _ (omega arith)) (omega arith, omega arith)
      with field_right _ 2 5 _ (front_right _ (omega arith)) (omega arith, omega arith)

  end_tells : (b : Bool) → OfTable (check_at 13 (outside (end_at s)) b)
  end_tells b =
      record {
        numbered = (omega arith, omega arith);
        told =
            told_outside 13 (end_at s) (omega arith, omega arith)
            (λ i h. omega (arith, h.before, carts_rise (i + 1) (cart_count s) (omega (arith, h.present))));
      }

  -- the law beside the table
  pub sheet_tells : Keeps OfTable (sheet_checks s)
  unfolding sheet_checks
  sheet_tells =
      field_right _ 1 2 _ (front_right _ (omega arith)) (omega arith, omega arith)
      with field_right _ 2 3 _ (front_right _ (omega arith)) (omega arith, omega arith)
      with field_right _ 1 4 _ (front_right _ (omega arith)) (omega arith, omega arith)
      with each_keeps (zone_count s) zone_tells
      with field_right _ 1 6 _ (front_right _ (omega arith)) (omega arith, omega arith)
      with each_keeps (cart_count s) cart_tells
      with one_keeps (end_tells _)
      with each_keeps (cart_count s) lane_tells
