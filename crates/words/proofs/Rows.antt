-- Rows of one width that are filled one after the other, in a table: what stands at x goes by how far its row is filled.
use Prim.Native.Nat.{ℕ, ◌+◌, ◌*◌, ◌/◌, ◌%◌, ◌<◌}
use mathlib.Core.Path.{◌≡◌, refl, sym, ap, ◌∙◌}
use mathlib.Core.Bool.{Bool, true, false, ◌&&◌}
use mathlib.Core.List.{List}
use native.Mathlib.Omega.{arith}
use native.Mathlib.Nat.{mod-lt, div-add-mod}
use native.Mathlib.Decide.{ℕ_discrete}
use lib.Dec.{ltb}
use lib.ListN.{set, replicate}
use borrow.Author.Tests.{lt-ltb, le-ltb}
use Rattle.words.specs.Lists.{pick, entries}
use Rattle.words.proofs.Entries.{zeros_are, same_entries, put_entry}
use Rattle.words.proofs.Tables.{row_at, column_at}
use Rattle.words.proofs.Tests.{ltb_next}
use Rattle.words.proofs.Filled.{filled, filled_here, filled_other, filled_none, filled_row, filled_all}

module _ (size width : ℕ) (count : ℕ → ℕ) (rule : ℕ → ℕ → ℕ) where
  abbrev entry : ℕ → ℕ → ℕ → ℕ
  entry z e x = rule (filled count z e (x / width)) x

  -- the rows before row z are full, and e entries of row z are there
  unfoldable pub rows : ℕ → ℕ → List ℕ
  rows z e = entries size 0 (entry z e)

  pub rows_none : ((x : ℕ) → rule 0 x ≡ 0) → replicate size 0 ≡ rows 0 0
  unfolding rows
  rows_none h = zeros_are size (entry 0 0) λ x. rw (filled_none count (x / width)) (h x)

  -- one entry more of row z, which stands at its i-th place
  pub rows_put : (z e i v : ℕ) → width * z + i < size → i < width → rule (e + 1) (width * z + i) ≡ v
      → ((j : ℕ) → j < width → (j ≡ i → ⊥) → rule (e + 1) (width * z + j) ≡ rule e (width * z + j))
      → set (rows z e) (width * z + i) v ≡ rows z (e + 1)
  unfolding rows
  rows_put z e i v h l here there =
      put_entry size (entry z e) (entry z (e + 1)) (width * z + i) v h
      (rw (row_at z i l, filled_here count z (e + 1)) here)
      (λ x q. other x q (ℕ_discrete (x / width) z))
    where
      other : (x : ℕ) → (x ≡ width * z + i → ⊥) → Dec (x / width ≡ z) → entry z (e + 1) x ≡ entry z e x
      other x q (no r) = ap (λ (k : ℕ). rule k x) (filled_other count z (e + 1) e (x / width) r)
      other x q (yes r) =
          let x_is : width * z + x % width ≡ x = rw r at (div-add-mod x width) in
          rw (r, filled_here count z (e + 1), filled_here count z e)
          (rw x_is at (there (x % width) (mod-lt x (omega arith)) (λ s. q (sym x_is ∙ ap (λ (k : ℕ). width * z + k) s))))

  -- row z is full
  pub rows_next : (z e : ℕ) → e ≡ count z → rows z e ≡ rows (z + 1) 0
  unfolding rows
  rows_next z e q = rw q (same_entries size _ _ λ x _. ap (λ (k : ℕ). rule k x) (filled_row count z (x / width)))

  -- where n rows are full
  pub rows_all : (n : ℕ) → rows n 0 ≡ entries size 0 λ x. rule (pick (ltb (x / width) n) (count (x / width)) 0) x
  unfolding rows
  rows_all n = same_entries size _ _ λ x _. ap (λ (k : ℕ). rule k x) (filled_all count n (x / width))

-- ---- each row filled from its front

-- what stands at x when k entries of its row are there, by a rule of row and place
abbrev from_front : ℕ → (ℕ → ℕ → ℕ) → ℕ → ℕ → ℕ
from_front width rule k x = pick (ltb (x % width) k) (rule (x / width) (x % width)) 0

module _ (size width : ℕ) (count : ℕ → ℕ) (rule : ℕ → ℕ → ℕ) where
  abbrev pub front : ℕ → ℕ → List ℕ
  front z e = rows size width count (from_front width rule) z e

  in_row : (k z i : ℕ) → i < width → from_front width rule k (width * z + i) ≡ pick (ltb i k) (rule z i) 0
  in_row k z i l = rw (row_at z i l, column_at z i l)

  pub front_none : replicate size 0 ≡ front 0 0
  front_none = rows_none size width count (from_front width rule) λ x. rw (le-ltb (x % width) 0 (omega arith))

  pub front_put : (z e : ℕ) → width * z + e < size → e < width → set (front z e) (width * z + e) (rule z e) ≡ front z (e + 1)
  front_put z e h l =
      rows_put size width count (from_front width rule) z e e (rule z e) h l (in_row (e + 1) z e l ∙ rw (lt-ltb e (e + 1) (omega arith)))
      λ i m n. in_row (e + 1) z i m ∙ ap (λ (b : Bool). pick b (rule z i) 0) (ltb_next i e n) ∙ sym (in_row e z i m)

  pub front_next : (z e : ℕ) → e ≡ count z → front z e ≡ front (z + 1) 0
  front_next = rows_next size width count (from_front width rule)

  pub front_all : (n : ℕ)
      → front n 0 ≡ entries size 0 λ x. pick (ltb (x / width) n && ltb (x % width) (count (x / width))) (rule (x / width) (x % width)) 0
  front_all n =
      rows_all size width count (from_front width rule) n
      ∙ same_entries size _ _ λ x _. ap (λ (b : Bool). pick b (rule (x / width) (x % width)) 0) (either x (ltb (x / width) n))
    where
      either : (x : ℕ) (full : Bool) → ltb (x % width) (pick full (count (x / width)) 0) ≡ (full && ltb (x % width) (count (x / width)))
      either x true = refl
      either x false = le-ltb (x % width) 0 (omega arith)
