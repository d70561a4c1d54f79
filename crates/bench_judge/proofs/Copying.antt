-- A list that is copied over another, part by part: where the parts before the a-th entry are copied, the other holds the list's first a entries and then its own.
use Prim.Native.Nat.{ℕ, ◌+◌, ◌≤◌}
use mathlib.Core.Path.{◌≡◌, sym, ap, ap₂, ◌∙◌}
use mathlib.Core.List.{List, ◌++◌, append-nil, append_assoc}
use borrow.Rule.Slice.PartMut.{mid_of, put_mid}
use lib.ListN.{length, take, drop}
use lib.Seq.{take-add, take_all, take_at, drop_at, drop-drop, length-take-le}
use Rattle.std.proofs.lemmas.List.{drop_all}

module _ {X : Type 0} (from was : List X) where
  pub part_copied : (a k : ℕ) {held part : List X} → a ≤ length from → held ≡ take a from ++ drop a was → part ≡ mid_of a k from
      → put_mid a k held part ≡ take (a + k) from ++ drop (a + k) was
  part_copied a k fits before copied =
      ap₂ (λ (front rest : List X). front ++ rest) (ap (take a) before ∙ take_at (take a from) (drop a was) a long)
      (ap₂ (λ (middle rest : List X). middle ++ rest) copied (ap (λ (l : List X). drop k (drop a l)) before ∙ ap (drop k) (drop_at (take a from) (drop a was) a long) ∙ drop-drop k a was))
      ∙ sym (append_assoc (take a from) (mid_of a k from) (drop (a + k) was))
      ∙ ap (λ (front : List X). front ++ drop (a + k) was) (sym (take-add a k from))
    where
      long : length (take a from) ≡ a
      long = length-take-le a from fits

  pub all_copied : (n : ℕ) → length from ≤ n → length was ≤ n → take n from ++ drop n was ≡ from
  all_copied n copied room = ap₂ (λ (front rest : List X). front ++ rest) (take_all n from copied) (drop_all n was room) ∙ append-nil from
