-- A line stored part by part, and lines stored one after the other.
use Prim.Native.Nat.{ℕ, ◌+◌, ◌*◌, ◌≤◌, ◌<◌}
use mathlib.Core.Path.{◌≡◌, refl, sym, ap, ap₂, ◌∙◌}
use mathlib.Core.List.{List, [], ◌∷◌, ◌++◌, append-nil, append_assoc}
use native.Mathlib.Omega.{arith}
use native.Mathlib.Numerals.{add-one}
use borrow.Rule.Slice.PartMut.{put_mid}
use lib.ListN.{length, get_or, take, drop, set, length-append}
use lib.Seq.{sets, sets-eq, length-sets}
use Rattle.std.proofs.lemmas.List.{drop-drop}
use Rattle.std.proofs.Common.{Option, Some, None}
use Rattle.words.specs.Lists.{each}
use Rattle.words.proofs.Entries.{each_last}
use Rattle.words.proofs.Stores.{sets_append}
use Rattle.routes.specs.Crossing.{Crossing}
use Rattle.net_text.specs.declared.Writer.{Writer}
use Rattle.net_text.specs.Lines.{Line, bytes, line_text, text_of, net_lines, net_text, with_text}
use Rattle.net_text.specs.inner.Writing.{shown, shown_numbers, Wrote}
use Rattle.net_text.proofs.ReadBack.{text_length}

-- ---- a line, part by part

pub put_sets : (room part text : List ℕ) (at k : ℕ) → part ≡ text → length text ≡ k → at + k ≤ length room → put_mid at k room part ≡ sets room at text
put_sets room part text at k is sized fits =
    ap₂ (λ (t l : List ℕ). take at room ++ (t ++ l)) is (drop-drop k at room ∙ ap (λ (i : ℕ). drop (at + i) room) (sym sized))
    ∙ sym (append_assoc (take at room) text (drop (at + length text) room))
    ∙ sym (sets-eq text room at (omega arith))

pub shown_length : (n : Option ℕ) → length (32 ∷ shown n) ≡ 3
unfolding bytes
shown_length None = refl
shown_length (Some n) = refl

then : (room : List ℕ) (at to : ℕ) (a b : List ℕ) {after : List ℕ} → after ≡ sets room at a → at + length a ≡ to → sets room at (a ++ b) ≡ sets after to b
then room at to a b stored e = sets_append room at a b ∙ ap₂ (λ (r : List ℕ) (x : ℕ). sets r x b) (sym stored) e

pub line_stored : (word room : List ℕ) (at : ℕ) (four : List (Option ℕ)) {R S T U W : List ℕ} → length word ≡ 10 → R ≡ sets room at word
    → S ≡ sets R (at + 10) (32 ∷ shown (get_or four 0 None)) → T ≡ sets S (at + 13) (32 ∷ shown (get_or four 1 None))
    → U ≡ sets T (at + 16) (32 ∷ shown (get_or four 2 None)) → W ≡ sets U (at + 19) (32 ∷ shown (get_or four 3 None))
    → set W (at + 22) 10 ≡ sets room at (word ++ shown_numbers four)
line_stored word room at four {R} {S} {T} {U} {W} ten r s t u v =
    let C : List ℕ = 32 ∷ shown (get_or four 0 None) in
    let P : List ℕ = 32 ∷ shown (get_or four 1 None) in
    let D : List ℕ = 32 ∷ shown (get_or four 2 None) in
    let Q : List ℕ = 32 ∷ shown (get_or four 3 None) in
    sym (then room at (at + 10) word (C ++ (P ++ (D ++ (Q ++ (10 ∷ []))))) r (omega arith)
    ∙ then R (at + 10) (at + 13) C (P ++ (D ++ (Q ++ (10 ∷ [])))) s (omega (arith, shown_length (get_or four 0 None)))
    ∙ then S (at + 13) (at + 16) P (D ++ (Q ++ (10 ∷ []))) t (omega (arith, shown_length (get_or four 1 None)))
    ∙ then T (at + 16) (at + 19) D (Q ++ (10 ∷ [])) u (omega (arith, shown_length (get_or four 2 None)))
    ∙ then U (at + 19) (at + 22) Q (10 ∷ []) v (omega (arith, shown_length (get_or four 3 None))))

-- ---- lines

pub wrote_line : {before after : Writer} (l : Line) → after.lines ≡ before.lines + 1
    → after.room.now ≡ sets before.room.now (23 * before.lines) (line_text l) → after.room.ghost_name ≡ before.room.ghost_name → Wrote (l ∷ []) before after
unfolding text_of
wrote_line {before} {after} l counted stored same_room = record {
  counted = counted;
  same = ap length stored ∙ length-sets before.room.now (23 * before.lines) (line_text l);
  stored = λ _. stored ∙ ap (λ (s : List ℕ). sets before.room.now (23 * before.lines) s) (sym (append-nil (line_text l)));
  same_room = same_room;
}

-- the room does not reach to the line's end
pub wrote_short : {before : Writer} (l : Line) → length before.room.now < 23 * before.lines + 23
    → Wrote (l ∷ []) before (record { room = before.room; lines = before.lines + 1 })
wrote_short l short = record { counted = refl; same = refl; stored = λ reach. absurd (omega arith); same_room = refl }

pub wrote_none : {w : Writer} → Wrote [] w w
unfolding text_of
wrote_none = record { counted = omega arith; same = refl; stored = λ _. refl; same_room = refl }

text_append : (a b : List Line) → text_of (a ++ b) ≡ text_of a ++ text_of b
unfolding text_of
text_append [] b = refl
text_append (l ∷ a) b = ap (λ (s : List ℕ). line_text l ++ s) (text_append a b) ∙ sym (append_assoc (line_text l) (text_of a) (text_of b))

-- lines and then lines
pub wrote_then : {a b : List Line} {before middle after : Writer} → Wrote a before middle → Wrote b middle after → Wrote (a ++ b) before after
wrote_then {a} {b} {before} {middle} {after} first second = record {
  counted = rw length-append (omega (arith, first.counted, second.counted));
  same = second.same ∙ first.same;
  stored = λ reach.
      let so_far = first.stored (omega (arith, first.counted, second.counted)) in
      let ends : 23 * before.lines + length (text_of a) ≡ 23 * middle.lines = omega (arith, text_length a, first.counted) in
      second.stored (omega (arith, first.same))
      ∙ sym (ap (λ (s : List ℕ). sets before.room.now (23 * before.lines) s) (text_append a b)
      ∙ sets_append before.room.now (23 * before.lines) (text_of a) (text_of b)
      ∙ ap₂ (λ (r : List ℕ) (x : ℕ). sets r x (text_of b)) (sym so_far) ends);
  same_room = second.same_room ∙ first.same_room;
}

-- one list more of those that a rule makes
pub wrote_turn : (rule : ℕ → List Line) {before middle after : Writer} (k : ℕ) → Wrote (each k 0 rule) before middle → Wrote (rule k) middle after
    → Wrote (each (k + 1) 0 rule) before after
wrote_turn rule k first second =
    let lists : each (k + 1) 0 rule ≡ each k 0 rule ++ rule k = rw add-one (each_last k 0 rule ∙ ap (λ (i : ℕ). each k 0 rule ++ rule i) (omega arith)) in
    rw lists (wrote_then first second)

-- all lines, in a room that is long enough for them
pub wrote_all : {before after : Writer} (X : Crossing) → before.lines ≡ 0 → length (net_text X) ≤ length before.room.now → Wrote (net_lines X) before after
    → after.room.now ≡ with_text (net_text X) before.room.now
unfolding net_text
wrote_all {before} {after} X none fits wrote =
    let text : List ℕ = text_of (net_lines X) in
    let reach : 23 * after.lines ≤ length before.room.now = omega (arith, wrote.counted, text_length (net_lines X)) in
    wrote.stored reach
    ∙ rw none (sets-eq text before.room.now 0 (omega arith))
    ∙ ap (λ (k : ℕ). text ++ drop k before.room.now) {x = 0 + length text} (omega arith)
