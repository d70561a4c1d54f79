-- Bytes stored one after the other: storing what is left gives the whole.
use Prim.Native.Nat.{ℕ, zero, suc, ◌+◌, ◌-◌, ◌*◌, ◌/◌, ◌%◌, ◌≤◌, ◌<◌}
use mathlib.Core.Path.{◌≡◌, refl, sym, ap, ap₂, ◌∙◌}
use mathlib.Core.List.{List, [], ◌∷◌, ◌++◌, append_assoc}
use native.Mathlib.Omega.{arith}
use native.Mathlib.Nat.{mod-eq_of_lt}
use native.Mathlib.Numerals.{add-one}
use lib.ListN.{length, take, drop, set, length-append, length-set, length-drop}
use lib.Seq.{sets, sets-eq, length-sets, length-take-le, drop-drop, get_or-take, get_or-drop}
use Rattle.words.specs.Lists.{entries, each}
use Rattle.words.proofs.Entries.{length_each_most, entries_is}
use Rattle.words.proofs.Stores.{sets_append}
use Rattle.words.proofs.Left.{left_suc, left_zero, left_all}
use Rattle.fields.specs.Bytes.{bytes_of}
use Rattle.plan.specs.Written.{count, listed, list_bytes, lists_bytes, written}
use Rattle.plan.specs.declared.Orders.{Orders}
use Rattle.plan.proofs.RoundTrip.{length_list_bytes, length_written}
use Rattle.plan_writer.specs.inner.Writing.{WritableList, Writable}

pub byte_is : (v : ℕ) → v < 256 → bytes_of 1 v ≡ v ∷ []
unfolding bytes_of
byte_is v h = rw (mod-eq_of_lt h)

-- one turn of a loop over pieces that are left
pub length_turn : (rule : ℕ → List ℕ) (n z : ℕ) → z < n → length (each (n - z) z rule) ≡ length (rule z) + length (each (n - (z + 1)) (z + 1) rule)
unfolding each
length_turn rule n z h = rw (left_suc n z h) (length-append (rule z) (each (n - (z + 1)) (z + 1) rule))

-- a part of the room overwritten is its bytes stored there
pub part_stored : (room bytes : List ℕ) (at n : ℕ) → length bytes ≡ n → at + n ≤ length room → take at room ++ (bytes ++ drop n (drop at room)) ≡ sets room at bytes
part_stored room bytes at n e l =
    ap (λ (rest : List ℕ). take at room ++ (bytes ++ rest)) (drop-drop n at room ∙ ap (λ (k : ℕ). drop (at + k) room) (sym e))
    ∙ sym (append_assoc (take at room) bytes (drop (at + length bytes) room))
    ∙ sym (sets-eq bytes room at (omega arith))

-- ---- one list

-- a part of the list table is a list's carts
part_listed : (orders : Orders) (z n : ℕ) → length (take n (drop (16 * z) orders.list)) ≡ n
    → take n (drop (16 * z) orders.list) ≡ entries n 0 (listed orders z)
part_listed orders z n e =
    entries_is _ n (listed orders z) e (λ k h. get_or-take n (drop (16 * z) orders.list) k 0 h ∙ get_or-drop (16 * z) orders.list k 0)

-- bytes by a rule, one after the other
each_byte : (n i : ℕ) (rule : ℕ → ℕ) → ((k : ℕ) → k < i + n → rule k < 256) → each n i (λ k. bytes_of 1 (rule k)) ≡ entries n i rule
unfolding each entries
each_byte zero i rule h = refl
each_byte (suc n) i rule h =
    ap₂ (λ (a b : List ℕ). a ++ b) (byte_is (rule i) (h i (omega arith))) (each_byte n (i + 1) rule (λ k l. h k (omega arith)))

list_is : (orders : Orders) (z : ℕ) → WritableList orders z → list_bytes orders z ≡ count orders z ∷ entries (count orders z) 0 (listed orders z)
unfolding list_bytes
list_is orders z w =
    ap₂ (λ (a b : List ℕ). a ++ b) (byte_is (count orders z) (omega (arith, w.few))) (each_byte (count orders z) 0 (listed orders z) (λ k l. w.byte k (omega arith)))

module _ (orders : Orders) (z : ℕ) (room : List ℕ) (at : ℕ) where
  -- the room with the list's count stored
  abbrev counted : List ℕ
  counted = set room at (count orders z)

  counted_length : length counted ≡ length room
  counted_length = length-set room at (count orders z)

  -- and with its carts over the part after it
  pub list_stored : (carts : List ℕ) (n m k : ℕ) → WritableList orders z → n ≡ count orders z → m ≡ n → k ≡ n → at + 1 + count orders z ≤ length room
      → length carts ≡ length (take k (drop (at + 1) counted)) → carts ≡ take m (drop (16 * z) orders.list)
      → take (at + 1) counted ++ (carts ++ drop k (drop (at + 1) counted)) ≡ sets room at (list_bytes orders z)
  list_stored carts n m k w e em ek l part is =
      part_stored counted carts (at + 1) k (long ∙ sym ek) (omega (arith, counted_length))
      ∙ ap (λ (x : ℕ). sets counted x carts) (add-one at)
      ∙ ap (λ (l : List ℕ). sets room at (count orders z ∷ l)) all
      ∙ ap (sets room at) (sym (list_is orders z w))
    where
      long : length carts ≡ n
      long = part ∙ length-take-le k (drop (at + 1) counted) (omega (arith, counted_length, length-drop (at + 1) counted)) ∙ ek

      listed_part : carts ≡ take n (drop (16 * z) orders.list)
      listed_part = is ∙ ap (λ (x : ℕ). take x (drop (16 * z) orders.list)) em

      all : carts ≡ entries (count orders z) 0 (listed orders z)
      all = listed_part ∙ part_listed orders z n (ap length (sym listed_part) ∙ long) ∙ ap (λ (x : ℕ). entries x 0 (listed orders z)) e

-- ---- a whole plan

-- a plan has two bytes for its length
pub written_few : (n : ℕ) (orders : Orders) (room : List ℕ) → Writable n orders room → length (written n orders) < 65536
unfolding lists_bytes
written_few n orders room w =
    omega (
      arith,
      w.zones,
      length_written orders n,
      length_each_most n 0 17 (list_bytes orders) (λ z l. omega (arith, length_list_bytes orders z, (w.list z (omega arith)).few)),
    )

-- a room for a plan has its first four bytes, and is as long when they are written
pub room_head : (n : ℕ) (orders : Orders) (room : List ℕ) → Writable n orders room → length (take 4 room) ≡ 4
room_head n orders room w = length-take-le 4 room (omega (arith, length_written orders n, w.fits))

pub head_length : (n : ℕ) (orders : Orders) (room head : List ℕ) → Writable n orders room → length head ≡ 4 → length (head ++ drop 4 room) ≡ length room
head_length n orders room head w e = omega (arith, length_written orders n, w.fits, length-append head (drop 4 room), length-drop 4 room)

-- the first four bytes stored, and then the lists
pub store_head : (n : ℕ) (orders : Orders) (room head : List ℕ) (total : ℕ) → n ≤ 24 → total ≡ length (written n orders) → total ≤ length room
    → head ≡ 1 ∷ total / 256 % 256 ∷ total % 256 ∷ n ∷ [] → sets (head ++ drop 4 room) 4 (each n 0 (list_bytes orders)) ≡ sets room 0 (written n orders)
unfolding written lists_bytes bytes_of
store_head n orders room head total few e l is =
    let same : 4 + length (lists_bytes n orders) ≡ total = sym (e ∙ length_written orders n) in
    let byte : n % 256 ≡ n = mod-eq_of_lt (omega arith) in
    rw (same, byte) (ap (λ (x : List ℕ). sets x 4 (each n 0 (list_bytes orders)))
    (ap (λ (x : List ℕ). x ++ drop 4 room) is ∙ sym (sets-eq (1 ∷ total / 256 % 256 ∷ total % 256 ∷ n ∷ []) room 0 (omega (arith, same)))))

-- the lists below z are stored: what is left gives the whole, and ends at the plan's end
pub record Storing (orders : Orders) (n total : ℕ) (begin room : List ℕ) (at z : ℕ) : Type 0 where
  pub same : length room ≡ length begin
  pub ends : at + length (each (n - z) z (list_bytes orders)) ≡ total
  pub left : sets begin 4 (each n 0 (list_bytes orders)) ≡ sets room at (each (n - z) z (list_bytes orders))

module _ {orders : Orders} {n total : ℕ} where
  pub storing_start : (begin : List ℕ) → total ≡ length (written n orders) → Storing orders n total begin begin 4 0
  unfolding lists_bytes
  storing_start begin e =
      record {
        same = refl;
        ends = rw left_all (sym (e ∙ length_written orders n));
        left = rw left_all;
      }

  module _ {begin room : List ℕ} {at z : ℕ} (s : Storing orders n total begin room at z) where
    pub storing_room : z < n → total ≤ length begin → at + 1 + count orders z ≤ length room
    storing_room h l = omega (arith, s.same, s.ends, length_turn (list_bytes orders) n z h, length_list_bytes orders z)

    pub storing_turn : z < n → (next : ℕ) (after : List ℕ) → next ≡ at + 1 + count orders z → after ≡ sets room at (list_bytes orders z) → Storing
        orders n total begin after next (z + 1)
    unfolding each
    storing_turn h next after e f =
        let place : at + (1 + count orders z) ≡ next = omega arith in
        record {
          same = ap length f ∙ length-sets room at (list_bytes orders z) ∙ s.same;
          ends = omega (arith, s.ends, length_turn (list_bytes orders) n z h, length_list_bytes orders z);
          left =
              s.left
              ∙ ap (λ (m : ℕ). sets room at (each m z (list_bytes orders))) (left_suc n z h)
              ∙ sets_append room at (list_bytes orders z) (each (n - (z + 1)) (z + 1) (list_bytes orders))
              ∙ ap₂ (λ (l : List ℕ) (x : ℕ). sets l x (each (n - (z + 1)) (z + 1) (list_bytes orders))) (sym f)
              (ap (λ (x : ℕ). at + x) (length_list_bytes orders z) ∙ place);
        }

    pub storing_end : n ≤ z → room ≡ sets begin 4 (each n 0 (list_bytes orders))
    unfolding each
    storing_end h = sym (s.left ∙ rw (left_zero n z h))
