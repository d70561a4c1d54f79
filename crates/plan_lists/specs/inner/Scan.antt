-- Reading the lists as one pass over the bytes: what the scan's functions are held to. Each definition is the rest of the work from a place on.
use Rattle.std.specs.Prelude.{ℕ, zero, suc, ◌+◌, ◌*◌, ◌≡◌, not, ◌&&◌, List, get_or, set, replicate, eqb, Option, None, Result, Ok, Err}
use Rattle.std.specs.Int.Count.{ones}
use Rattle.words.specs.declared.Outcome.{Outcome}
use Rattle.fields.specs.declared.Cursor.{Cursor}
use Rattle.fields.specs.Field.{outside}
use Rattle.fields.specs.inner.Field.{taking}
use Rattle.sets.specs.inner.Member.{has}
use Rattle.plan.specs.declared.Orders.{Orders}
use Rattle.plan_lists.specs.inner.Sets.{with_cart, first_late}
use Rattle.plan_lists.specs.declared.ListScan.{ListScan}

-- a byte of a list, its count or a cart, with the cursor after it, or the refusal
abbrev pub Taken : Type 0
Taken = Result (ℕ × Cursor) Outcome

abbrev pub got : ℕ → Cursor → Taken
got v next = Ok (v, next)

-- the count of a list at a place, which is that of the carts that visit the zone
unfoldable pub count_taken : List ℕ → ℕ → ℕ → Taken
count_taken p who at = taking Err 15 p 1 (outside at) 19 (λ k. eqb k (ones who)) got

-- the cart at a place, which visits the zone and is not seen in its list before
unfoldable pub cart_taken : List ℕ → ℕ → ℕ → ℕ → Taken
cart_taken p who seen at = taking Err 15 p 1 (outside at) 19 (λ i. has who i && not (has seen i)) got

-- ---- what each byte does to the lists

-- the lists as far as they are read: at 16 * z + i of `before` stand the carts ahead of cart i in zone z's list
pub record Lists : Type 0 where
  pub count : List ℕ
  pub list : List ℕ
  pub before : List ℕ
  pub late : Option ℕ

abbrev pub no_lists : Lists
no_lists = record { count = replicate 24 0; list = replicate 384 0; before = replicate 384 0; late = None }

-- the lists as orders and sets of carts ahead have them
abbrev pub lists_in : Orders → List ℕ → Option ℕ → Lists
lists_in orders before late = record { count = orders.count; list = orders.list; before = before; late = late }

-- orders and sets of carts ahead with no list yet
abbrev pub Blank : Orders → List ℕ → Type 0
Blank orders before = (orders.count ≡ no_lists.count) × (orders.list ≡ no_lists.list) × (before ≡ no_lists.before)

abbrev pub put_count : Lists → ℕ → ℕ → Lists
put_count l z k = record { count = set l.count z k; list = l.list; before = l.before; late = l.late }

abbrev pub put_cart : Lists → ℕ → ℕ → ℕ → ℕ → Option ℕ → Lists
put_cart l z e i seen late =
    record {
      count = l.count;
      list = set l.list (16 * z + e) i;
      before = set l.before (16 * z + i) seen;
      late = late;
    }

-- ---- the rest of the work

-- how the scan ends: with the lists and the place after them, or with a refusal
abbrev pub Scanned : Type 0
Scanned = Result (Lists × ℕ) Outcome

-- what each case of a byte taken says: the value and the next place, to go on with, or the refusal
abbrev pub on_taken : Taken → (ℕ → ℕ → Scanned) → Scanned
on_taken (Ok (v, next)) go = go v next.at
on_taken (Err outcome) go = Err outcome

-- n entries from e on of zone z's list; `who` visit the zone, and `seen` are listed so far; then on
unfoldable pub carts_from : List ℕ → ℕ → List ℕ → ℕ → ℕ → ℕ → ℕ → Lists → ℕ → (Lists → ℕ → Scanned) → Scanned
carts_from p who lead z zero e seen l at go = go l at
carts_from p who lead z (suc n) e seen l at go =
    on_taken (cart_taken p who seen at) λ i next.
    carts_from p who lead z n (e + 1) (with_cart seen i) (put_cart l z e i seen (first_late l.late at seen (get_or lead i 0))) next go

-- the lists of n zones from z on
unfoldable pub lists_from : List ℕ → List ℕ → List ℕ → ℕ → ℕ → Lists → ℕ → Scanned
lists_from p who lead zero z l at = Ok (l, at)
lists_from p who lead (suc n) z l at =
    on_taken (count_taken p (get_or who z 0) at) λ k next.
    carts_from p (get_or who z 0) lead z k 0 0 (put_count l z k) next (lists_from p who lead n (z + 1))

-- the lists read to where the scan was left
abbrev pub read_to : ListScan → Orders → List ℕ → Scanned
read_to r orders before = Ok (lists_in orders before r.late, r.at)
