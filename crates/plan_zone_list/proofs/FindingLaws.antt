-- Finding a list, by what reading the plan answered and by the zone's number.
use Prim.Native.Nat.{ℕ, ◌+◌, ◌-◌, ◌≤◌, ◌<◌}
use mathlib.Core.Path.{◌≡◌, refl, sym, ap, subst, ◌∙◌}
use mathlib.Core.Bool.{true, false}
use mathlib.Core.List.{List, [], ◌∷◌}
use native.Mathlib.Omega.{arith}
use native.Mathlib.Decide.{dec_lt}
use native.Mathlib.Nat.{add-zero}
use lib.Dec.{ltb}
use lib.ListN.{length, get_or, take, drop, length-drop}
use lib.Seq.{length-take-le, get_or-take, get_or-drop}
use borrow.Author.Tests.{lt-ltb, le-ltb}
use Rattle.words.specs.Checks.{Check, check, done, refused, first_failing}
use Rattle.words.proofs.Entries.{entries_is}
use Rattle.fields.specs.Field.{value}
use Rattle.words.specs.declared.Outcome.{Outcome}
use Rattle.sheet.specs.Reading.{sheet_of}
use Rattle.sheet.specs.declared.Sheet.{Sheet}
use Rattle.plan.specs.Layout.{count_at, count_of, cart_at}
use Rattle.plan.specs.Reading.{plan_refused, plan_done, read_plan}
use Rattle.plan.specs.Valid.{sum_below, passing_list}
use Rattle.plan.specs.Written.{count, listed}
use Rattle.plan.specs.declared.Orders.{Orders}
use Rattle.plan.specs.declared.PlanRead.{PlanRead}
use Rattle.plan.proofs.Further.{further_refused, further_read}
use Rattle.plan.proofs.Shows.{ShowsList}
use Rattle.plan.proofs.Readable.{count_at_sum, readable_whole, readable_sheet, readable_valid, readable_shows}
use Rattle.plan_zone_list.specs.Finding.{not_found, list_found, find_list, FoundIs}
use Rattle.plan_zone_list.specs.declared.ListFound.{ListFound}

byte_value : (s : List ℕ) (x : ℕ) → get_or s x 0 ≡ value s x 1
unfolding value
byte_value s x = omega (arith, ap (λ (y : ℕ). get_or s y 0) (add-zero x))

module _ (s p : List ℕ) (zone : ℕ) where
  refused_is : ((read_plan s p).outcome.number ≡ 0 → ⊥) → FoundIs s p zone (not_found (read_plan s p).outcome)
  unfolding find_list
  refused_is n = record { is = sym (further_refused _ _ s p _ n); fits = omega arith }

  module _ (e : (read_plan s p).outcome.number ≡ 0) where
    abbrev sheet : Sheet
    sheet = (read_plan s p).sheet

    abbrev orders : Orders
    orders = (read_plan s p).orders

    same_zones : sheet.zones ≡ (sheet_of s).zones
    same_zones = ap (λ (r : PlanRead). r.sheet.zones) (readable_whole s p e)

    shown : (z : ℕ) → z < sheet.zones → ShowsList p orders z
    shown z h = (readable_shows s p e).list z h

    at : zone < sheet.zones → count_at p zone ≡ 4 + zone + sum_below zone (count orders)
    at l = count_at_sum p zone (count orders) (λ z h. (shown z (omega arith)).count_is.keeps)

    -- what finding checks of its own
    abbrev own : List Check
    own = check 27 0 (ltb zone (sheet_of s).zones) ∷ []

    unknown_is : sheet.zones ≤ zone → FoundIs s p zone (not_found (refused 27 0))
    unfolding find_list first_failing
    unknown_is l =
        let unknown : ltb zone (sheet_of s).zones ≡ false = le-ltb _ _ (rw same_zones at l) in
        record { is = sym (further_read not_found (list_found p zone) s p own e ∙ rw unknown); fits = omega arith }

    found_is : zone < sheet.zones → (sum : ℕ) → sum ≡ sum_below zone (count orders) → FoundIs s p zone
        (record { outcome = (read_plan s p).outcome; start = 5 + zone + sum; length = count orders zone })
    unfolding find_list first_failing
    found_is l sum q =
        let known : ltb zone (sheet_of s).zones ≡ true = lt-ltb _ _ (rw same_zones at l) in
        record { is = found ∙ sym (further_read not_found (list_found p zone) s p own e ∙ rw known); fits = inside (dec_lt 0 (count orders zone)) }
      where
        start : 5 + zone + sum ≡ cart_at p zone 0
        start = omega (arith, at l, q)

        found : ◌≡◌ {A = ListFound} (record { outcome = (read_plan s p).outcome; start = 5 + zone + sum; length = count orders zone })
            (record { outcome = done; start = cart_at p zone 0; length = count_of p zone })
        found = rw (ap (λ (r : PlanRead). r.outcome) (readable_whole s p e), start, (shown zone l).count_is.keeps)

        inside : Dec (0 < count orders zone) → 5 + zone + sum + count orders zone ≤ length p
        inside (yes some) = omega (arith, start, ((shown zone l).cart_is (count orders zone - 1) (omega arith)).there)
        inside (no none) = omega (arith, start, none, (shown zone l).count_is.there)

    -- the part is the zone's order
    pub part_list : zone < sheet.zones → take (find_list s p zone).length (drop (find_list s p zone).start p) ≡ passing_list orders zone
    part_list l =
        let f = found_is l _ refl in
        ap (λ (r : ListFound). take r.length (drop r.start p)) (sym f.is)
        ∙ entries_is (take (count orders zone) (drop (5 + zone + sum_below zone (count orders)) p)) (count orders zone) (listed orders zone) sized same
      where
        start : ℕ
        start = 5 + zone + sum_below zone (count orders)

        fits : start + count orders zone ≤ length p
        fits = (found_is l _ refl).fits

        sized : length (take (count orders zone) (drop start p)) ≡ count orders zone
        sized = length-take-le (count orders zone) (drop start p) (rw (length-drop start p) (omega (arith, fits)))

        place : (k : ℕ) → start + k ≡ cart_at p zone k
        place k = omega (arith, at l)

        same : (k : ℕ) → k < count orders zone → get_or (take (count orders zone) (drop start p)) k 0 ≡ listed orders zone k
        same k h = get_or-take (count orders zone) (drop start p) k 0 h ∙ get_or-drop start p k 0 ∙ ap (λ (x : ℕ). get_or p x 0) (place k) ∙ byte_value p
            (cart_at p zone k) ∙ ((shown zone l).cart_is k h).keeps

-- the same of what reading both gave
pub list_refused : (s p : List ℕ) (zone : ℕ) (outcome : Outcome) → 0 < outcome.number → read_plan s p ≡ plan_refused outcome
    → FoundIs s p zone (not_found outcome)
list_refused s p zone outcome some e = rw e at (refused_is s p zone) (omega (arith, some))

module _ (s p : List ℕ) (zone : ℕ) (sheet : Sheet) (orders : Orders) (is : read_plan s p ≡ plan_done sheet orders) where
  read : (read_plan s p).outcome.number ≡ 0
  read = ap (λ (r : PlanRead). r.outcome.number) is

  pub list_unknown : sheet.zones ≤ zone → FoundIs s p zone (not_found (refused 27 0))
  list_unknown = subst (λ (r : PlanRead). r.sheet.zones ≤ zone → FoundIs s p zone (not_found (refused 27 0))) is (unknown_is s p zone read)

  pub list_zones : sheet.zones ≤ 24
  list_zones = subst (λ (r : PlanRead). r.sheet.zones ≤ 24) is (readable_sheet s p read).zones_most

  pub list_counts : length orders.count ≡ 24
  list_counts = subst (λ (r : PlanRead). length r.orders.count ≡ 24) is (readable_valid s p read).shaped.count_24

  pub list_found_lem : zone < sheet.zones → (sum : ℕ) → sum ≡ sum_below zone (count orders) → FoundIs s p zone
      (record { outcome = done; start = 5 + zone + sum; length = count orders zone })
  list_found_lem =
      subst (λ (r : PlanRead). zone < r.sheet.zones → (sum : ℕ) → sum ≡ sum_below zone (count r.orders) → FoundIs s p zone
      (record { outcome = r.outcome; start = 5 + zone + sum; length = count r.orders zone })) is (found_is s p zone read)
