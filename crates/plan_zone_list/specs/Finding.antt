-- The list operation: "The list operation hands back the zone's passing list as the very part of the plan lent."
use Rattle.std.specs.Prelude.{ℕ, ◌+◌, ◌≤◌, ◌≡◌, List, [], ◌∷◌, ◌++◌, length, take, drop, ltb}
use Rattle.std.specs.Borrow.{Bor}
use Rattle.words.specs.Checks.{Check, check, done, first_failing}
use Rattle.words.specs.declared.Outcome.{Outcome}
use Rattle.sheet.specs.Reading.{sheet_of}
use Rattle.plan.specs.Layout.{count_of, cart_at}
use Rattle.plan.specs.Reading.{reading_checks}
use Rattle.plan_zone_list.specs.declared.ListFound.{ListFound}

-- "the list operation 1 to 21 and 27"
abbrev pub finding_checks : List ℕ → List ℕ → ℕ → List Check
finding_checks s p zone = reading_checks s p ++ (check 27 0 (ltb zone (sheet_of s).zones) ∷ [])

-- "the returned list is empty"
abbrev pub not_found : Outcome → ListFound
not_found outcome = record { outcome = outcome; start = 0; length = 0 }

-- the zone's list stands in the plan at its first cart, and is as long as its count
abbrev pub list_found : List ℕ → ℕ → ListFound
list_found p zone = record { outcome = done; start = cart_at p zone 0; length = count_of p zone }

unfoldable pub find_list : List ℕ → List ℕ → ℕ → ListFound
find_list s p zone = first_failing not_found (list_found p zone) (finding_checks s p zone)

-- what finding ensures: the place, and that it lies within the plan
pub record FoundIs (s p : List ℕ) (zone : ℕ) (r : ListFound) : Type 0 where
  pub is : r ≡ find_list s p zone
  pub fits : r.start + r.length ≤ length p

-- the very part lent: its bytes, in the plan's own memory, from the list's start on
pub record PartIs (s : List ℕ) (p : Bor (List ℕ)) (zone : ℕ) (r : Bor (List ℕ)) : Type 0 where
  pub bytes : r.now ≡ take (find_list s p.now zone).length (drop (find_list s p.now zone).start p.now)
  pub block : r.ref_ptr.0 ≡ p.ref_ptr.0
  pub place : r.ref_ptr.1 ≡ (find_list s p.now zone).start + p.ref_ptr.1
