-- "Build the places and transitions .. from a sheet and plan .. and fire transitions until none can fire. .. Write the net as text".
use Rattle.std.specs.Prelude.{ℕ, ◌≡◌, List, [], ◌∷◌, ◌++◌, length, replicate, leb}
use Rattle.words.specs.Checks.{Check, check, done, first_failing, AllPass}
use Rattle.words.specs.declared.Outcome.{Outcome}
use Rattle.routes.specs.Crossing.{Crossing}
use Rattle.sheet.specs.Reading.{sheet_of}
use Rattle.plan.specs.Reading.{orders_of, reading_checks}
use Rattle.crossing.specs.Plans.{plan_crossing}
use Rattle.net_firing.specs.Firing.{FiredOut}
use Rattle.net_text.specs.Lines.{net_text, with_text}
use Rattle.net.specs.declared.NetRun.{NetRun}

-- "On refusal every other part of the answer is 0"
abbrev pub not_netted : Outcome → NetRun
not_netted outcome = record { outcome = outcome; length = 0; locked = 0; position = replicate 16 0 }

abbrev pub netted : ℕ → ℕ → List ℕ → NetRun
netted length locked position = record { outcome = done; length = length; locked = locked; position = position }

module _ (X : Crossing) where
  -- "then 28 for the text's room"
  abbrev pub text_fits : ℕ → Check
  text_fits room = check 28 0 (leb (length (net_text X)) room)

  -- the answer under some checks: the text's length, and the verdict and the positions of firing until no transition can fire; a locked plan is an answer
  pub record RunOf (checks : List Check) (r : NetRun) : Type 0 where
    pub locked : ℕ
    pub position : List ℕ
    pub fired : AllPass checks → FiredOut X locked position
    pub answer : r ≡ first_failing not_netted (netted (length (net_text X)) locked position) checks

  -- what the room then holds: the text at its start, or on refusal what it held
  unfoldable pub room_of : List Check → List ℕ → List ℕ
  room_of checks room = first_failing (λ _. room) (with_text (net_text X) room) checks

module _ (s p : List ℕ) where
  -- the crossing of a sheet and a plan
  abbrev pub crossing_read : Crossing
  crossing_read = plan_crossing (sheet_of s) (orders_of (sheet_of s) p)

  -- "Refusals: 1 to 21, then 28 for the text's room."
  abbrev pub net_checks : ℕ → List Check
  net_checks room = reading_checks s p ++ (text_fits crossing_read room ∷ [])

  -- the answer, with room for so many bytes
  abbrev pub NetRunIs : ℕ → NetRun → Type 0
  NetRunIs room r = RunOf crossing_read (net_checks room) r

  abbrev pub room_after : List ℕ → List ℕ
  room_after room = room_of crossing_read (net_checks (length room)) room
