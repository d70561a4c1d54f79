-- "The ring is the repeating carts, begun at the lowest number, each with its wanted zone."
use Rattle.std.specs.Prelude.{ℕ, Bool, List, ◌∷◌, map, length, get_or, replicate, ltb}
use Rattle.std.proofs.Math.Option
use Rattle.words.specs.Lists.{entries}
use Rattle.moves.specs.System.{System, carts, pos}
use Rattle.moves.specs.Search.{lowest}
use Rattle.moves.specs.Rings.{ring_first, ring_rest}
use Rattle.routes.specs.Crossing.{zone}
use Rattle.routes.specs.Moves.{system}
use Rattle.routes.specs.Plans.{plan, points_to}
use Rattle.judge_ring.specs.declared.Ring.{Ring}

-- every part 0
abbrev pub no_ring : Ring
no_ring = record { length = 0; cart = replicate 16 0; zone = replicate 16 0 }

-- whether cart c is not out in state s
abbrev pub is_not_out : System → List ℕ → ℕ → Bool
is_not_out S s c = ltb (pos s c) (pos S.out c)

-- "the lowest-numbered cart that is stuck"; the number of carts where all are out
unfoldable pub lowest_stuck : System → List ℕ → ℕ
lowest_stuck S s = Option.get_or (lowest (is_not_out S s) (carts S)) (carts S)

-- 16 entries: those of a list, the unused ones 0
abbrev pub sixteen : List ℕ → List ℕ
sixteen list = entries 16 0 λ k. get_or list k 0

-- "Follow from" cart c "until a cart repeats": among n carts the repeating ones, the lowest first
unfoldable pub ring_from : (ℕ → ℕ) → ℕ → ℕ → List ℕ
ring_from to n c = ring_first to n c ∷ ring_rest to n c

-- the same "each with its wanted zone"
abbrev pub ring_by : (ℕ → ℕ) → (ℕ → ℕ) → ℕ → ℕ → Ring
ring_by to wanted n c = record { length = length (ring_from to n c); cart = sixteen (ring_from to n c); zone = sixteen (map wanted (ring_from to n c)) }

-- the ring that is come to from cart c where a plan's carts stand at s
abbrev pub ring_of : (ℕ → ℕ) → List (List ℕ) → List (List ℕ) → List ℕ → ℕ → Ring
ring_of front routes lists s c =
    let X = plan front routes lists in
    ring_by (points_to front routes lists s) (λ d. zone X d (pos s d)) (carts (system X)) c
