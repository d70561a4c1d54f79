-- The text of document 01's sheet S with its plan A, line by line, and of a cart that waits at the stop line.
use Prim.Native.Nat.{ℕ}
use Prim.Native.String.{String}
use mathlib.Core.Path.{◌≡◌, refl}
use mathlib.Core.List.{List, [], ◌∷◌, ◌++◌}
use Rattle.words.specs.Lists.{each}
use Rattle.moves.specs.Search.{lowest}
use Rattle.routes.specs.Lists.{place_of, is_ahead}
use Rattle.routes.specs.Lanes.{highest, next_in_front}
use Rattle.routes.proofs.Examples.{A, L}
use Rattle.net_text.specs.Lines.{bytes, line_text, text_of, own_lines, other_lines, position_lines, cart_lines, net_lines, net_text}

-- each line ends in a line feed
abbrev lined : List String → List ℕ
lined [] = []
lined (line ∷ lines) = bytes line ++ bytes "\n" ++ lined lines

-- cart 1 goes behind cart 0 in both zones: into zone 1, which cart 0 leaves from its position 2, and then into zone 0, which it leaves from 1
text_A : net_text A
    ≡ lined (
    "place cart 00 00 -- --" ∷
    "transition 00 00 -- --" ∷
    "arc cart > 00 00 -- --" ∷
    "arc > cart 00 00 -- --" ∷
    "place cart 00 01 -- --" ∷
    "transition 00 01 -- --" ∷
    "arc cart > 00 01 -- --" ∷
    "arc > cart 00 01 -- --" ∷
    "place cart 00 02 -- --" ∷
    "transition 00 02 -- --" ∷
    "arc cart > 00 02 -- --" ∷
    "arc > cart 00 02 -- --" ∷
    "place cart 00 03 -- --" ∷
    "place cart 01 00 -- --" ∷
    "transition 01 00 -- --" ∷
    "arc cart > 01 00 -- --" ∷
    "arc > cart 01 00 -- --" ∷
    "place pair 01 00 00 --" ∷
    "arc > pair 01 00 00 02" ∷
    "arc pair > 01 00 00 --" ∷
    "place cart 01 01 -- --" ∷
    "transition 01 01 -- --" ∷
    "arc cart > 01 01 -- --" ∷
    "arc > cart 01 01 -- --" ∷
    "place pair 01 01 00 --" ∷
    "arc > pair 01 01 00 01" ∷
    "arc pair > 01 01 00 --" ∷
    "place cart 01 02 -- --" ∷
    "transition 01 02 -- --" ∷
    "arc cart > 01 02 -- --" ∷
    "arc > cart 01 02 -- --" ∷
    "place cart 01 03 -- --" ∷
    [])
unfolding net_text text_of line_text bytes net_lines cart_lines position_lines own_lines other_lines each place_of is_ahead lowest
text_A = refl

-- of carts 0 and 1 on one lane, which share no zone, cart 1 is behind: its first move waits for cart 0's first
text_L : text_of (cart_lines L 1)
    ≡ lined (
    "place cart 01 00 -- --" ∷
    "transition 01 00 -- --" ∷
    "arc cart > 01 00 -- --" ∷
    "arc > cart 01 00 -- --" ∷
    "place line 01 00 00 --" ∷
    "arc > line 01 00 00 00" ∷
    "arc line > 01 00 00 --" ∷
    "place cart 01 01 -- --" ∷
    "transition 01 01 -- --" ∷
    "arc cart > 01 01 -- --" ∷
    "arc > cart 01 01 -- --" ∷
    "place cart 01 02 -- --" ∷
    [])
unfolding text_of line_text bytes cart_lines position_lines own_lines other_lines each place_of is_ahead lowest next_in_front highest
text_L = refl
