-- Lists stored one after the other.
use Prim.Native.Nat.{ℕ, suc, ◌+◌}
use mathlib.Core.Path.{◌≡◌, ap, ◌∙◌}
use mathlib.Core.List.{List, [], ◌∷◌, ◌++◌}
use native.Mathlib.Omega.{arith}
use lib.ListN.{length, set}
use lib.Seq.{sets}

pub sets_append : (room : List ℕ) (at : ℕ) (a b : List ℕ) → sets room at (a ++ b) ≡ sets (sets room at a) (at + length a) b
sets_append room at [] b = ap (λ (x : ℕ). sets room x b) (omega arith)
sets_append room at (v ∷ a) b = sets_append (set room at v) (suc at) a b ∙ ap (λ (x : ℕ). sets (sets (set room at v) (suc at) a) x b) (omega arith)
