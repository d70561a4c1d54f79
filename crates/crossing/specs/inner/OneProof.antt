-- What is asked of a crossing has one proof at most, as a fact beside the fields of a struct must have: a route that names a zone once names it at one place.
use Rattle.std.specs.Prelude.{ℕ, ◌≡◌, ◌<◌, length, get_or}
use Rattle.std.specs.Coded.{le_prop}
use Rattle.std.proofs.Common.{sym, ◌∙◌}
use Rattle.std.proofs.Props.{props}
use Rattle.std.proofs.Math.Nat.{ℕ_set}
use mathlib.Core.HLevel.{is_prop→PathP}
use Rattle.routes.specs.Crossing.{Crossing, route}
use Rattle.routes.specs.inner.Lists.{Named}
use Rattle.routes.specs.inner.Orders.{NamesOnce}
use Rattle.routes.proofs.Places.{place_is}
use Rattle.times.specs.Times.{Given}
use Rattle.crossing.specs.inner.Sound.{Sound}

visits_one : (X : Crossing) (d z : ℕ) → NamesOnce X → IsProp (Named (route X d) z)
visits_one X d z once (e, below, here) (k, within, there) = λ i. (
  same i,
  is_prop→PathP (λ j. same j < length (route X d)) (λ j. le_prop) below within i,
  is_prop→PathP (λ j. get_or (route X d) (same j) 0 ≡ z) (λ j. ℕ_set (get_or (route X d) (same j) 0) z) here there i,
)
  where
    same : e ≡ k
    same = sym (place_is (route X d) z (once d) e below here) ∙ place_is (route X d) z (once d) k within there

pub sound_one : (X : Crossing) (G : Given) → IsProp (Sound X G)
sound_one X G = Prim.hlevel (visits_one, props)
