-- Orders that agree before the carts that visit a zone, and fronts that agree for the carts that are there, make one net: it fires alike.
use Prim.Native.Nat.{ℕ, ◌<◌}
use mathlib.Core.Path.{◌≡◌, refl, sym, ◌∙◌}
use mathlib.Core.Bool.{Bool}
use mathlib.Core.List.{List, [], ◌∷◌}
use lib.ListN.{length, get_or}
use Rattle.routes.specs.inner.Lists.{Named}
use Rattle.routes.specs.Crossing.{Crossing, zone}
use Rattle.times.proofs.SameOrders.{front_same}
use Rattle.petri.specs.Net.{Place, at, between, line, Marking, begins, IsPlace, fired, Fires, fired_all, Dead}
use Rattle.net_firing.specs.Firing.{FiredOut}

module _ (routes : List (List ℕ)) (front front' : ℕ → ℕ) (before other : ℕ → ℕ → ℕ → Bool)
    (fronts : (c : ℕ) → 0 < length (get_or routes c []) → front c ≡ front' c)
    (agree : (z d c : ℕ) → Named (get_or routes c []) z → before z d c ≡ other z d c) where
  abbrev X : Crossing
  X = record { routes = routes; front = front; before = before }

  abbrev Y : Crossing
  Y = record { routes = routes; front = front'; before = other }

  place_to : (q : Place) → IsPlace X q → IsPlace Y q
  place_to (at c p) is = is
  place_to (between d c p) (h, b) = (h, sym (agree (zone X c p) d c (p, h, refl)) ∙ b)
  place_to (line d c) f = sym (front_same routes front front' before other fronts agree d c) ∙ f

  place_from : (q : Place) → IsPlace Y q → IsPlace X q
  place_from (at c p) is = is
  place_from (between d c p) (h, b) = (h, agree (zone X c p) d c (p, h, refl) ∙ b)
  place_from (line d c) f = front_same routes front front' before other fronts agree d c ∙ f

  fires_to : (M : Marking) (sequence : List (ℕ × ℕ)) → Fires X M sequence → Fires Y M sequence
  fires_to M [] fires = tt
  fires_to M ((x, r) ∷ later) (e, fires) =
      (record { transition = e.transition; tokens = λ q is. e.tokens q (place_from q is) }, fires_to (fired X M x r) later fires)

  left_same : (M : Marking) (sequence : List (ℕ × ℕ)) → fired_all Y M sequence ≡ fired_all X M sequence
  left_same M [] = refl
  left_same M ((x, r) ∷ later) = left_same (fired X M x r) later

  dead_to : (M : Marking) → Dead X M → Dead Y M
  dead_to M dead x r e = dead x r (record { transition = e.transition; tokens = λ q is. e.tokens q (place_to q is) })

  pub fired_same : (locked : ℕ) (position : List ℕ) → FiredOut X locked position → FiredOut Y locked position
  fired_same locked position f =
      let same = left_same begins f.sequence in
      record {
        sequence = f.sequence;
        fires = fires_to begins f.sequence f.fires;
        dead = rw same (dead_to (fired_all X begins f.sequence) f.dead);
        free = rw same f.free;
        locked_most = f.locked_most;
        told = rw same f.told;
        position_16 = f.position_16;
        absent = f.absent;
      }
