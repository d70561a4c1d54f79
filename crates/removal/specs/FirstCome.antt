-- First come, first through: "every shared zone goes by arrival, then cart number".
use Rattle.std.specs.Prelude.{◌&&◌}
use Rattle.routes.specs.Crossing.{Crossing}
use Rattle.removal.specs.Pairs.{Unplanned, comes_before, visits, front_in}

-- the orders that the plain rule gives: in a zone that both visit, whoever comes before goes before, on one lane too
unfoldable pub first_come : Unplanned → Crossing
first_come U = record { routes = U.routes; front = front_in U; before = λ z d c. (visits U d z && visits U c z) && comes_before U d c }
