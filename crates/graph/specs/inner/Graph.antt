-- What document 001 calls a vertex of its graph, and a deadlock.
use Rattle.std.specs.Prelude.{ℕ, ◌≢◌, List}
use Rattle.moves.specs.System.{System}
use Rattle.moves.specs.inner.Runs.{Stuck}
use Rattle.moves.specs.inner.Records.{Reached}
use Rattle.routes.specs.Crossing.{Crossing}
use Rattle.graph.specs.Graph.{Next}

module _ (X : Crossing) where
  -- "There is a vertex u i j j' if and only if there is a Type-1 edge (v i j, v i j') in G'."
  abbrev pub Vertex : ℕ → ℕ → ℕ → Type 0
  Vertex i j j' = Next X i j j'

-- "there exists a deadlock": a run comes to where no cart may move and not all are out
abbrev pub Deadlock : System → Type 0
Deadlock S = (s : List ℕ) × Reached S s × Stuck S s × (s ≢ S.out)
