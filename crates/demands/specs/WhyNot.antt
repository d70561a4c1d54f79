-- Request #105: "answer the chain: this cart wants zone Z (or the move out), held by that cart, which wants the next, down to a cart that may move
-- now. Each link follows the ring's pointing rule in the lent record, lane included; the last cart's move is permitted, and no cart stands in the
-- chain twice. Refusals: as for moving up to 25; 26 is never given, and this is shown."
use Rattle.std.specs.Prelude.{ℕ, suc, ◌-◌, ◌≤◌, ◌<◌, ◌≡◌, ◌≢◌, ◌⊎◌, List, get_or}
use Rattle.moves.specs.System.{pos}
use Rattle.routes.specs.Crossing.{steps, zone}
use Rattle.routes.specs.Moves.{ByRule}
use Rattle.moving_record.specs.declared.Record.{Record}
use Rattle.moving_why.specs.declared.Chain.{Chain}
use Rattle.demands.specs.DemandTwo.{planned}
use Rattle.demands.specs.DemandThree.{WaitsFor}

-- cart k of a chain, and the zone that it wants
abbrev pub link : Chain → ℕ → ℕ
link chain k = get_or chain.cart k 0

abbrev pub wants : Chain → ℕ → ℕ
wants chain k = get_or chain.zone k 0

-- "26 is never given"
abbrev pub NeverHeld : Chain → Type 0
NeverHeld chain = chain.outcome.number ≢ 26

module _ (s p : List ℕ) (lent : Record) (asked : ℕ) where
  -- cart c wants zone z; or it wants the move out, and zone 0 is shown
  abbrev pub IntoZone : ℕ → ℕ → Type 0
  IntoZone c z = (pos lent.position c < steps (planned s p) c) × (zone (planned s p) c (pos lent.position c) ≡ z)

  abbrev pub MoveOut : ℕ → ℕ → Type 0
  MoveOut c z = (pos lent.position c ≡ steps (planned s p) c) × (z ≡ 0)

  pub record ChainShown (chain : Chain) : Type 0 where
    pub some_carts : 1 ≤ chain.length
    pub few : chain.length ≤ 16
    -- "this cart"
    pub begins : link chain 0 ≡ asked
    -- "held by that cart, which wants the next": all but the last want a zone
    pub waits_for_next : (k : ℕ) → suc k < chain.length → WaitsFor s p lent.position (link chain k) (wants chain k) (link chain (suc k))
    -- "down to a cart that may move now": "the last cart's move is permitted"
    pub may_move : ByRule (planned s p) lent.position (link chain (chain.length - 1))
    -- "wants zone Z (or the move out)"
    pub last_wants : (IntoZone (link chain (chain.length - 1)) (wants chain (chain.length - 1)) × (chain.out ≡ 0))
        ⊎ (MoveOut (link chain (chain.length - 1)) (wants chain (chain.length - 1)) × (chain.out ≡ 1))
    -- "no cart stands in the chain twice"
    pub distinct : (i k : ℕ) → i < k → k < chain.length → link chain i ≢ link chain k
