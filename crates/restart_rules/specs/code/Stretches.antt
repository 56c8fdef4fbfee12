-- The stretch of a search under way.
use Rattle.std.specs.Prelude.{◌≡◌, ℕ, ◌+◌, ◌<◌, false, List, [], ◌∷◌}
use Rattle.kernel.specs.declared.types.Line.{Line}
use Rattle.restart_rules.specs.Restarts.{Limits, Stretch, limits_of, stretch_after, is_over}

-- the stretch behind some lines
abbrev pub stretch_in : {W : Type 0} → Stretch → List (Line W) → Stretch
stretch_in k [] = k
stretch_in k (line ∷ lines) = stretch_in (stretch_after line k) lines

-- the limits of a search, and the stretch that it is in
pub record Plan : Type 0 where
  pub limits : Limits
  pub stretch : Stretch

abbrev pub plan_of : ℕ → ℕ → Stretch → Plan
plan_of nodes restarts k = record { limits = limits_of nodes restarts; stretch = k }

-- a node was closed
abbrev pub with_closed : Plan → Plan
with_closed p = record p { stretch = record p.stretch { closed = p.stretch.closed + 1 } }

-- it has begun anew
abbrev pub begun_anew : Plan → Plan
begun_anew p = record p { stretch = record { restarts = p.stretch.restarts + 1; closed = 0 } }

-- a further node may be opened, and that without a restart before it
pub record MayOpen (p : Plan) (nodes : ℕ) : Type 0 where
  pub more : nodes < p.limits.nodes
  pub ongoing : is_over p.limits.restarts p.stretch ≡ false
