-- Where a log begins anew.
use Rattle.std.specs.Prelude.{◌≡◌, ℕ, ◌+◌, ◌*◌, ◌^◌, Bool, not, ◌&&◌, List, [], ◌∷◌, is_some, nat_eq, nat_lt, Ok}
use Rattle.sched_model.specs.Words.{is_empty}
use Rattle.sched_model.specs.Data.{Data}
use Rattle.region.specs.Looks.{Refuting}
use Rattle.kernel.specs.declared.types.Witness.{Witness}
use Rattle.kernel.specs.declared.types.Line.{Line}
use Rattle.kernel.specs.declared.types.Line.TheVariants.{Derive, Fail, Split, Sol, Restart}
use Rattle.kernel.specs.Steps.{LogState, step, opening, is_restart}

-- so many nodes are opened at most, and so often the search begins anew at most
pub record Limits : Type 0 where
  pub nodes : ℕ
  pub restarts : ℕ

abbrev pub limits_of : ℕ → ℕ → Limits
limits_of nodes restarts = record { nodes = nodes; restarts = restarts }

-- how often it has begun anew, and how many nodes were closed since then
pub record Stretch : Type 0 where
  pub restarts : ℕ
  pub closed : ℕ

abbrev pub first_stretch : Stretch
first_stretch = record { restarts = 0; closed = 0 }

-- a line that derives closes no node
abbrev pub stretch_after : {W : Type 0} → Line W → Stretch → Stretch
stretch_after (Derive g w) k = k
stretch_after (Fail w) k = record k { closed = k.closed + 1 }
stretch_after (Split g) k = record k { closed = k.closed + 1 }
stretch_after (Sol a) k = record k { closed = k.closed + 1 }
stretch_after Restart k = record { restarts = k.restarts + 1; closed = 0 }

-- the stretch has its whole length, a hundred nodes, and twice as many after each restart; and one more restart may come
abbrev pub is_over : ℕ → Stretch → Bool
is_over most k = nat_lt k.restarts most && nat_eq k.closed (100 * 2 ^ k.restarts)

-- no region is current and one waits, further nodes may be opened, and the stretch is over
abbrev pub is_due : Limits → Stretch → LogState → Bool
is_due l k s = not (is_some s.current) && not (is_empty s.waiting) && nat_lt s.nodes l.nodes && is_over l.restarts k

-- from this state on, in this stretch, a line begins anew exactly where that is due
abbrev pub RestartsFrom : {W : Type 0} → Refuting (Witness W) → Data → Limits → Stretch → LogState → List (Line W) → Type 0
RestartsFrom refutes m l k s [] = Unit {0}
RestartsFrom refutes m l k s (line ∷ lines) = (is_restart line ≡ is_due l k s) × ((t : LogState) → step refutes m line s ≡ Ok t → RestartsFrom refutes m l (stretch_after line k) t lines)

-- The restart rule, of the lines of a log.
abbrev pub MeetsRestartRule : {W : Type 0} → Refuting (Witness W) → Data → Limits → List (Line W) → Type 0
MeetsRestartRule refutes m l lines = RestartsFrom refutes m l first_stretch (opening m) lines
