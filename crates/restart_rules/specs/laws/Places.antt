-- Where a restart is due in a search: not before its stretch is over, and then between two nodes.
use Rattle.std.specs.Prelude.{◌≡◌, ℕ, ◌<◌, ℤ, true, false, not, ◌&&◌, List, ◌∷◌, Option, None, is_some, nat_lt}
use Rattle.std.proofs.Common.{refl, sym, arith}
use Rattle.std.proofs.lemmas.Bool.Decides.{nat_tests}
use Rattle.base_laws.specs.laws.Truth.{never_both}
use Rattle.sched_model.specs.Words.{is_empty}
use Rattle.sched_model.specs.Data.{Data}
use Rattle.region.specs.Cells.{Region}
use Rattle.region.specs.Looks.{Refuting}
use Rattle.kernel.specs.declared.types.Witness.{Witness}
use Rattle.kernel.specs.declared.types.Line.{Line}
use Rattle.kernel.specs.declared.types.Found.{Found}
use Rattle.kernel.specs.Derives.{Derives, stays, learns}
use Rattle.kernel.specs.Steps.{LogState}
use Rattle.restart_rules.specs.Restarts.{Limits, Stretch, is_over, is_due, RestartsFrom}
use Rattle.restart_rules.specs.code.Stretches.{stretch_in}

-- while a stretch goes on none is due
pub ongoing_not_due : (l : Limits) (k : Stretch) (s : LogState) → is_over l.restarts k ≡ false → is_due l k s ≡ false
ongoing_not_due l k s ongoing = never_both (not (is_some s.current) && not (is_empty s.waiting) && nat_lt s.nodes l.nodes) (is_over l.restarts k) ongoing

-- so lines that derive meet the rule
pub derives_ongoing : {W : Type 0} {refutes : Refuting (Witness W)} {m : Data} {best : Option ℤ} {r q : Region} {lines : List (Line W)} (l : Limits) (k : Stretch) (s : LogState) → is_over l.restarts k ≡ false → Derives refutes m best r lines q
    → RestartsFrom refutes m l k s lines
derives_ongoing l k s ongoing stays = tt
derives_ongoing l k s ongoing (learns first rest) = (sym (ongoing_not_due l k s ongoing), λ t is. derives_ongoing l k t ongoing rest)

-- and they close no node
pub derives_stretch : {W : Type 0} {refutes : Refuting (Witness W)} {m : Data} {best : Option ℤ} {r q : Region} {lines : List (Line W)} (k : Stretch) → Derives refutes m best r lines q → stretch_in k lines ≡ k
derives_stretch k stays = refl
derives_stretch k (learns first rest) = derives_stretch k rest

-- where it is over, and no region is current, one waits and a further node may be opened, one is due
pub over_due : (l : Limits) (k : Stretch) (r : Region) (rs : List Region) (nodes : ℕ) (found : Option Found) → nodes < l.nodes → is_over l.restarts k ≡ true
    → is_due l k (record { current = None; waiting = r ∷ rs; nodes = nodes; found = found }) ≡ true
over_due l k r rs nodes found more over = rw over (grind (arith, nat_tests, more))
