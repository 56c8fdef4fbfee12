-- Guesses that one of a pair of members is present.
use Rattle.std.specs.Prelude.{◌≡◌, ℤ, Bool, false, ◌&&◌, List, Option, Some, IsTrue}
use Rattle.sched_base.specs.declared.ids.Itv.{Itv}
use Rattle.sched_model.specs.Data.{Data}
use Rattle.region.specs.declared.types.Guess.{Guess}
use Rattle.region.specs.declared.types.Guess.TheVariants.{Present}
use Rattle.region.specs.Cells.{Region}
use Rattle.region.specs.Guesses.{admits}
use Rattle.region.specs.Looks.{seen_at}
use Rattle.findings.specs.declared.finding.Pair.{Pair}
use Rattle.findings.specs.code.Reads.{is_paired}
use Rattle.refute_hier.specs.declared.witness.HierWitness.{HierWitness}
use Rattle.refute_hier.specs.Hier.{refutes}

-- it is open whether the interval is present, and the witness refutes the region where it is
abbrev pub refuted_present : Data → Region → Option ℤ → HierWitness → Itv → Bool
refuted_present m r best w x = admits r (Present x) && refutes m (seen_at r best (Some (Present x))) w

-- this is so of one of a pair, which the guess names
pub record IsRefutedPresence (m : Data) (r : Region) (best : Option ℤ) (w : HierWitness) (ps : List Pair) (g : Guess) : Type 0 where
  pub member : Itv
  pub is : g ≡ Present member
  pub paired : IsTrue (is_paired ps member)
  pub refuted : IsTrue (refuted_present m r best w member)

-- and of none
abbrev pub NoPresenceRefuted : Data → Region → Option ℤ → HierWitness → List Pair → Type 0
NoPresenceRefuted m r best w ps = (x : Itv) → IsTrue (is_paired ps x) → refuted_present m r best w x ≡ false
