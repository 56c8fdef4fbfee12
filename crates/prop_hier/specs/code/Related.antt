-- What is asked about a relation of the members of a sequence: the pairs that it compares, beside one more member, and
-- guesses on these.
use Rattle.std.specs.Prelude.{◌≡◌, ℕ, ℤ, Bool, false, List, [], ◌∷◌, Option, IsTrue}
use Rattle.sched_base.specs.declared.ids.Itv.{Itv}
use Rattle.sched_base.specs.declared.ids.Seq.{Seq}
use Rattle.sched_model.specs.declared.types.Constraint.{Constraint}
use Rattle.sched_model.specs.declared.types.Constraint.TheVariants.{First, Last, Before, Prev}
use Rattle.sched_model.specs.Data.{Data, has}
use Rattle.region.specs.declared.types.Claim.TheVariants.{Present}
use Rattle.region.specs.declared.types.Topic.{Topic}
use Rattle.region.specs.declared.types.Topic.TheVariants.{One, Two}
use Rattle.region.specs.declared.types.Guess.{Guess}
use Rattle.region.specs.Cells.{Region}
use Rattle.region.specs.Guesses.{topic}
use Rattle.region.specs.Looks.{seen_at}
use Rattle.findings.specs.declared.finding.Pair.{Pair}
use Rattle.findings.specs.Ends.{is_asked}
use Rattle.findings.specs.code.Reads.{has_pair, is_paired}
use Rattle.refute_hier.specs.declared.witness.HierWitness.{HierWitness}
use Rattle.refute_hier.specs.declared.witness.HierWitness.TheVariants.{SeqRel}
use Rattle.refute_hier.specs.Hier.{refutes}

abbrev pub pair : Seq → Itv → Itv → Pair
pair p x y = record { sequence = p; first = x; second = y }

abbrev pub pairs_of : Constraint → Itv → List Pair
pairs_of (First p a) x = pair p a x ∷ []
pairs_of (Last p a) x = pair p a x ∷ []
pairs_of (Before p a b) x = pair p a b ∷ []
pairs_of (Prev p a b) x = pair p a b ∷ pair p a x ∷ pair p x b ∷ []
pairs_of _ x = []

-- that one of a pair is present, or that one of a pair stands before the other
abbrev pub asks_pairs : List Pair → Topic → Bool
asks_pairs ps (One z Present) = is_paired ps z
asks_pairs ps (One z c) = false
asks_pairs ps (Two p x y) = has_pair ps p x y

-- the witness refutes neither the region nor under an open guess of this form
abbrev pub IsSilent : Data → Region → Option ℤ → HierWitness → List Pair → Type 0
IsSilent m r best w ps = (guess : Option Guess) → IsTrue (is_asked (λ g. asks_pairs ps (topic g)) r guess) → refutes m (seen_at r best guess) w ≡ false

-- the same of the witnesses that name one of these, and constraint c, which is this relation
abbrev pub AreSilent : Data → Region → Option ℤ → Constraint → ℕ → List Itv → Type 0
AreSilent m r best d c xs = (x : Itv) → IsTrue (has xs x) → IsSilent m r best (SeqRel c x.0) (pairs_of d x)
