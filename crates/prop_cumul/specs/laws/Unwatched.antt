-- A quiet propagator stays quiet where nothing that it watches changes.
use Rattle.std.specs.Prelude.{◌≡◌, ℕ, ℤ, true, ◌&&◌, [], Option, IsTrue, slice_get}
use Rattle.std.proofs.Common.{sym, ap, subst}
use Rattle.sched_model.specs.Data.{Data}
use Rattle.region.specs.declared.types.CellName.{CellName}
use Rattle.region.specs.declared.types.Guess.{Guess}
use Rattle.region.specs.Cells.{Region}
use Rattle.region.specs.Guesses.{SameCell, topic}
use Rattle.region.specs.Looks.{IsRegionOf}
use Rattle.findings.specs.code.Reads.{reads_cell, LooksOnlyAt, is_among}
use Rattle.findings.specs.laws.Kept.{quiet_kept}
use Rattle.findings.specs.laws.Members.{each_among}
use Rattle.refute_cumul.specs.declared.witness.CumulWitness.{CumulWitness}
use Rattle.refute_cumul.specs.declared.witness.CumulWitness.TheVariants.{Point}
use Rattle.refute_cumul.specs.Witness.{is_valid, constraint_of}
use Rattle.refute_cumul.specs.OnCumul.{refutes}
use Rattle.refute_cumul.specs.Listed.{names_of, lists}
use Rattle.refute_cumul.specs.laws.Alike.{point_alike}
use Rattle.prop_cumul.specs.code.Tasks.{looks_after, reads_of, watching, watching_best, quiet}
use Rattle.prop_cumul.specs.laws.Owners.{owned}

pub looks : (m : Data) (w : CumulWitness) → LooksOnlyAt refutes m w (reads_of m (constraint_of w))
looks m (Point c t u) l k of also alike best = ap (λ b. is_valid (Point c t u) && b) (point_alike m l k c t u alike.bounds)

-- the row lists guesses on these intervals alone
lists_among : (m : Data) (w : CumulWitness) (g : Guess) → lists m w g ≡ true → is_among (names_of m (slice_get m.constraints (constraint_of w))) [] (topic g) ≡ true
lists_among m (Point c t u) g h = each_among (names_of m (slice_get m.constraints c)) (topic g) h

pub unwatched : (m : Data) (k : ℕ) (r q : Region) (b c : Option ℤ) → IsRegionOf m r → IsRegionOf m q → ((cell : CellName) → IsTrue (watching m k cell) → SameCell cell r q) → (IsTrue (watching_best m k) → b ≡ c) → quiet m k r b → quiet m k q c
unwatched m k r q b c of also cells best still =
    quiet_kept refutes lists (λ n w. looks_after n k w) m (λ w. reads_of m (constraint_of w)) r q b c
    (λ w mine. looks m w)
    (λ w g mine listed. lists_among m w g listed)
    of also
    (λ w cell mine read. cells cell (subst (λ n. reads_cell (reads_of m n) cell ≡ true) (sym (owned m k w mine)) read))
    (λ w mine uses. cc uses)
    still
