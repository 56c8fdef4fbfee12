-- What is refuted of a region is refuted of one that is alike where the witness reads, and so quiet is kept.
use Rattle.std.specs.Prelude.{◌≡◌, ℤ, Bool, true, false, IsTrue, Option, Some, None}
use Rattle.std.proofs.Common.{refl, sym, ◌∙◌}
use Rattle.sched_model.specs.Data.{Data}
use Rattle.sched_model.specs.Words.{passes_if_any}
use Rattle.region.specs.declared.types.Guess.{Guess}
use Rattle.region.specs.declared.types.CellName.{CellName}
use Rattle.region.specs.Cells.{Region}
use Rattle.region.specs.Guesses.{admits, topic, SameCell}
use Rattle.region.specs.Looks.{Refuting, IsRegionOf, seen_at}
use Rattle.region.specs.laws.Lists.{both_true, true_both}
use Rattle.region.specs.laws.Narrowing.{looked_stays}
use Rattle.findings.specs.Ends.{is_end, is_open_end, is_asked}
use Rattle.findings.specs.Found.{IsQuiet}
use Rattle.findings.specs.code.Reads.{Reads, AreAlike, LooksOnlyAt, IsUnrefuted, is_among, reads_cell}
use Rattle.findings.specs.laws.Alike.{alike_under, open_end_alike, alike_from_cells}

-- an open end guess is admitted
pub asked_admits : (lists : Guess → Bool) (r : Region) (guess : Option Guess) → is_asked lists r guess ≡ true → passes_if_any (admits r) guess ≡ true
asked_admits lists r None asked = refl
asked_admits lists r (Some g) asked = (both_true (admits r g) (is_end r (topic g)) (both_true (lists g) (is_open_end r g) asked).1).0

-- what lists more guesses is asked wherever the other is
pub asked_more : (p q : Guess → Bool) (r : Region) (guess : Option Guess) → ((g : Guess) → p g ≡ true → q g ≡ true) → is_asked p r guess ≡ true → is_asked q r guess ≡ true
asked_more p q r None more asked = refl
asked_more p q r (Some g) more asked = let two = both_true (p g) (is_open_end r g) asked in true_both (q g) (is_open_end r g) (more g two.0) two.1

-- a guess that two regions admit
alike_at : (m : Data) (reads : Reads) (guess : Option Guess) (r q : Region) (b c : Option ℤ) → IsRegionOf m r → IsRegionOf m q → passes_if_any (admits r) guess ≡ true → passes_if_any (admits q) guess ≡ true
    → AreAlike reads r q → AreAlike reads (seen_at r b guess).region (seen_at q c guess).region
alike_at m reads None r q b c of also here there alike = alike
alike_at m reads (Some g) r q b c of also here there alike = alike_under m reads g r q of also here there alike

pub refuted_alike : {W : Type 0} (refutes : Refuting W) (m : Data) (w : W) (reads : Reads) (r q : Region) (b c : Option ℤ) (guess : Option Guess) → LooksOnlyAt refutes m w reads → IsRegionOf m r → IsRegionOf m q
    → AreAlike reads r q → (IsTrue reads.best → b ≡ c) → passes_if_any (admits r) guess ≡ true → passes_if_any (admits q) guess ≡ true → refutes m (seen_at r b guess) w ≡ refutes m (seen_at q c guess) w
refuted_alike refutes m w reads r q b c guess only of also alike same here there =
    only (seen_at r b guess) (seen_at q c guess) (looked_stays guess m r here of) (looked_stays guess m q there also) (alike_at m reads guess r q b c of also here there alike) same

-- what is asked of one is asked of the other, where it is on what is read
pub asked_alike : (m : Data) (reads : Reads) (lists : Guess → Bool) (guess : Option Guess) (r q : Region) → IsRegionOf m r → IsRegionOf m q → ((g : Guess) → IsTrue (lists g) → IsTrue (is_among reads.intervals reads.pairs (topic g)))
    → AreAlike reads r q → is_asked lists q guess ≡ true → is_asked lists r guess ≡ true
asked_alike m reads lists None r q of also among alike asked = refl
asked_alike m reads lists (Some g) r q of also among alike asked =
    let two = both_true (lists g) (is_open_end q g) asked in
    true_both (lists g) (is_open_end r g) two.0 (open_end_alike m reads g r q of also (among g two.0) alike ∙ two.1)

kept_at : {W : Type 0} (refutes : Refuting W) (m : Data) (w : W) (reads : Reads) (lists : Guess → Bool) (r q : Region) (b c : Option ℤ) (guess : Option Guess) → LooksOnlyAt refutes m w reads → IsRegionOf m r → IsRegionOf m q
    → AreAlike reads r q → (IsTrue reads.best → b ≡ c) → is_asked lists r guess ≡ true → is_asked lists q guess ≡ true → refutes m (seen_at r b guess) w ≡ false → refutes m (seen_at q c guess) w ≡ false
kept_at refutes m w reads lists r q b c guess only of also alike same here there none =
    sym (refuted_alike refutes m w reads r q b c guess only of also alike same (asked_admits lists r guess here) (asked_admits lists q guess there)) ∙ none

-- a witness that refutes nothing of a region refutes nothing of one that is alike where it reads
pub unrefuted_kept : {W : Type 0} (refutes : Refuting W) (m : Data) (w : W) (reads : Reads) (r q : Region) (b c : Option ℤ) → LooksOnlyAt refutes m w reads → IsRegionOf m r → IsRegionOf m q
    → AreAlike reads r q → (IsTrue reads.best → b ≡ c) → IsUnrefuted refutes m r b w reads.intervals reads.pairs → IsUnrefuted refutes m q c w reads.intervals reads.pairs
unrefuted_kept refutes m w reads r q b c only of also alike same none guess asked =
    let lists : Guess → Bool = λ g. is_among reads.intervals reads.pairs (topic g) in
    let here = asked_alike m reads lists guess r q of also (λ g one. one) alike asked in
    kept_at refutes m w reads lists r q b c guess only of also alike same here asked (none guess here)

-- quiet is kept where none of the cells that the witnesses read changes, and the best value stays where one reads it
pub quiet_kept : {W : Type 0} (refutes : Refuting W) (lists : Data → W → Guess → Bool) (mine : Data → W → Bool) (m : Data) (reads : W → Reads) (r q : Region) (b c : Option ℤ)
    → ((w : W) → IsTrue (mine m w) → LooksOnlyAt refutes m w (reads w))
    → ((w : W) (g : Guess) → IsTrue (mine m w) → IsTrue (lists m w g) → IsTrue (is_among (reads w).intervals (reads w).pairs (topic g)))
    → IsRegionOf m r → IsRegionOf m q
    → ((w : W) (cell : CellName) → IsTrue (mine m w) → IsTrue (reads_cell (reads w) cell) → SameCell cell r q)
    → ((w : W) → IsTrue (mine m w) → IsTrue (reads w).best → b ≡ c)
    → IsQuiet refutes lists mine m r b → IsQuiet refutes lists mine m q c
quiet_kept refutes lists mine m reads r q b c only among of also cells same quiet = record {
  unrefuted = λ w guess my asked.
      let alike = alike_from_cells m (reads w) r q of also (λ cell one. cells w cell my one) in
      let here = asked_alike m (reads w) (lists m w) guess r q of also (λ g listed. among w g my listed) alike asked in
      kept_at refutes m w (reads w) (lists m w) r q b c guess (only w my) of also alike (same w my) here asked (quiet.unrefuted w guess my here);
}
