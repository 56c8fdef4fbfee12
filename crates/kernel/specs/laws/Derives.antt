-- Lines that derive are lines of a log, whatever waits beside the region.
use Rattle.std.specs.Prelude.{◌≡◌, ℕ, ◌+◌, ℤ, List, [], ◌∷◌, ◌++◌, Option, Some, None, Ok}
use Rattle.std.proofs.Common.{refl, sym, subst}
use Rattle.sched_model.specs.Data.{Data}
use Rattle.region.specs.declared.types.Guess.{Guess}
use Rattle.region.specs.Cells.{Region}
use Rattle.region.specs.Guesses.{with_fact}
use Rattle.region.specs.laws.Lists.{true_both}
use Rattle.kernel.specs.declared.types.Witness.{Witness}
use Rattle.kernel.specs.declared.types.Line.{Line}
use Rattle.kernel.specs.declared.types.Line.TheVariants.{Derive}
use Rattle.kernel.specs.declared.types.Found.{Found}
use Rattle.region.specs.Looks.{Refuting}
use Rattle.kernel.specs.code.Faults.{derive_fault}
use Rattle.kernel.specs.Steps.{LogState, Steps, done, more, step, best_of}
use Rattle.kernel.specs.Derives.{IsDerived, Derives, stays, learns}

-- one line more at the end, and one run of lines behind another
pub derives_more : {W : Type 0} {refutes : Refuting (Witness W)} {m : Data} {best : Option ℤ} {r q : Region} {lines : List (Line W)} (g : Guess) (w : Witness W)
    → Derives refutes m best r lines q → IsDerived refutes m best q g w → Derives refutes m best r (lines ++ Derive g w ∷ []) (with_fact g q)
derives_more g w stays is = learns is stays
derives_more g w (learns first rest) is = learns first (derives_more g w rest is)

pub derives_on : {W : Type 0} {refutes : Refuting (Witness W)} {m : Data} {best : Option ℤ} {r p q : Region} {lines others : List (Line W)}
    → Derives refutes m best r lines p → Derives refutes m best p others q → Derives refutes m best r (lines ++ others) q
derives_on stays others = others
derives_on (learns first rest) others = learns first (derives_on rest others)

-- a line that derives fails no test
pub no_fault : {W : Type 0} (refutes : Refuting (Witness W)) (m : Data) (best : Option ℤ) (r : Region) (g : Guess) (w : Witness W)
    → IsDerived refutes m best r g w → derive_fault refutes m r best g w ≡ None
no_fault refutes m best r g w is = rw (true_both _ _ is.admitted is.refuted, is.tight) refl

-- a log whose current region this is, and one whose first region that waits it is
abbrev pub current_at : Region → List Region → ℕ → Option Found → LogState
current_at r waiting nodes found = record { current = Some r; waiting = waiting; nodes = nodes; found = found }

abbrev pub waiting_at : Region → List Region → ℕ → Option Found → LogState
waiting_at r waiting nodes found = record { current = None; waiting = r ∷ waiting; nodes = nodes; found = found }

-- one line that derives steps in both, and in the second it takes the region, which is a further node
pub derive_steps : {W : Type 0} (refutes : Refuting (Witness W)) (m : Data) (r : Region) (g : Guess) (w : Witness W) (waiting : List Region) (nodes : ℕ) (found : Option Found)
    → IsDerived refutes m (best_of found) r g w → step refutes m (Derive g w) (current_at r waiting nodes found) ≡ Ok (current_at (with_fact g r) waiting nodes found)
derive_steps refutes m r g w waiting nodes found is = rw (true_both _ _ is.admitted is.refuted, is.tight) refl

pub derive_takes : {W : Type 0} (refutes : Refuting (Witness W)) (m : Data) (r : Region) (g : Guess) (w : Witness W) (waiting : List Region) (nodes : ℕ) (found : Option Found)
    → IsDerived refutes m (best_of found) r g w → step refutes m (Derive g w) (waiting_at r waiting nodes found) ≡ Ok (current_at (with_fact g r) waiting (nodes + 1) found)
derive_takes refutes m r g w waiting nodes found is = rw (true_both _ _ is.admitted is.refuted, is.tight) refl

-- so lines that derive from a region are steps of each log that has it as its current region
pub derives_steps : {W : Type 0} (refutes : Refuting (Witness W)) (m : Data) (best : Option ℤ) {r q : Region} {lines : List (Line W)} (waiting : List Region) (nodes : ℕ) (found : Option Found)
    → best_of found ≡ best → Derives refutes m best r lines q → Steps refutes m (current_at r waiting nodes found) lines (current_at q waiting nodes found)
derives_steps refutes m best waiting nodes found is stays = done
derives_steps refutes m best waiting nodes found is (learns {r} {q} {g} {w} {lines} first rest) =
    more (derive_steps refutes m r g w waiting nodes found (subst (λ b. IsDerived refutes m b r g w) (sym is) first)) (derives_steps refutes m best waiting nodes found is rest)

-- and, if there is one, of each log in which it is the first that waits and none is current
pub derives_takes : {W : Type 0} (refutes : Refuting (Witness W)) (m : Data) (best : Option ℤ) {r q : Region} {line : Line W} {lines : List (Line W)} (waiting : List Region) (nodes : ℕ) (found : Option Found)
    → best_of found ≡ best → Derives refutes m best r (line ∷ lines) q → Steps refutes m (waiting_at r waiting nodes found) (line ∷ lines) (current_at q waiting (nodes + 1) found)
derives_takes refutes m best waiting nodes found is (learns {r} {q} {g} {w} {lines} first rest) =
    more (derive_takes refutes m r g w waiting nodes found (subst (λ b. IsDerived refutes m b r g w) (sym is) first)) (derives_steps refutes m best waiting (nodes + 1) found is rest)
