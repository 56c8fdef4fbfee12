-- Lines that lead on, one run of them behind another.
use Rattle.std.specs.Prelude.{◌≡◌, ℕ, ◌+◌, ◌<◌, ◌≤◌, ℤ, false, IsTrue, List, [], ◌∷◌, ◌++◌, length, Option, Some, Result, Ok, Err, OnErr}
use Rattle.std.proofs.Common.{inl, inr, refl, sym, subst, ◌∙◌, arith, length-append, append_assoc}
use Rattle.sched_model.specs.Data.{Data}
use Rattle.region.specs.declared.types.Guess.{Guess}
use Rattle.region.specs.declared.types.CellName.{CellName}
use Rattle.region.specs.Cells.{Region, is_settled}
use Rattle.region.specs.Guesses.{with_fact, turned, SameCell}
use Rattle.kernel.specs.declared.types.Witness.{Witness}
use Rattle.kernel.specs.declared.types.Line.TheVariants.{Derive}
use Rattle.kernel.specs.declared.no_extra.NoWitness.{NoWitness}
use Rattle.kernel.specs.Derives.{Derives, IsDerived, stays, learns}
use Rattle.kernel.specs.laws.Derives.{derives_on}
use Rattle.findings.specs.Found.{IsFinding}
use Rattle.engine.specs.declared.lines.Lines.{Ghosts}
use Rattle.engine.specs.declared.stops.Stop.{Stop}
use Rattle.engine.specs.declared.stops.Stop.TheVariants.{Quiet, Failed, Capped}
use Rattle.engine.specs.Plain.{Plain, refutes_plain}
use Rattle.engine.specs.code.Changes.{AreSameBut}
use Rattle.engine.specs.Runs.{cap_at, Led, Ends, Counts, Ran, Broke}
use Rattle.engine.specs.code.Ending.{IsEnd}

-- the laws of lines that are put
abbrev pub None_put : {L : Type 0} → Ghosts L → Type 0
None_put {L = L} l = (a : L) → l.puts a [] a

abbrev pub More_put : {L : Type 0} → Ghosts L → Type 0
More_put {L = L} l = (a b c : L) (xs ys : List Plain) → l.puts a xs b → l.puts b ys c → l.puts a (xs ++ ys) c

abbrev pub Then_breaks : {L : Type 0} → Ghosts L → Type 0
Then_breaks {L = L} l = (a b c : L) (xs ys : List Plain) (line : Plain) → l.puts a xs b → l.breaks b ys line c → l.breaks a (xs ++ ys) line c

-- a finding with a guess derives
pub derived : (m : Data) (r : Region) (best : Option ℤ) (g : Guess) (w : Witness NoWitness) → IsFinding refutes_plain m r best (record { guess = Some g; witness = w }) → IsDerived refutes_plain m best r g w
derived m r best g w found = record { admitted = found.admitted; refuted = found.refuted; tight = found.tight }

-- the one cell that changes
pub same_but : (c d : CellName) (r q : Region) → c ≡ d → ((e : CellName) → (e ≡ d → ⊥) → (e ≡ turned d → ⊥) → SameCell e r q) → AreSameBut c r q
same_but c d r q is others = subst (λ (e : CellName). AreSameBut e r q) (sym is) others

-- no line, one line, and one run behind another
pub led_none : {L : Type 0} (l : Ghosts L) → None_put l → (m : Data) (best : Option ℤ) (a : L) (r : Region) → Led l m best 0 a a r r
led_none l none m best a r = record { lines = []; put = none a; count = refl; derive = stays }

pub led_one : {L : Type 0} (l : Ghosts L) (m : Data) (best : Option ℤ) (a b : L) (r q : Region) (g : Guess) (w : Witness NoWitness)
    → l.puts a (Derive g w ∷ []) b → q ≡ with_fact g r → IsDerived refutes_plain m best r g w → Led l m best 1 a b r q
led_one l m best a b r q g w put is one = record {
  lines = Derive g w ∷ [];
  put = put;
  count = refl;
  derive = subst (Derives refutes_plain m best r (Derive g w ∷ [])) (sym is) (learns one stays);
}

sums : (n k i j : ℕ) → i ≡ n → j ≡ k → i + j ≡ n + k
sums n k i j e f = omega (arith, e, f)

pub led_more : {L : Type 0} (l : Ghosts L) → More_put l → (m : Data) (best : Option ℤ) (n k : ℕ) (a b c : L) (r q s : Region) → Led l m best n a b r q → Led l m best k b c q s → Led l m best (n + k) a c r s
led_more l more m best n k a b c r q s one two = record {
  lines = one.lines ++ two.lines;
  put = more a b c one.lines two.lines one.put two.put;
  count = length-append one.lines two.lines ∙ sums n k (length one.lines) (length two.lines) one.count two.count;
  derive = derives_on one.derive two.derive;
}

-- a run that breaks off at once: with nothing put, with one line put, and with one whose put failed
pub broke_none : {L : Type 0} (l : Ghosts L) → None_put l → (m : Data) (best : Option ℤ) (a : L) (r : Region) → Broke l m best 1 a a r r
broke_none l none m best a r = Broke.held (none a) stays (omega arith)

pub broke_put : {L : Type 0} (l : Ghosts L) (m : Data) (best : Option ℤ) (a b : L) (r q : Region) (g : Guess) (w : Witness NoWitness)
    → l.puts a (Derive g w ∷ []) b → q ≡ r → IsDerived refutes_plain m best r g w → Broke l m best 1 a b r q
broke_put l m best a b r q g w put is one = subst (Broke l m best 1 a b r) (sym is) (Broke.further {lines = []} {g = g} {w = w} put stays one (omega arith))

pub broke_failed : {L : Type 0} (l : Ghosts L) (m : Data) (best : Option ℤ) (a b : L) (r : Region) (g : Guess) (w : Witness NoWitness)
    → l.breaks a [] (Derive g w) b → IsDerived refutes_plain m best r g w → Broke l m best 1 a b r r
broke_failed l m best a b r g w put one = Broke.broken {lines = []} {g = g} {w = w} put stays one (omega arith)

-- and behind lines that lead on
pub broke_more : {L : Type 0} (l : Ghosts L) → More_put l → Then_breaks l → (m : Data) (best : Option ℤ) (n most : ℕ) (a b c : L) (r q s : Region) → Led l m best n a b r q → n < most → Broke l m best 1 b c q s → Broke l m best most a c r s
broke_more l more breaks m best n most a b c r q s one few (Broke.held {lines = ys} put derive short) =
    Broke.held (more a b c one.lines ys one.put put) (derives_on one.derive derive) (omega (arith, one.count, few, short, length-append one.lines ys))
broke_more l more breaks m best n most a b c r q s one few (Broke.further {lines = ys} {g = g} {w = w} put derive is short) =
    Broke.further {lines = one.lines ++ ys} {g = g} {w = w}
    (subst (λ ls. l.puts a ls c) (sym (append_assoc one.lines ys (Derive g w ∷ []))) (more a b c one.lines (ys ++ Derive g w ∷ []) one.put put))
    (derives_on one.derive derive) is (omega (arith, one.count, few, short, length-append one.lines ys))
broke_more l more breaks m best n most a b c r q s one few (Broke.broken {lines = ys} {g = g} {w = w} put derive is short) =
    Broke.broken {lines = one.lines ++ ys} {g = g} {w = w} (breaks a b c one.lines ys (Derive g w) one.put put) (derives_on one.derive derive) is (omega (arith, one.count, few, short, length-append one.lines ys))

-- or after them
pub broke_led : {L : Type 0} (l : Ghosts L) (m : Data) (best : Option ℤ) (n most : ℕ) (a b : L) (r q : Region) → Led l m best n a b r q → n ≤ most → Broke l m best most a b r q
broke_led l m best n most a b r q led few = Broke.held led.put led.derive (omega (arith, led.count, few))

-- what a run says at its end
pub ends_of : (quiet : Type 0) (m : Data) (best : Option ℤ) (r : Region) (stop : Stop) → IsEnd quiet m best r stop → Ends quiet m best r stop
ends_of quiet m best r Quiet h = h
ends_of quiet m best r (Failed w) h = h
ends_of quiet m best r Capped h = absurd h

early : (n : ℕ) (quiet : Type 0) (m : Data) (best : Option ℤ) (r : Region) (stop : Stop) → n < cap_at r → IsEnd quiet m best r stop → Counts n r stop
early n quiet m best r Quiet few h = inl few
early n quiet m best r (Failed w) few h = inl few
early n quiet m best r Capped few h = absurd h

last : (n : ℕ) (quiet : Type 0) (m : Data) (best : Option ℤ) (r : Region) (stop : Stop) → n ≡ cap_at r → IsTrue (is_settled r) → IsEnd quiet m best r stop → Counts n r stop
last n quiet m best r Quiet all settled h = inr (all, settled)
last n quiet m best r (Failed w) all settled h = inr (all, settled)
last n quiet m best r Capped all settled h = absurd h

ran_early : {L : Type 0} (l : Ghosts L) (quiet : Type 0) (m : Data) (best : Option ℤ) (n : ℕ) (a b : L) (r q : Region) (stop : Stop) → Led l m best n a b r q → n < cap_at q → IsEnd quiet m best q stop → Ran l quiet m best a b r q stop
ran_early l quiet m best n a b r q stop led few h = record { n = n; led = led; counts = early n quiet m best q stop few h; ends = ends_of quiet m best q stop h }

-- with nothing put at the end
pub ran_turn : {L : Type 0} (l : Ghosts L) (quiet : Type 0) (m : Data) (best : Option ℤ) (n : ℕ) (a b c : L) (r q s : Region) (stop : Stop) → Led l m best n a b r q → c ≡ b → s ≡ q → n < cap_at q → IsEnd quiet m best s stop → Ran l quiet m best a c r s stop
ran_turn {L = L} l quiet m best n a b c r q s stop led lines_are region_is few h =
    subst (λ (d : L). Ran l quiet m best a d r s stop) (sym lines_are)
    (subst (λ (p : Region). Ran l quiet m best a b r p stop) (sym region_is) (ran_early l quiet m best n a b r q stop led few (subst (λ (p : Region). IsEnd quiet m best p stop) region_is h)))

pub ran_last : {L : Type 0} (l : Ghosts L) (quiet : Type 0) (m : Data) (best : Option ℤ) (n : ℕ) (a b : L) (r q : Region) (stop : Stop) → Led l m best n a b r q → n ≡ cap_at q → IsTrue (is_settled q) → IsEnd quiet m best q stop → Ran l quiet m best a b r q stop
ran_last l quiet m best n a b r q stop led all settled h = record { n = n; led = led; counts = last n quiet m best q stop all settled h; ends = ends_of quiet m best q stop h }

pub ran_capped : {L : Type 0} (l : Ghosts L) (quiet : Type 0) (m : Data) (best : Option ℤ) (n : ℕ) (a b : L) (r q : Region) → Led l m best n a b r q → n ≡ cap_at q → is_settled q ≡ false → Ran l quiet m best a b r q Capped
ran_capped l quiet m best n a b r q led all settled = record { n = n; led = led; counts = (all, settled); ends = tt }

pub on_err : {T E : Type 0} (r : Result T E) (X : Type 0) → X → OnErr r X
on_err (Ok t) X x = tt
on_err (Err e) X x = x
