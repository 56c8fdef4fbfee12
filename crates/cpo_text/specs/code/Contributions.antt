-- Cumulative expressions read from left to right. The fuel bounds how many parts one has.
use Rattle.std.specs.Prelude.{ℕ, zero, suc, Bool, true, false, List, [], ◌∷◌, codes, Option, Some, None}
use Rattle.cpo_text.specs.Words.{Word}
use Rattle.cpo_text.specs.code.Rules.{Found, bound, behind, if_behind, if_found, find_word, sign_in, name_at, name_before, int_at, int_before}
use Rattle.cpo_text.specs.code.Lists.{after}
use Rattle.cpo_text.specs.code.CallWords.{contributions}
use Rattle.cpo_text.specs.declared.tree.Int.{Int}
use Rattle.cpo_text.specs.declared.cumul.Cpart.{Cpart}
use Rattle.cpo_text.specs.declared.cumul.Cpart.TheVariants.{Named, Pulse, PulseOf, Step, StepAtStart, StepAtEnd}
use Rattle.cpo_text.specs.declared.cumul.Signed.{Signed}
use Rattle.cpo_text.specs.declared.cumul.Cumul.{Cumul}
use Rattle.cpo_text.specs.declared.call_words.PartWord.{PartWord}
use Rattle.cpo_text.specs.declared.call_words.PartWord.TheVariants as part
use Rattle.cpo_text.specs.declared.tree.Bound.{Bound}
use Rattle.cpo_text.specs.declared.tree.Bound.TheVariants.{AtMost, AtLeast}
use Rattle.cpo_text.specs.declared.tree.Moments.{Moments}
use Rattle.cpo_text.specs.declared.tree.Moments.TheVariants.{From, During}
use Rattle.cpo_text.specs.declared.tree.Constrained.{Constrained}
use Rattle.cpo_text.specs.declared.tree.Constrained.TheVariants.{Bounded, AlwaysIn}

-- behind the bracket of a part

-- the name of an interval and a height
abbrev pub raised_at : (List ℕ → Int → Cpart) → List Word → Found Cpart
raised_at make ws = bound (name_before (codes ",") ws) (λ a r. bound (int_before (codes ")") r) (λ h r2. Some (make a h, r2)))

unfoldable pub height_at : List Word → Found (List ℕ × Int)
height_at ws = bound (name_before (codes ",") ws) (λ a r. bound (int_before (codes ")") r) (λ h r2. Some ((a, h), r2)))

-- two numbers, the second up to a sign
unfoldable pub ints_before : List ℕ → List Word → Found (Int × Int)
ints_before s ws = bound (int_before (codes ",") ws) (λ u r. bound (int_before s r) (λ v r2. Some ((u, v), r2)))

unfoldable pub pulse_from : List Word → Found Cpart
pulse_from ws = bound (int_before (codes ",") ws) (λ u r. bound (int_before (codes ",") r) (λ v r2. bound (int_before (codes ")") r2) (λ h r3. Some (Pulse u v h, r3))))

-- a pulse is of an interval where a name follows
unfoldable pub pulse_at : List Word → Found Cpart
pulse_at ws = if_found (name_at ws) (λ a r. raised_at PulseOf ws) (pulse_from ws)

unfoldable pub step_at : List Word → Found Cpart
step_at ws = bound (int_before (codes ",") ws) (λ u r. bound (int_before (codes ")") r) (λ h r2. Some (Step u h, r2)))

unfoldable pub contribution_at : PartWord → List Word → Found Cpart
contribution_at part.Pulse ws = pulse_at ws
contribution_at part.Step ws = step_at ws
contribution_at part.StepAtStart ws = raised_at StepAtStart ws
contribution_at part.StepAtEnd ws = raised_at StepAtEnd ws

abbrev pub called_part : Option PartWord → List Word → Found Cpart
called_part None ws = None
called_part (Some w) ws = contribution_at w ws

unfoldable pub part_at : List Word → Found Cpart
part_at ws = bound (name_at ws) (λ n r. if_behind (behind (codes "(") r) (called_part (find_word contributions n)) (Some (Named n, r)))

-- sums of parts

abbrev pub signed : Bool → Cpart → Signed
signed minus part = record { minus = minus; part = part }

-- the signs before later parts: whether each is a minus
abbrev pub joints : List (List ℕ × Bool)
joints = (codes "+", false) ∷ (codes "-", true) ∷ []

abbrev pub added_at : ℕ → List Word → Found (List Signed)
added_at zero ws = None
added_at (suc f) ws = if_found (sign_in joints ws) (λ m r. bound (part_at r) (λ p r2. after (signed m p ∷ []) (added_at f r2))) (Some ([], ws))

unfoldable pub cumul_from : ℕ → Bool → List Word → Found Cumul
cumul_from f minus ws = bound (part_at ws) (λ p r. bound (added_at f r) (λ ps r2. Some (record { first = signed minus p; more = ps }, r2)))

unfoldable pub cumul_at : ℕ → List Word → Found Cumul
cumul_at f ws = if_behind (behind (codes "-") ws) (cumul_from f true) (cumul_from f false ws)

-- constraints

abbrev pub bounds : List (List ℕ × Bound)
bounds = (codes "<=", AtMost) ∷ (codes ">=", AtLeast) ∷ []

unfoldable pub bounded_at : ℕ → List Word → Found Constrained
bounded_at f ws = bound (cumul_at f ws) (λ c r. if_found (sign_in bounds r) (λ b r2. bound (int_at r2) (λ i r3. Some (Bounded c b i, r3))) None)

-- an interval where a name follows, else two moments; the comma behind it belongs to it
unfoldable pub moments_at : List Word → Found Moments
moments_at ws = if_found (name_at ws) (λ n r. bound (name_before (codes ",") ws) (λ a r. Some (During a, r)))
    (bound (int_before (codes ",") ws) (λ u r. bound (int_before (codes ",") r) (λ v r2. Some (From u v, r2))))

-- behind the expression: the window and the bounds
unfoldable pub window_at : List Word → Found (Moments × (Int × Int))
window_at ws = if_behind (behind (codes ",") ws) (λ r. bound (moments_at r) (λ w r2. bound (ints_before (codes ")") r2) (λ b r3. Some ((w, b), r3)))) None

unfoldable pub always_in_at : ℕ → List Word → Found Constrained
always_in_at f ws = if_behind (behind (codes "(") ws) (λ r. bound (cumul_at f r) (λ c r2. if_behind (behind (codes ",") r2) (λ r3. bound (moments_at r3) (λ w r4.
    bound (int_before (codes ",") r4) (λ lo r5. bound (int_before (codes ")") r5) (λ hi r6. Some (AlwaysIn c w lo hi, r6))))) None)) None
