-- What is spelled as a cumulative expression is read as that expression.
use Rattle.std.proofs.Common.{◌≡◌, ℕ, zero, suc, ◌<◌, ◌≤◌, Bool, true, false, List, [], ◌∷◌, ◌++◌, length, Option, Some, None, refl, sym, ap, ◌∙◌, arith, append_assoc, length-append}
use Rattle.std.specs.Prelude.{codes, bytes_eq}
use Rattle.cpo_text.specs.Words.{Word, size_word, commas, round}
use Rattle.cpo_text.specs.Words.Word.{name, sign}
use Rattle.cpo_text.specs.Spelling.{minus_words, int_words, bound_sign, moments_items, constraint_words}
use Rattle.cpo_text.specs.Cumulative.{cpart_words, more_words, cumul_words}
use Rattle.cpo_text.specs.code.Rules.{Found, bound, behind, if_found, sign_in, name_at, name_before, int_at}
use Rattle.cpo_text.specs.code.Lists.{after}
use Rattle.cpo_text.specs.code.CallWords.{definition_word_at, begins_part, begins_cumul}
use Rattle.cpo_text.specs.code.Contributions.{raised_at, pulse_from, pulse_at, step_at, contribution_at, part_at, signed, joints, added_at, cumul_from, cumul_at, bounds, bounded_at, moments_at, always_in_at}
use Rattle.cpo_text.specs.declared.tree.Int.{Int}
use Rattle.cpo_text.specs.declared.cumul.Cpart.{Cpart}
use Rattle.cpo_text.specs.declared.cumul.Cpart.TheVariants.{Named, Pulse, PulseOf, Step, StepAtStart, StepAtEnd}
use Rattle.cpo_text.specs.declared.cumul.Signed.{Signed}
use Rattle.cpo_text.specs.declared.cumul.Cumul.{Cumul}
use Rattle.cpo_text.specs.declared.tree.Bound.{Bound}
use Rattle.cpo_text.specs.declared.tree.Bound.TheVariants.{AtMost, AtLeast}
use Rattle.cpo_text.specs.declared.tree.Moments.{Moments}
use Rattle.cpo_text.specs.declared.tree.Moments.TheVariants.{From, During}
use Rattle.cpo_text.specs.declared.tree.Constrained.TheVariants.{Bounded, AlwaysIn}
use Rattle.cpo_text.proofs.stating.Again.{int_again, name_before_again, int_before_again}
use Rattle.cpo_text.proofs.stating.Tables.{joint_sign, joint_again, bound_again}
use Rattle.cpo_text.proofs.levelled.PartsTaken.{pair_words, pair_open, raised_words, raised_open, pulse_words, pulse_open, moments_words, window_open}

-- a number is no name
name_int : (i : Int) (rest : List Word) → name_at (int_words i ++ rest) ≡ None
name_int i rest = decided i.minus i.size
  where
    decided : (b : Bool) (o : Option ℕ) → name_at ((minus_words b ++ size_word o ∷ []) ++ rest) ≡ None
    decided true o = refl
    decided false None = refl
    decided false (Some n) = refl

-- parts

raised_again : (make : List ℕ → Int → Cpart) (a : List ℕ) (h : Int) (rest : List Word) → raised_at make (raised_words a h rest) ≡ Some (make a h, rest)
raised_again make a h rest = rw (name_before_again (codes ",") a (int_words h ++ sign (codes ")") ∷ rest)) (rw (int_before_again (codes ")") h rest) refl)

pulse_from_again : (u v h : Int) (rest : List Word) → pulse_from (pulse_words u v h rest) ≡ Some (Pulse u v h, rest)
unfolding pulse_from
pulse_from_again u v h rest = rw (int_before_again (codes ",") u (pair_words v h rest)) (rw (int_before_again (codes ",") v (int_words h ++ sign (codes ")") ∷ rest)) (rw (int_before_again (codes ")") h rest) refl))

pulse_again : (u v h : Int) (rest : List Word) → pulse_at (pulse_words u v h rest) ≡ Some (Pulse u v h, rest)
unfolding pulse_at
pulse_again u v h rest = rw (name_int u (sign (codes ",") ∷ pair_words v h rest)) (pulse_from_again u v h rest)

pulse_of_again : (a : List ℕ) (h : Int) (rest : List Word) → pulse_at (raised_words a h rest) ≡ Some (PulseOf a h, rest)
unfolding pulse_at
pulse_of_again a h rest = raised_again PulseOf a h rest

step_again : (u h : Int) (rest : List Word) → step_at (pair_words u h rest) ≡ Some (Step u h, rest)
unfolding step_at
step_again u h rest = rw (int_before_again (codes ",") u (int_words h ++ sign (codes ")") ∷ rest)) (rw (int_before_again (codes ")") h rest) refl)

part_again : (c : Cpart) (rest : List Word) → behind (codes "(") rest ≡ None → part_at (cpart_words c ++ rest) ≡ Some (c, rest)
unfolding part_at contribution_at
part_again (Named n) rest free = rw free refl
part_again (Pulse u v h) rest free = ap (λ xs. part_at (name (codes "pulse") ∷ sign (codes "(") ∷ xs)) (pulse_open u v h rest) ∙ pulse_again u v h rest
part_again (PulseOf a h) rest free = ap (λ xs. part_at (name (codes "pulse") ∷ sign (codes "(") ∷ xs)) (raised_open a h rest) ∙ pulse_of_again a h rest
part_again (Step u h) rest free = ap (λ xs. part_at (name (codes "step") ∷ sign (codes "(") ∷ xs)) (pair_open u h rest) ∙ step_again u h rest
part_again (StepAtStart a h) rest free = ap (λ xs. part_at (name (codes "stepAtStart") ∷ sign (codes "(") ∷ xs)) (raised_open a h rest) ∙ raised_again StepAtStart a h rest
part_again (StepAtEnd a h) rest free = ap (λ xs. part_at (name (codes "stepAtEnd") ∷ sign (codes "(") ∷ xs)) (raised_open a h rest) ∙ raised_again StepAtEnd a h rest

-- sums of parts

-- no part and no bracket comes next
pub record IsAfter (rest : List Word) : Type 0 where
  pub joint : sign_in joints rest ≡ None
  pub bracket : behind (codes "(") rest ≡ None

-- other parts begin with a sign between parts
more_behind : (s : List ℕ) → bytes_eq s (codes "+") ≡ false → bytes_eq s (codes "-") ≡ false → (ps : List Signed) (rest : List Word) → behind s rest ≡ None → behind s (more_words ps ++ rest) ≡ None
more_behind s plus minus [] rest free = free
more_behind s plus minus (p ∷ ps) rest free = decided p.minus
  where
    decided : (b : Bool) → behind s (sign (joint_sign b) ∷ (cpart_words p.part ++ more_words ps) ++ rest) ≡ None
    decided true = rw minus refl
    decided false = rw plus refl

if_joint : {X : Type 0} (m : Bool) (r : List Word) (f : Bool → List Word → Found X) (g : Found X) → if_found (sign_in joints (sign (joint_sign m) ∷ r)) f g ≡ f m r
if_joint m r f g = ap (λ o. if_found o f g) (joint_again m r)

added_again : (f : ℕ) (ps : List Signed) (rest : List Word) → length ps < f → IsAfter rest → added_at f (more_words ps ++ rest) ≡ Some (ps, rest)
added_again zero ps rest big stop = absurd (omega arith)
added_again (suc f) [] rest big stop = rw stop.joint refl
added_again (suc f) (s ∷ ss) rest big stop =
    let here : List Word = cpart_words s.part ++ (more_words ss ++ rest) in
    let words : more_words (s ∷ ss) ++ rest ≡ sign (joint_sign s.minus) ∷ here = ap (λ xs. sign (joint_sign s.minus) ∷ xs) (append_assoc (cpart_words s.part) (more_words ss) rest) in
    let next : Bool → List Word → Found (List Signed) = λ m r. bound (part_at r) (λ p r2. after (signed m p ∷ []) (added_at f r2)) in
    let part = part_again s.part (more_words ss ++ rest) (more_behind (codes "(") refl refl ss rest stop.bracket) in
    let later = added_again f ss rest (omega arith) stop in
    let turned : next s.minus here ≡ Some (s ∷ ss, rest) = rw part (rw later refl) in
    ap (added_at (suc f)) words ∙ if_joint s.minus here next (Some ([], sign (joint_sign s.minus) ∷ here)) ∙ turned

cumul_from_again : (f : ℕ) (m : Bool) (p : Cpart) (ps : List Signed) (rest : List Word) → length ps < f → IsAfter rest
    → cumul_from f m ((cpart_words p ++ more_words ps) ++ rest) ≡ Some (record { first = signed m p; more = ps }, rest)
unfolding cumul_from
cumul_from_again f m p ps rest big stop =
    let part = part_again p (more_words ps ++ rest) (more_behind (codes "(") refl refl ps rest stop.bracket) in
    let later = added_again f ps rest big stop in
    rw (append_assoc (cpart_words p) (more_words ps) rest) (rw part (rw later refl))

-- a part begins with a name
part_sign : (s : List ℕ) (p : Cpart) (ps : List Signed) (rest : List Word) → behind s ((cpart_words p ++ more_words ps) ++ rest) ≡ None
part_sign s (Named n) ps rest = refl
part_sign s (Pulse u v h) ps rest = refl
part_sign s (PulseOf a h) ps rest = refl
part_sign s (Step u h) ps rest = refl
part_sign s (StepAtStart a h) ps rest = refl
part_sign s (StepAtEnd a h) ps rest = refl

pub cumul_again : (f : ℕ) (c : Cumul) (rest : List Word) → length c.more < f → IsAfter rest → cumul_at f (cumul_words c ++ rest) ≡ Some (c, rest)
unfolding cumul_at
cumul_again f c rest big stop = by_minus c.first.minus refl
  where
    made : (m : Bool) → c.first.minus ≡ m → ◌≡◌ {A = Found Cumul} (Some (record { first = signed m c.first.part; more = c.more }, rest)) (Some (c, rest))
    made m is = ap (λ k. let x : Cumul × List Word = (record { first = signed k c.first.part; more = c.more }, rest) in Some x) (sym is)

    by_minus : (m : Bool) → c.first.minus ≡ m → cumul_at f ((minus_words m ++ (cpart_words c.first.part ++ more_words c.more)) ++ rest) ≡ Some (c, rest)
    by_minus true is = cumul_from_again f true c.first.part c.more rest big stop ∙ made true is
    by_minus false is = rw (part_sign (codes "-") c.first.part c.more rest) (cumul_from_again f false c.first.part c.more rest big stop ∙ made false is)

more_long : (ps : List Signed) → length ps ≤ length (more_words ps)
more_long [] = omega arith
more_long (p ∷ ps) = omega (arith, more_long ps, length-append (cpart_words p.part) (more_words ps))

pub cumul_long : (c : Cumul) → length c.more ≤ length (cumul_words c)
cumul_long c = omega (arith, more_long c.more, length-append (cpart_words c.first.part) (more_words c.more), length-append (minus_words c.first.minus) (cpart_words c.first.part ++ more_words c.more))

-- how a cumulative expression begins

pub cumul_sign : (s : List ℕ) → bytes_eq s (codes "-") ≡ false → (c : Cumul) (rest : List Word) → behind s (cumul_words c ++ rest) ≡ None
cumul_sign s other c rest = by_minus c.first.minus
  where
    by_minus : (m : Bool) → behind s ((minus_words m ++ (cpart_words c.first.part ++ more_words c.more)) ++ rest) ≡ None
    by_minus true = rw other refl
    by_minus false = part_sign s c.first.part c.more rest

part_begins : (p : Cpart) (ps : List Signed) (rest : List Word) → behind (codes "(") rest ≡ None → begins_part ((cpart_words p ++ more_words ps) ++ rest) ≡ true
unfolding begins_part
part_begins (Named n) ps rest free = rw (more_behind (codes "(") refl refl ps rest free) refl
part_begins (Pulse u v h) ps rest free = refl
part_begins (PulseOf a h) ps rest free = refl
part_begins (Step u h) ps rest free = refl
part_begins (StepAtStart a h) ps rest free = refl
part_begins (StepAtEnd a h) ps rest free = refl

pub cumul_begins : (c : Cumul) (rest : List Word) → behind (codes "(") rest ≡ None → begins_cumul (cumul_words c ++ rest) ≡ true
unfolding begins_cumul
cumul_begins c rest free = by_minus c.first.minus
  where
    by_minus : (m : Bool) → begins_cumul ((minus_words m ++ (cpart_words c.first.part ++ more_words c.more)) ++ rest) ≡ true
    by_minus true = part_begins c.first.part c.more rest free
    by_minus false = rw (part_sign (codes "-") c.first.part c.more rest) (part_begins c.first.part c.more rest free)

-- it defines nothing
pub cumul_undefined : (c : Cumul) (rest : List Word) → behind (codes "=") rest ≡ None → name_before (codes "=") (cumul_words c ++ rest) ≡ None
unfolding name_before
cumul_undefined c rest free = by_minus c.first.minus c.first.part
  where
    by_minus : (m : Bool) (p : Cpart) → name_before (codes "=") ((minus_words m ++ (cpart_words p ++ more_words c.more)) ++ rest) ≡ None
    by_minus true p = refl
    by_minus false (Named n) = rw (more_behind (codes "=") refl refl c.more rest free) refl
    by_minus false (Pulse u v h) = refl
    by_minus false (PulseOf a h) = refl
    by_minus false (Step u h) = refl
    by_minus false (StepAtStart a h) = refl
    by_minus false (StepAtEnd a h) = refl

-- and is no other definition
pub cumul_no_definition : (c : Cumul) (rest : List Word) → behind (codes "(") rest ≡ None → definition_word_at (cumul_words c ++ rest) ≡ None
unfolding definition_word_at
cumul_no_definition c rest free = by_minus c.first.minus c.first.part
  where
    by_minus : (m : Bool) (p : Cpart) → definition_word_at ((minus_words m ++ (cpart_words p ++ more_words c.more)) ++ rest) ≡ None
    by_minus true p = refl
    by_minus false (Named n) = rw (more_behind (codes "(") refl refl c.more rest free) refl
    by_minus false (Pulse u v h) = refl
    by_minus false (PulseOf a h) = refl
    by_minus false (Step u h) = refl
    by_minus false (StepAtStart a h) = refl
    by_minus false (StepAtEnd a h) = refl

-- constraints

pub bound_after : (b : Bound) (r : List Word) → IsAfter (sign (bound_sign b) ∷ r)
bound_after AtMost r = record { joint = refl; bracket = refl }
bound_after AtLeast r = record { joint = refl; bracket = refl }

pub bound_no_equals : (b : Bound) (r : List Word) → behind (codes "=") (sign (bound_sign b) ∷ r) ≡ None
bound_no_equals AtMost r = refl
bound_no_equals AtLeast r = refl

if_bound : {X : Type 0} (b : Bound) (r : List Word) (f : Bound → List Word → Found X) (g : Found X) → if_found (sign_in bounds (sign (bound_sign b) ∷ r)) f g ≡ f b r
if_bound b r f g = ap (λ o. if_found o f g) (bound_again b r)

pub bounded_again : (f : ℕ) (c : Cumul) (b : Bound) (i : Int) (rest : List Word) → length c.more < f → bounded_at f (constraint_words (Bounded c b i) ++ rest) ≡ Some (Bounded c b i, rest)
unfolding bounded_at
bounded_again f c b i rest big =
    let words : constraint_words (Bounded c b i) ++ rest ≡ cumul_words c ++ sign (bound_sign b) ∷ (int_words i ++ rest) = append_assoc (cumul_words c) (sign (bound_sign b) ∷ int_words i) rest in
    let got = cumul_again f c (sign (bound_sign b) ∷ int_words i ++ rest) big (bound_after b (int_words i ++ rest)) in
    ap (bounded_at f) words ∙ rw got (if_bound b (int_words i ++ rest) (λ k r. bound (int_at r) (λ j r2. Some (Bounded c k j, r2))) None ∙ rw (int_again i rest) refl)

moments_again : (w : Moments) (rest : List Word) → moments_at (moments_words w rest) ≡ Some (w, rest)
unfolding moments_at
moments_again (From u v) rest =
    rw (name_int u (sign (codes ",") ∷ int_words v ++ sign (codes ",") ∷ rest)) (rw (int_before_again (codes ",") u (int_words v ++ sign (codes ",") ∷ rest)) (rw (int_before_again (codes ",") v rest) refl))
moments_again (During a) rest = rw (name_before_again (codes ",") a rest) refl

pub always_in_again : (f : ℕ) (c : Cumul) (w : Moments) (lo hi : Int) (rest : List Word) → length c.more < f
    → always_in_at f (round (commas (cumul_words c ∷ moments_items w ++ int_words lo ∷ int_words hi ∷ [])) ++ rest) ≡ Some (AlwaysIn c w lo hi, rest)
unfolding always_in_at
always_in_again f c w lo hi rest big =
    let inner : List Word = moments_words w (pair_words lo hi rest) in
    let got = cumul_again f c (sign (codes ",") ∷ inner) big (record { joint = refl; bracket = refl }) in
    ap (λ xs. always_in_at f (sign (codes "(") ∷ xs)) (window_open (cumul_words c) w lo hi rest)
    ∙ rw got (rw (moments_again w (pair_words lo hi rest)) (rw (int_before_again (codes ",") lo (int_words hi ++ sign (codes ")") ∷ rest)) (rw (int_before_again (codes ")") hi rest) refl)))
