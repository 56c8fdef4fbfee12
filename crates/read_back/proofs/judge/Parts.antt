-- The parts of a cumulative function come back from their trees, and pass each test.
use Rattle.std.proofs.Common.{◌≡◌, ℕ, ℤ, Bool, true, false, not, ◌&&◌, if◌then◌else◌, List, [], ◌∷◌, ◌++◌, map, flat_map, Some, None, int_le, refl, ap, ◌∙◌, arith}
use Rattle.std.specs.List.{list_all}
use Rattle.std.proofs.lemmas.Int.{ints}
use Rattle.std.proofs.lemmas.Bool.{and_parts, and_from, or_from}
use Rattle.sched_model.specs.declared.types.Part.{Part}
use Rattle.sched_model.specs.declared.types.Shape.{Shape}
use Rattle.sched_model.specs.declared.types.Shape.TheVariants.{Pulse, Step, PulseOf, StepAtStart, StepAtEnd}
use Rattle.sched_model.specs.Words.{passes, is_empty}
use Rattle.sched_model.specs.Data.{Data}
use Rattle.sched_model.specs.Valid.{IsValid, is_shape, is_itv, is_moment, is_span_of_moments, is_amount}
use Rattle.sched_model.specs.laws.Small.{moment_small, amount_small}
use Rattle.cpo_text.specs.declared.cumul.Cumul.{Cumul}
use Rattle.cpo_elab.specs.declared.names.Sort.TheVariants.{Interval, Cumulated}
use Rattle.cpo_elab.specs.Named.{NameTest, number_of, some_in_cpart, some_in_cumul}
use Rattle.cpo_elab.specs.Literals.{int_of}
use Rattle.cpo_elab.specs.Held.{cpart_moments, cpart_height, some_moments, some_height}
use Rattle.cpo_elab.specs.Elaborated.{turned, plain_parts, parts_signed, parts_in, unsigned_name, named_itself}
use Rattle.cpo_elab.specs.Judged.{is_reversed, is_outside, is_negative, is_large}
use Rattle.sched_text.specs.Pieces.{interval_name}
use Rattle.read_back.specs.Trees.{int_tree, shape_tree, part_tree, parts_tree, by_name}
use Rattle.read_back.proofs.Numbers.{int_back, span}
use Rattle.read_back.proofs.Names.{itv_back, number_itv}
use Rattle.read_back.proofs.Truth.{none_of_map}
use Rattle.read_back.proofs.judge.Numbers.{amount_sign, amount_size, span_inside, span_ordered}
use Rattle.read_back.proofs.judge.Names.{Blind}

amount_back : (h : ℤ) → is_amount h ≡ true → int_of (int_tree h) ≡ h
amount_back h it = int_back h (amount_small h it)

moment_back : (u : ℤ) → is_moment u ≡ true → int_of (int_tree u) ≡ u
moment_back u it = int_back u (moment_small u it)

-- what a part is

plain_back : (m n : Data) → n.intervals ≡ m.intervals → IsValid m → (s : Shape) → is_shape m s ≡ true → plain_parts n (shape_tree m s) ≡ record { minus = false; shape = s } ∷ []
plain_back m n same v (Pulse u v' h) it =
    let parts = and_parts (is_span_of_moments u v') (is_amount h) it in
    let ends = span u v' parts.0 in
    let from = moment_back u ends.0 in
    let to = moment_back v' ends.1 in
    let height = amount_back h parts.1 in
    λ i. record { minus = false; shape = Pulse (from i) (to i) (height i) } ∷ []
plain_back m n same v (Step u h) it =
    let parts = and_parts (is_moment u) (is_amount h) it in
    let from = moment_back u parts.0 in
    let height = amount_back h parts.1 in
    λ i. record { minus = false; shape = Step (from i) (height i) } ∷ []
plain_back m n same v (PulseOf x h) it =
    let parts = and_parts (is_itv m x) (is_amount h) it in
    let interval = itv_back m n same v x parts.0 in
    let height = amount_back h parts.1 in
    λ i. record { minus = false; shape = PulseOf (interval i) (height i) } ∷ []
plain_back m n same v (StepAtStart x h) it =
    let parts = and_parts (is_itv m x) (is_amount h) it in
    let interval = itv_back m n same v x parts.0 in
    let height = amount_back h parts.1 in
    λ i. record { minus = false; shape = StepAtStart (interval i) (height i) } ∷ []
plain_back m n same v (StepAtEnd x h) it =
    let parts = and_parts (is_itv m x) (is_amount h) it in
    let interval = itv_back m n same v x parts.0 in
    let height = amount_back h parts.1 in
    λ i. record { minus = false; shape = StepAtEnd (interval i) (height i) } ∷ []

if_itself : (b : Bool) → (if b then true else false) ≡ b
if_itself true = refl
if_itself false = refl

abbrev pub is_part : Data → Part → Bool
is_part m i = is_shape m i.shape

part_back : (m n : Data) → n.intervals ≡ m.intervals → IsValid m → (p : Part) → is_part m p ≡ true → parts_signed n (part_tree m p) ≡ p ∷ []
part_back m n same v p it =
    let sign = if_itself p.minus in
    ap (map (turned p.minus)) (plain_back m n same v p.shape it) ∙ (λ i. record { minus = sign i; shape = p.shape } ∷ [])

list_back : (m n : Data) → n.intervals ≡ m.intervals → IsValid m → (ps : List Part) → list_all (is_part m) ps ≡ true → flat_map (parts_signed n) (map (part_tree m) ps) ≡ ps
list_back m n same v [] all = refl
list_back m n same v (p ∷ ps) all =
    let parts = and_parts (is_part m p) _ all in
    let first = part_back m n same v p parts.0 in
    let rest = list_back m n same v ps parts.1 in
    λ i. first i ++ rest i

pub parts_back : (m n : Data) → n.intervals ≡ m.intervals → IsValid m → (ps : List Part) → not (is_empty ps) ≡ true → list_all (is_part m) ps ≡ true → parts_in n (parts_tree m ps) ≡ ps
parts_back m n same v [] some all = cc
parts_back m n same v (p ∷ ps) some all = list_back m n same v (p ∷ ps) all

-- it is no name

never_named : (m : Data) (b : Bool) (s : Shape) → unsigned_name b (shape_tree m s) ≡ None
never_named m true s = refl
never_named m false (Pulse u v h) = refl
never_named m false (Step u h) = refl
never_named m false (PulseOf x h) = refl
never_named m false (StepAtStart x h) = refl
never_named m false (StepAtEnd x h) = refl

pub no_name : (m : Data) (ps : List Part) → not (is_empty ps) ≡ true → named_itself (parts_tree m ps) ≡ None
no_name m [] some = cc
no_name m (p ∷ []) some = never_named m p.minus p.shape
no_name m (p ∷ q ∷ ps) some = refl

-- what is tested of it

pub record CleanCumul (n : Data) (f : Cumul) : Type 0 where
  pub names : (test : NameTest) → Blind n test → some_in_cumul test f ≡ false
  pub ordered : some_moments is_reversed f ≡ false
  pub inside : some_moments is_outside f ≡ false
  pub signs : some_height is_negative f ≡ false
  pub small : some_height is_large f ≡ false

names_pass : (m n : Data) → n.intervals ≡ m.intervals → IsValid m → (test : NameTest) → Blind n test → (s : Shape) → is_shape m s ≡ true → some_in_cpart test (shape_tree m s) ≡ false
names_pass m n same v test blind (Pulse u v' h) it = refl
names_pass m n same v test blind (Step u h) it = refl
names_pass m n same v test blind (PulseOf x h) it = blind Interval (interval_name m x) x.0 (number_itv m n same v x (and_parts (is_itv m x) (is_amount h) it).0)
names_pass m n same v test blind (StepAtStart x h) it = blind Interval (interval_name m x) x.0 (number_itv m n same v x (and_parts (is_itv m x) (is_amount h) it).0)
names_pass m n same v test blind (StepAtEnd x h) it = blind Interval (interval_name m x) x.0 (number_itv m n same v x (and_parts (is_itv m x) (is_amount h) it).0)

with_itself : (u : ℤ) → is_moment u ≡ true → is_span_of_moments u u ≡ true
with_itself u it = and_from (is_moment u && is_moment u) (int_le u u) (and_from (is_moment u) (is_moment u) it it) (at_itself u) where
  at_itself : (u : ℤ) → int_le u u ≡ true
  at_itself u = grind (arith, ints)

moments_pass : (test : ℤ × ℤ → Bool) → ((lo hi : ℤ) → is_span_of_moments lo hi ≡ true → test (lo, hi) ≡ false) → (m : Data) (s : Shape) → is_shape m s ≡ true → passes test (cpart_moments (shape_tree m s)) ≡ false
moments_pass test weak m (Pulse u v h) it =
    let parts = and_parts (is_span_of_moments u v) (is_amount h) it in
    let ends = span u v parts.0 in
    let from = moment_back u ends.0 in
    let to = moment_back v ends.1 in
    (λ i. test (from i, to i)) ∙ weak u v parts.0
moments_pass test weak m (Step u h) it =
    let moment = (and_parts (is_moment u) (is_amount h) it).0 in
    let from = moment_back u moment in
    (λ i. test (from i, from i)) ∙ weak u u (with_itself u moment)
moments_pass test weak m (PulseOf x h) it = refl
moments_pass test weak m (StepAtStart x h) it = refl
moments_pass test weak m (StepAtEnd x h) it = refl

heights_pass : (test : ℤ → Bool) → ((z : ℤ) → is_amount z ≡ true → test z ≡ false) → (m : Data) (s : Shape) → is_shape m s ≡ true → passes test (cpart_height (shape_tree m s)) ≡ false
heights_pass test weak m (Pulse u v h) it = let here = (and_parts (is_span_of_moments u v) (is_amount h) it).1 in ap test (amount_back h here) ∙ weak h here
heights_pass test weak m (Step u h) it = let here = (and_parts (is_moment u) (is_amount h) it).1 in ap test (amount_back h here) ∙ weak h here
heights_pass test weak m (PulseOf x h) it = let here = (and_parts (is_itv m x) (is_amount h) it).1 in ap test (amount_back h here) ∙ weak h here
heights_pass test weak m (StepAtStart x h) it = let here = (and_parts (is_itv m x) (is_amount h) it).1 in ap test (amount_back h here) ∙ weak h here
heights_pass test weak m (StepAtEnd x h) it = let here = (and_parts (is_itv m x) (is_amount h) it).1 in ap test (amount_back h here) ∙ weak h here

pub clean_parts : (m n : Data) → n.intervals ≡ m.intervals → IsValid m → (ps : List Part) → not (is_empty ps) ≡ true → list_all (is_part m) ps ≡ true → CleanCumul n (parts_tree m ps)
clean_parts m n same v [] some all = cc
clean_parts m n same v (p ∷ ps) some all = record {
  names = λ test blind. none_of_map (part_tree m) (is_part m) (λ s. some_in_cpart test s.part) (λ p it. names_pass m n same v test blind p.shape it) (p ∷ ps) all;
  ordered = none_of_map (part_tree m) (is_part m) (λ s. passes is_reversed (cpart_moments s.part)) (λ p it. moments_pass is_reversed span_ordered m p.shape it) (p ∷ ps) all;
  inside = none_of_map (part_tree m) (is_part m) (λ s. passes is_outside (cpart_moments s.part)) (λ p it. moments_pass is_outside span_inside m p.shape it) (p ∷ ps) all;
  signs = none_of_map (part_tree m) (is_part m) (λ s. passes is_negative (cpart_height s.part)) (λ p it. heights_pass is_negative amount_sign m p.shape it) (p ∷ ps) all;
  small = none_of_map (part_tree m) (is_part m) (λ s. passes is_large (cpart_height s.part)) (λ p it. heights_pass is_large amount_size m p.shape it) (p ∷ ps) all;
}

pub clean_name : (n : Data) (name : List ℕ) (i : ℕ) → number_of n Cumulated name ≡ Some i → CleanCumul n (by_name name)
clean_name n name i is = record {
  names = λ test blind. or_from (test Cumulated name) false (blind Cumulated name i is) refl;
  ordered = refl;
  inside = refl;
  signs = refl;
  small = refl;
}
