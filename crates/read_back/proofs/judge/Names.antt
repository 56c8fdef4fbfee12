-- A test of names that fails where a name has a number fails on all names of a model; a name that is none of them is not defined.
use Rattle.std.proofs.Common.{◌≡◌, ℕ, Bool, true, false, ◌||◌, List, [], ◌∷◌, ◌++◌, map, filter_map, position, Option, Some, None, is_some, is_none, refl, ap, ◌∙◌}
use Rattle.std.specs.List.{list_all, list_any, cons_option}
use Rattle.std.specs.Str.{bytes_eq}
use Rattle.std.proofs.lemmas.Cmp.{nat_list_eq_equiv}
use Rattle.std.proofs.lemmas.Bool.{and_parts, or_parts, or_left, or_right, or_from, not_from_true, not-true}
use Rattle.base_laws.specs.laws.Items.{none_split}
use Rattle.base_laws.specs.laws.Places.{found}
use Rattle.sched_model.specs.Words.{passes}
use Rattle.sched_model.specs.Data.{Data}
use Rattle.sched_model.specs.Valid.{all_names, IsValid, is_itv}
use Rattle.cpo_elab.specs.declared.names.Sort.{Sort}
use Rattle.cpo_elab.specs.declared.names.Sort.TheVariants.{Interval, Matrix, Sequence, Cumulated, State}
use Rattle.cpo_elab.specs.Named.{number_of, sorts, is_defined, NameTest}
use Rattle.cpo_elab.specs.Stages.{plain}
use Rattle.cpo_elab.specs.Judged.{is_unknown, is_of_other_sort}
use Rattle.sched_base.specs.declared.ids.Itv.{Itv}
use Rattle.sched_text.specs.Pieces.{interval_name, interval_names}
use Rattle.read_back.proofs.Truth.{all_parts}
use Rattle.read_back.proofs.Names.{AreApart, differ, all_named, number_itv}

-- a name is none of those before it
pub none_before : (xs ys : List (List ℕ)) (n : List ℕ) → AreApart (xs ++ n ∷ ys) → list_any (bytes_eq n) xs ≡ false
none_before [] ys n apart = refl
none_before (x ∷ xs) ys n apart =
    let parts = and_parts (list_all (differ x) (xs ++ n ∷ ys)) _ apart in
    let here = and_parts (differ x n) (list_all (differ x) ys) (all_parts (differ x) xs (n ∷ ys) parts.0).1 in
    or_from (bytes_eq n x) _ (nat_list_eq_equiv.symm n x ∙ not-true (bytes_eq x n) here.0) (none_before xs ys n parts.1)

-- tests of names that fail where a name has a number

abbrev pub Blind : Data → NameTest → Type 0
Blind n test = (sort : Sort) (name : List ℕ) (i : ℕ) → number_of n sort name ≡ Some i → test sort name ≡ false

any_of : (p : Sort → Bool) (sort : Sort) → p sort ≡ true → list_any p sorts ≡ true
any_of p Interval is = or_left (p Interval) _ is
any_of p Matrix is = or_right (p Interval) _ (or_left (p Matrix) _ is)
any_of p Sequence is = or_right (p Interval) _ (or_right (p Matrix) _ (or_left (p Sequence) _ is))
any_of p Cumulated is = or_right (p Interval) _ (or_right (p Matrix) _ (or_right (p Sequence) _ (or_left (p Cumulated) _ is)))
any_of p State is = or_right (p Interval) _ (or_right (p Matrix) _ (or_right (p Sequence) _ (or_right (p Cumulated) _ (or_left (p State) _ is))))

pub blind_unknown : (n : Data) → Blind n (is_unknown (plain n))
unfolding is_defined
blind_unknown n sort name i is = not_from_true _ (any_of (λ s. is_some (number_of n s name)) sort (ap is_some is))

pub blind_sort : (n : Data) → Blind n (is_of_other_sort n)
blind_sort n sort name i is = ap is_none is

pub itvs_pass : (m n : Data) → n.intervals ≡ m.intervals → IsValid m → (test : NameTest) → Blind n test → (xs : List Itv) → list_all (is_itv m) xs ≡ true → list_any (test Interval) (interval_names m xs) ≡ false
itvs_pass m n same v test blind [] all = refl
itvs_pass m n same v test blind (x ∷ xs) all =
    let parts = and_parts (is_itv m x) _ all in
    or_from (test Interval (interval_name m x)) _ (blind Interval (interval_name m x) x.0 (number_itv m n same v x parts.0)) (itvs_pass m n same v test blind xs parts.1)

-- a name that is none of those of a model is not defined there

none_named : {X : Type 0} (n : List ℕ) (f : X → Option (List ℕ)) (xs : List X) → list_any (bytes_eq n) (filter_map f xs) ≡ false → list_any (passes (bytes_eq n)) (map f xs) ≡ false
none_named n f [] none = refl
none_named n f (x ∷ xs) none = by (f x) none (none_named n f xs) where
  by : (o : Option (List ℕ)) → list_any (bytes_eq n) (cons_option o (filter_map f xs)) ≡ false → (list_any (bytes_eq n) (filter_map f xs) ≡ false → list_any (passes (bytes_eq n)) (map f xs) ≡ false)
      → (passes (bytes_eq n) o || list_any (passes (bytes_eq n)) (map f xs)) ≡ false
  by None none later = later none
  by (Some k) none later = let parts = or_parts (bytes_eq n k) _ none in or_from (bytes_eq n k) _ parts.0 (later parts.1)

no_place : {X : Type 0} (n : List ℕ) (f : X → Option (List ℕ)) (xs : List X) → list_any (bytes_eq n) (filter_map f xs) ≡ false → is_some (position (passes (bytes_eq n)) (map f xs)) ≡ false
no_place n f xs none = found (passes (bytes_eq n)) (map f xs) ∙ none_named n f xs none

five_false : (p q r s t : Bool) → p ≡ false → q ≡ false → r ≡ false → s ≡ false → t ≡ false → (p || (q || (r || (s || (t || false))))) ≡ false
five_false p q r s t a b c d e = or_from p _ a (or_from q _ b (or_from r _ c (or_from s _ d (or_from t false e refl))))

pub not_defined : (m : Data) (n : List ℕ) → list_any (bytes_eq n) (all_names m) ≡ false → is_defined m n ≡ false
unfolding number_of is_defined
not_defined m n none =
    let e = none_split (bytes_eq n) (map (λ d. d.name) m.intervals ++ map (λ d. d.name) m.matrices ++ filter_map (λ d. d.name) m.sequences ++ filter_map (λ d. d.name) m.cumuls) (map (λ d. d.name) m.states) none in
    let d = none_split (bytes_eq n) (map (λ d. d.name) m.intervals ++ map (λ d. d.name) m.matrices ++ filter_map (λ d. d.name) m.sequences) (filter_map (λ d. d.name) m.cumuls) e.0 in
    let c = none_split (bytes_eq n) (map (λ d. d.name) m.intervals ++ map (λ d. d.name) m.matrices) (filter_map (λ d. d.name) m.sequences) d.0 in
    let b = none_split (bytes_eq n) (map (λ d. d.name) m.intervals) (map (λ d. d.name) m.matrices) c.0 in
    five_false _ _ _ _ _
    (no_place n (λ d. Some d.name) m.intervals (ap (list_any (bytes_eq n)) (all_named (λ d. d.name) m.intervals) ∙ b.0))
    (no_place n (λ d. Some d.name) m.matrices (ap (list_any (bytes_eq n)) (all_named (λ d. d.name) m.matrices) ∙ b.1))
    (no_place n (λ d. d.name) m.sequences c.1) (no_place n (λ d. d.name) m.cumuls d.1)
    (no_place n (λ d. Some d.name) m.states (ap (list_any (bytes_eq n)) (all_named (λ d. d.name) m.states) ∙ e.1))
