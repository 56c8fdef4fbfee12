-- Names and their meanings.
use Rattle.std.proofs.Common.{◌≡◌, ℕ, Bool, true, false, cond, if◌then◌else◌, List, [], ◌∷◌, ◌++◌, map, Option, Some, None, is_some, refl, sym, ap, subst, ◌∙◌}
use Rattle.std.specs.List.{list_any}
use Rattle.std.specs.Str.{bytes_eq}
use Rattle.std.specs.Map.{lookup}
use Rattle.indexmap.specs.IndexMap.{insert_entry}
use Rattle.sched_model.specs.Data.{Data, empty_model}
use Rattle.cpo_elab.specs.declared.names.Meaning.{Meaning}
use Rattle.cpo_elab.specs.declared.names.Sort.{Sort}
use Rattle.cpo_elab.specs.declared.names.Sort.TheVariants.{Interval, Matrix, Sequence, Cumulated, State}
use Rattle.cpo_elab.specs.Named.{number_of, sorts, is_defined}
use Rattle.cpo_elab.specs.code.Drafts.{same_sort, number_if, IsDraft}

-- an entry as a contract sees it
abbrev pub seen : {X V : Type 0} → (X → List ℕ) → X × V → List ℕ × V
seen f e = (f e.0, e.1)

pub lookup_in_map : {X V : Type 0} (f : X → List ℕ) (n : List ℕ) (es : List (X × V)) → lookup (bytes_eq n) (map (seen f) es) ≡ lookup (λ k. bytes_eq n (f k)) es
lookup_in_map f n [] = refl
lookup_in_map f n (e ∷ es) = ap (cond (bytes_eq n (f e.0)) (Some e.1)) (lookup_in_map f n es)

-- what a table is seen as after a new name
pub pushed_entry : {X V : Type 0} (f : X → List ℕ) (es : List (X × V)) (k : X) (v : V) → lookup (bytes_eq (f k)) (map (seen f) es) ≡ None
    → map (seen f) (insert_entry (λ a b. bytes_eq (f a) (f b)) es k v) ≡ map (seen f) es ++ (f k, v) ∷ []
pushed_entry f [] k v none = refl
pushed_entry {X} {V} f (e ∷ es) k v none = by (bytes_eq (f k) (f e.0)) none (pushed_entry f es k v) where
  by : (b : Bool) → cond b (Some e.1) (lookup (bytes_eq (f k)) (map (seen f) es)) ≡ None
      → (lookup (bytes_eq (f k)) (map (seen f) es) ≡ None → map (seen f) (insert_entry (λ a b. bytes_eq (f a) (f b)) es k v) ≡ map (seen f) es ++ (f k, v) ∷ [])
      → map (seen f) (if b then (e.0, v) ∷ es else e ∷ insert_entry (λ a b. bytes_eq (f a) (f b)) es k v) ≡ (f e.0, e.1) ∷ (map (seen f) es ++ (f k, v) ∷ [])
  by true h rest = cc
  by false h rest = ap (λ xs. (f e.0, e.1) ∷ xs) (rest h)

pub no_names : (sort : Sort) (n : List ℕ) → None ≡ number_of empty_model sort n
unfolding number_of
no_names Interval n = refl
no_names Matrix n = refl
no_names Sequence n = refl
no_names Cumulated n = refl
no_names State n = refl

-- a meaning is of one sort
some_sort : (o : Option Meaning) → is_some o ≡ list_any (λ sort. is_some (number_if sort o)) sorts
some_sort None = refl
some_sort (Some x) = by x.sort refl where
  by : (s : Sort) → x.sort ≡ s → true ≡ list_any (λ sort. is_some (if same_sort s sort then Some x.id else None)) sorts
  by Interval is = refl
  by Matrix is = refl
  by Sequence is = refl
  by Cumulated is = refl
  by State is = refl

pub defined_by_name : (m : Data) (names : List (List ℕ × Meaning)) (n : List ℕ) → ((sort : Sort) (k : List ℕ) → number_if sort (lookup (bytes_eq k) names) ≡ number_of m sort k)
    → is_some (lookup (bytes_eq n) names) ≡ is_defined m n
unfolding is_defined
defined_by_name m names n are = some_sort (lookup (bytes_eq n) names)
    ∙ (λ i. list_any (λ sort. is_some (are sort n i)) sorts)

pub number_when : (x : Meaning) (sort : Sort) → same_sort x.sort sort ≡ true → Some x.id ≡ number_if sort (Some x)
number_when x sort is = ap (λ b. if b then Some x.id else None) (sym is)

pub none_when : (x : Meaning) (sort : Sort) → same_sort x.sort sort ≡ false → None ≡ number_if sort (Some x)
none_when x sort is = ap (λ b. if b then Some x.id else None) (sym is)

no_table : IsDraft [] 0 100000 empty_model
no_table = record {
  names = no_names;
  cell_sum = refl;
  room_sum = refl;
  valid = record { names = refl; intervals = refl; matrices = refl; sequences = refl; cumuls = refl; states = refl; constraints = refl; objective = refl; criteria = tt; limits = refl };
}

pub first_draft : (table : List (List ℕ × Meaning)) (m : Data) → table ≡ [] → m ≡ empty_model → IsDraft table 0 100000 m
first_draft table m none empty = subst (λ t. IsDraft t 0 100000 m) (sym none) (subst (IsDraft [] 0 100000) (sym empty) no_table)
