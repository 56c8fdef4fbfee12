-- Tables of places.
use Rattle.std.proofs.Common.{◌≡◌, inl, inr, ℕ, ◌+◌, ◌<◌, ◌≤◌, Bool, true, false, not, cond, List, [], ◌∷◌, ◌++◌, map, take, length, get_or, slice_get, slice_index, nat_lt, sym, ap, subst, ◌∙◌, arith}
use Rattle.std.specs.List.{count_by}
use Rattle.std.proofs.lemmas.Bool.{cases_lt}
use Rattle.std.proofs.lemmas.Bool.Decides.{nat_tests}
use Rattle.std.proofs.lemmas.List.{get_or_append_left, get_or_at}
use Rattle.std.proofs.lemmas.List.Sums.{count_by_more_yes, sum_by-take-le}
use Rattle.std.proofs.lemmas.Option.{slice_get-get_or}
use Rattle.sched_model.specs.declared.types.SequenceDef.{SequenceDef}
use Rattle.sched_model.specs.declared.types.CumulDef.{CumulDef}
use Rattle.sched_model.specs.declared.types.Constraint.{Constraint}
use Rattle.sched_model.specs.declared.model.Parts.{Parts}
use Rattle.sched_model.specs.Words.{passes}
use Rattle.sched_model.specs.Data.{Data}
use Rattle.sched_model.specs.code.Model.{data_of}
use Rattle.sched_model.specs.Valid.{IsValid}
use Rattle.cpo_elab.specs.NamedFirst.{is_named_sequence, is_named_cumul, parted, new_place, sequence_place, cumul_place, renumbered, named_first}
use Rattle.cpo_elab.proofs.adding.Parted.{count_halves}
use Rattle.cpo_elab.proofs.named.Alike.{Agree, constraints_alike}
use Rattle.cpo_elab.specs.lemmas.Parted.{place_yes, place_no}

test_at : {X : Type 0} (p : X → Bool) (xs : List X) (i : ℕ) (x : X) → i < length xs → x ≡ get_or xs i x → passes p (slice_get xs i) ≡ p x
test_at p xs i x within is = ap (passes p) (slice_get-get_or xs i x within) ∙ sym (ap p is)

-- there is room for one more of those that fail
pub room : {X : Type 0} (p : X → Bool) (xs : List X) (i : ℕ) (x : X) → i < length xs → x ≡ get_or xs i x → p x ≡ false → count_by p xs + count_by (λ y. not (p y)) (take i xs) + 1 ≤ length xs
room p xs i x within is fails =
    let more = count_by_more_yes (λ y. not (p y)) xs i x within (ap not (sym (ap p is) ∙ fails)) in
    let few : count_by (λ y. not (p y)) (take (i + 1) xs) ≤ count_by (λ y. not (p y)) xs = sum_by-take-le (λ y. cond (not (p y)) 1 0) xs (i + 1) in
    omega (arith, more, few, count_halves p xs)

-- the table with the place of one item more

pushed : (places : List ℕ) (place : ℕ → ℕ) (n v : ℕ) → length places ≡ n → ((i : ℕ) → i < n → get_or places i 0 ≡ place i) → v ≡ place n → (i : ℕ) → i < n + 1 → get_or (places ++ v ∷ []) i 0 ≡ place i
pushed places place n v long before last i below = elim (cases_lt i n) [
  | inl earlier ↦ get_or_append_left places (v ∷ []) 0 i (omega (arith, long)) ∙ before i earlier
  | inr late ↦ let now : i ≡ n = omega arith in get_or_at places v [] 0 i (long ∙ sym now) ∙ last ∙ ap place (sym now)
]

pub pushed_named : {X : Type 0} (p : X → Bool) (xs : List X) (places : List ℕ) (n v : ℕ) (x : X) → n < length xs → x ≡ get_or xs n x → p x ≡ true → length places ≡ n → ((i : ℕ) → i < n → get_or places i 0 ≡ new_place p xs i)
    → v ≡ count_by p (take n xs) → (i : ℕ) → i < n + 1 → get_or (places ++ v ∷ []) i 0 ≡ new_place p xs i
pushed_named p xs places n v x within is holds long before now = pushed places (new_place p xs) n v long before (now ∙ sym (place_yes p xs n (test_at p xs n x within is ∙ holds)))

pub pushed_other : {X : Type 0} (p : X → Bool) (xs : List X) (places : List ℕ) (n v : ℕ) (x : X) → n < length xs → x ≡ get_or xs n x → p x ≡ false → length places ≡ n → ((i : ℕ) → i < n → get_or places i 0 ≡ new_place p xs i)
    → v ≡ count_by p xs + count_by (λ y. not (p y)) (take n xs) → (i : ℕ) → i < n + 1 → get_or (places ++ v ∷ []) i 0 ≡ new_place p xs i
pushed_other p xs places n v x within is fails long before now = pushed places (new_place p xs) n v long before (now ∙ sym (place_no p xs n (test_at p xs n x within is ∙ fails)))

-- the parts put together again

below : (i n : ℕ) → nat_lt i n ≡ true → i < n
below i n h = grind (arith, nat_tests)

pub put_together : (m : Data) (ps : Parts) (seqs cums : List ℕ) (sequences : List SequenceDef) (cumuls : List CumulDef) (constraints : List Constraint) → data_of ps ≡ m → IsValid m
    → ((i : ℕ) → i < length m.sequences → slice_index seqs i ≡ sequence_place m i) → ((i : ℕ) → i < length m.cumuls → slice_index cums i ≡ cumul_place m i)
    → sequences ≡ parted is_named_sequence ps.sequences → cumuls ≡ parted is_named_cumul ps.cumuls → constraints ≡ map (renumbered (slice_index seqs) (slice_index cums)) ps.constraints
    → record (data_of ps) { sequences = sequences; cumuls = cumuls; constraints = constraints } ≡ named_first m
put_together m ps seqs cums sequences cumuls constraints are valid seqs_are cums_are sequences_are cumuls_are constraints_are =
    let old : IsValid (data_of ps) = subst IsValid (sym are) valid in
    let there : Agree (length ps.sequences) (slice_index seqs) (sequence_place (data_of ps)) = subst (λ d. Agree (length d.sequences) (slice_index seqs) (sequence_place d)) (sym are) (λ i h. seqs_are i (below i (length m.sequences) h)) in
    let here : Agree (length ps.cumuls) (slice_index cums) (cumul_place (data_of ps)) = subst (λ d. Agree (length d.cumuls) (slice_index cums) (cumul_place d)) (sym are) (λ i h. cums_are i (below i (length m.cumuls) h)) in
    let same = constraints_are ∙ constraints_alike (data_of ps) (slice_index seqs) (sequence_place (data_of ps)) (slice_index cums) (cumul_place (data_of ps)) there here ps.constraints old.constraints in
    let whole : record (data_of ps) { sequences = sequences; cumuls = cumuls; constraints = constraints } ≡ named_first (data_of ps) = λ i. record (data_of ps) { sequences = sequences_are i; cumuls = cumuls_are i; constraints = same i } in
    whole ∙ ap named_first are
