-- The table of names with one more name, and the draft with one more thing.
use Rattle.std.proofs.Common.{◌≡◌, ℕ, suc, ◌+◌, Bool, true, false, not, cond, if◌then◌else◌, List, [], ◌∷◌, ◌++◌, map, length, position, Option, Some, None, option_map, nat_lt, refl, sym, ap, ◌∙◌, arith}
use Rattle.std.specs.List.{position_or_len}
use Rattle.std.specs.Str.{bytes_eq}
use Rattle.std.specs.Map.{lookup}
use Rattle.std.proofs.lemmas.List.{map-append}
use Rattle.std.proofs.lemmas.Bool.Decides.{nat_tests}
use Rattle.std.proofs.lemmas.Cmp.{nat_list_eq_equiv}
use Rattle.sched_model.specs.Words.{passes}
use Rattle.sched_model.specs.declared.types.IntervalDef.{IntervalDef}
use Rattle.sched_model.specs.declared.types.MatrixDef.{MatrixDef}
use Rattle.sched_model.specs.declared.types.SequenceDef.{SequenceDef}
use Rattle.sched_model.specs.declared.types.CumulDef.{CumulDef}
use Rattle.sched_model.specs.declared.types.StateDef.{StateDef}
use Rattle.sched_model.specs.Data.{Data, with_interval, with_matrix, with_sequence, with_cumul, with_state}
use Rattle.cpo_elab.specs.declared.names.Meaning.{Meaning}
use Rattle.cpo_elab.specs.declared.names.Sort.{Sort}
use Rattle.cpo_elab.specs.declared.names.Sort.TheVariants.{Interval, Matrix, Sequence, Cumulated, State}
use Rattle.cpo_elab.specs.Named.{names_of, number_of}
use Rattle.cpo_elab.specs.code.Drafts.{same_sort, number_if}

abbrev pub Table : Type 0
Table = List (List ℕ × Meaning)

-- the table says what the model does
abbrev pub Tells : Table → Data → Type 0
Tells table m = (s : Sort) (k : List ℕ) → number_if s (lookup (bytes_eq k) table) ≡ number_of m s k

abbrev pub first_or : {X : Type 0} → Option X → Option X → Option X
first_or None o = o
first_or (Some x) o = Some x

first_none : {X : Type 0} (o : Option X) → first_or o None ≡ o
first_none None = refl
first_none (Some x) = refl

zero_below : (n : ℕ) → nat_lt 0 (suc n) ≡ true
zero_below n = grind (arith, nat_tests)

both_more : (i n : ℕ) → nat_lt (1 + i) (suc n) ≡ nat_lt i n
both_more i n = grind (arith, nat_tests)

one_more : (i : ℕ) → 1 + i ≡ suc i
one_more i = omega arith

place_by : (b c : Bool) (i n : ℕ) → nat_lt i n ≡ c → cond (nat_lt (cond (not b) (1 + i) 0) (suc n)) (Some (cond (not b) (1 + i) 0)) None ≡ (if b then Some 0 else option_map (λ k. suc k) (cond c (Some i) None))
place_by true c i n is = ap (λ t. cond t (Some 0) None) (zero_below n)
place_by false true i n is = ap (λ t. cond t (Some (1 + i)) None) (both_more i n ∙ is) ∙ ap (λ k. Some k) (one_more i)
place_by false false i n is = ap (λ t. cond t (Some (1 + i)) None) (both_more i n ∙ is)

position_cons : {X : Type 0} (p : X → Bool) (x : X) (xs : List X) → position p (x ∷ xs) ≡ (if p x then Some 0 else option_map (λ k. suc k) (position p xs))
position_cons p x xs = place_by (p x) (nat_lt (position_or_len p xs) (length xs)) (position_or_len p xs) (length xs) refl

nowhere : {X : Type 0} (p : X → Bool) → position p [] ≡ None
nowhere p = refl

push_by : (b c : Bool) (o : Option ℕ) (n : ℕ) → (if b then Some 0 else option_map (λ k. suc k) (first_or o (if c then Some n else None))) ≡ first_or (if b then Some 0 else option_map (λ k. suc k) o) (if c then Some (suc n) else None)
push_by true c o n = refl
push_by false true None n = refl
push_by false true (Some k) n = refl
push_by false false None n = refl
push_by false false (Some k) n = refl

pub position_push : {X : Type 0} (p : X → Bool) (xs : List X) (x : X) → position p (xs ++ x ∷ []) ≡ first_or (position p xs) (if p x then Some (length xs) else None)
position_push p [] x = position_cons p x []
position_push p (y ∷ ys) x =
    position_cons p y (ys ++ x ∷ [])
    ∙ ap (λ o. if p y then Some 0 else option_map (λ k. suc k) o) (position_push p ys x)
    ∙ push_by (p y) (p x) (position p ys) (length ys)
    ∙ ap (λ o. first_or o (if p x then Some (suc (length ys)) else None)) (sym (position_cons p y ys))

cond_push : (b : Bool) (v : Meaning) (o q : Option Meaning) → cond b (Some v) (first_or o q) ≡ first_or (cond b (Some v) o) q
cond_push true v o q = refl
cond_push false v o q = refl

lookup_push : (t : List ℕ → Bool) (es : Table) (e : List ℕ × Meaning) → lookup t (es ++ e ∷ []) ≡ first_or (lookup t es) (cond (t e.0) (Some e.1) None)
lookup_push t [] e = refl
lookup_push t (f ∷ es) e = ap (cond (t f.0) (Some f.1)) (lookup_push t es e) ∙ cond_push (t f.0) f.1 (lookup t es) (cond (t e.0) (Some e.1) None)

new_by : (o : Option Meaning) (b c : Bool) (s sort : Sort) (id : ℕ) → same_sort sort s ≡ c → (b ≡ true → o ≡ None)
    → number_if s (first_or o (cond b (Some (record { sort = sort; id = id })) None)) ≡ (if c then first_or (number_if s o) (if b then Some id else None) else number_if s o)
new_by None true true s sort id is clash = ap (λ t. if t then Some id else None) is
new_by None true false s sort id is clash = ap (λ t. if t then Some id else None) is
new_by None false true s sort id is clash = refl
new_by None false false s sort id is clash = refl
new_by (Some v) true c s sort id is clash = cc (clash refl)
new_by (Some v) false true s sort id is clash = sym (first_none (number_if s (Some v)))
new_by (Some v) false false s sort id is clash = refl

other_name : (table : Table) (n k : List ℕ) → lookup (bytes_eq n) table ≡ None → bytes_eq k n ≡ true → lookup (bytes_eq k) table ≡ None
other_name [] n k none same = refl
other_name (e ∷ es) n k none same = by (bytes_eq n e.0) (nat_list_eq_equiv.congr k n e.0 same) none (λ h. other_name es n k h same) where
  by : (b : Bool) → bytes_eq k e.0 ≡ b → cond b (Some e.1) (lookup (bytes_eq n) es) ≡ None → (lookup (bytes_eq n) es ≡ None → lookup (bytes_eq k) es ≡ None)
      → cond (bytes_eq k e.0) (Some e.1) (lookup (bytes_eq k) es) ≡ None
  by true is h later = cc
  by false is h later = ap (λ t. cond t (Some e.1) (lookup (bytes_eq k) es)) is ∙ later h

abbrev pub new_names : (m m' : Data) (sort : Sort) (n : List ℕ) → Type 0
new_names m m' sort n = (s : Sort) → names_of m' s ≡ (if same_sort sort s then names_of m s ++ Some n ∷ [] else names_of m s)

place_when : (c : Bool) (k n : List ℕ) (xs : List (Option (List ℕ))) → position (passes (bytes_eq k)) (if c then xs ++ Some n ∷ [] else xs)
    ≡ (if c then first_or (position (passes (bytes_eq k)) xs) (if bytes_eq k n then Some (length xs) else None) else position (passes (bytes_eq k)) xs)
place_when true k n xs = position_push (passes (bytes_eq k)) xs (Some n)
place_when false k n xs = refl

same_length : (c : Bool) (o : Option ℕ) (b : Bool) (i j : ℕ) → (c ≡ true → i ≡ j) → (if c then first_or o (if b then Some i else None) else o) ≡ (if c then first_or o (if b then Some j else None) else o)
same_length true o b i j is = ap (λ k. first_or o (if b then Some k else None)) (is refl)
same_length false o b i j is = refl

sort_is : (sort s : Sort) → same_sort sort s ≡ true → sort ≡ s
sort_is Interval Interval is = refl
sort_is Interval Matrix is = cc
sort_is Interval Sequence is = cc
sort_is Interval Cumulated is = cc
sort_is Interval State is = cc
sort_is Matrix Interval is = cc
sort_is Matrix Matrix is = refl
sort_is Matrix Sequence is = cc
sort_is Matrix Cumulated is = cc
sort_is Matrix State is = cc
sort_is Sequence Interval is = cc
sort_is Sequence Matrix is = cc
sort_is Sequence Sequence is = refl
sort_is Sequence Cumulated is = cc
sort_is Sequence State is = cc
sort_is Cumulated Interval is = cc
sort_is Cumulated Matrix is = cc
sort_is Cumulated Sequence is = cc
sort_is Cumulated Cumulated is = refl
sort_is Cumulated State is = cc
sort_is State Interval is = cc
sort_is State Matrix is = cc
sort_is State Sequence is = cc
sort_is State Cumulated is = cc
sort_is State State is = refl

pub tells_more : (table table' : Table) (m m' : Data) (sort : Sort) (n : List ℕ) (id : ℕ) → Tells table m → lookup (bytes_eq n) table ≡ None
    → table' ≡ table ++ (n, record { sort = sort; id = id }) ∷ [] → id ≡ length (names_of m sort) → new_names m m' sort n → Tells table' m'
unfolding number_of
tells_more table table' m m' sort n id tells absent is id_is names s k =
    ap (λ t. number_if s (lookup (bytes_eq k) t)) is
    ∙ ap (number_if s) (lookup_push (bytes_eq k) table (n, record { sort = sort; id = id }))
    ∙ new_by (lookup (bytes_eq k) table) (bytes_eq k n) (same_sort sort s) s sort id refl (other_name table n k absent)
    ∙ ap (λ o. if same_sort sort s then first_or o (if bytes_eq k n then Some id else None) else o) (tells s k)
    ∙ same_length (same_sort sort s) (position (passes (bytes_eq k)) (names_of m s)) (bytes_eq k n) id (length (names_of m s)) (λ h. id_is ∙ ap (λ t. length (names_of m t)) (sort_is sort s h))
    ∙ sym (place_when (same_sort sort s) k n (names_of m s))
    ∙ ap (position (passes (bytes_eq k))) (sym (names s))

-- one more thing without a name
pub tells_same : (table : Table) (m m' : Data) → Tells table m → ((s : Sort) (k : List ℕ) → number_of m' s k ≡ number_of m s k) → Tells table m'
tells_same table m m' tells same s k = tells s k ∙ sym (same s k)

unnamed_place : (k : List ℕ) (xs : List (Option (List ℕ))) → position (passes (bytes_eq k)) (xs ++ None ∷ []) ≡ position (passes (bytes_eq k)) xs
unnamed_place k xs = position_push (passes (bytes_eq k)) xs None ∙ first_none (position (passes (bytes_eq k)) xs)

pub listed_names : (m : Data) (d : SequenceDef) → d.name ≡ None → (s : Sort) (k : List ℕ) → number_of (with_sequence d m) s k ≡ number_of m s k
unfolding number_of
listed_names m d none Sequence k =
    ap (position (passes (bytes_eq k))) (map-append (λ (x : SequenceDef). x.name) m.sequences (d ∷ []) ∙ ap (λ o. map (λ (x : SequenceDef). x.name) m.sequences ++ o ∷ []) none) ∙ unnamed_place k (map (λ (x : SequenceDef). x.name) m.sequences)
listed_names m d none Interval k = refl
listed_names m d none Matrix k = refl
listed_names m d none Cumulated k = refl
listed_names m d none State k = refl

pub unnamed_names : (m : Data) (d : CumulDef) → d.name ≡ None → (s : Sort) (k : List ℕ) → number_of (with_cumul d m) s k ≡ number_of m s k
unfolding number_of
unnamed_names m d none Cumulated k =
    ap (position (passes (bytes_eq k))) (map-append (λ (x : CumulDef). x.name) m.cumuls (d ∷ []) ∙ ap (λ o. map (λ (x : CumulDef). x.name) m.cumuls ++ o ∷ []) none) ∙ unnamed_place k (map (λ (x : CumulDef). x.name) m.cumuls)
unnamed_names m d none Interval k = refl
unnamed_names m d none Matrix k = refl
unnamed_names m d none Sequence k = refl
unnamed_names m d none State k = refl

pub interval_names : (m : Data) (d : IntervalDef) → new_names m (with_interval d m) Interval d.name
interval_names m d Interval = map-append (λ (x : IntervalDef). Some x.name) m.intervals (d ∷ [])
interval_names m d Matrix = refl
interval_names m d Sequence = refl
interval_names m d Cumulated = refl
interval_names m d State = refl

pub matrix_names : (m : Data) (d : MatrixDef) → new_names m (with_matrix d m) Matrix d.name
matrix_names m d Matrix = map-append (λ (x : MatrixDef). Some x.name) m.matrices (d ∷ [])
matrix_names m d Interval = refl
matrix_names m d Sequence = refl
matrix_names m d Cumulated = refl
matrix_names m d State = refl

pub state_names : (m : Data) (d : StateDef) → new_names m (with_state d m) State d.name
state_names m d State = map-append (λ (x : StateDef). Some x.name) m.states (d ∷ [])
state_names m d Interval = refl
state_names m d Matrix = refl
state_names m d Sequence = refl
state_names m d Cumulated = refl

pub sequence_names : (m : Data) (d : SequenceDef) (n : List ℕ) → d.name ≡ Some n → new_names m (with_sequence d m) Sequence n
sequence_names m d n is Sequence = map-append (λ (x : SequenceDef). x.name) m.sequences (d ∷ []) ∙ ap (λ o. map (λ (x : SequenceDef). x.name) m.sequences ++ o ∷ []) is
sequence_names m d n is Interval = refl
sequence_names m d n is Matrix = refl
sequence_names m d n is Cumulated = refl
sequence_names m d n is State = refl

pub cumul_names : (m : Data) (d : CumulDef) (n : List ℕ) → d.name ≡ Some n → new_names m (with_cumul d m) Cumulated n
cumul_names m d n is Cumulated = map-append (λ (x : CumulDef). x.name) m.cumuls (d ∷ []) ∙ ap (λ o. map (λ (x : CumulDef). x.name) m.cumuls ++ o ∷ []) is
cumul_names m d n is Interval = refl
cumul_names m d n is Matrix = refl
cumul_names m d n is Sequence = refl
cumul_names m d n is State = refl
