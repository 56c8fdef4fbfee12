-- The words that can begin a witness are all different, and each kind has one.
use Rattle.std.specs.Prelude.{◌≡◌, ℕ, zero, suc, ◌+◌, ◌<◌, ◌≤◌, ◌&&◌, not, ℤ, pos, negsuc, Bool, true, false, List, [], ◌∷◌, ◌++◌, map, length, get_or, codes, nat_lt}
use Rattle.std.proofs.Common.{refl, ap, sym, ◌∙◌, arith}
use Rattle.std.proofs.Math.ListN.{get_or-append}
use Rattle.std.proofs.lemmas.List.{get_or-append-add}
use Rattle.std.specs.Fmt.{decimal, signed_decimal}
use Rattle.std.proofs.lemmas.Bool.Decides.{nat_tests}
use Rattle.std.proofs.lemmas.Slice.Eq.{bytes_eq-Decides}
use Rattle.std.specs.List.{list_all}
use Rattle.std.specs.Str.{bytes_eq}
use Rattle.sched_model.specs.Valid.{is_small}
use Rattle.refute_basic.specs.declared.witness.BasicWitness.{BasicWitness}
use Rattle.refute_basic.specs.declared.witness.BasicWitness.TheVariants.{Size, Arc, Cycle, Expr, Obj, Leaf}
use Rattle.refute_basic.specs.Witness.{numbers_of}
use Rattle.refute_hier.specs.declared.witness.HierWitness.{HierWitness}
use Rattle.refute_hier.specs.declared.witness.HierWitness.TheVariants.{Span, Alt, Sync, SeqRel}
use Rattle.refute_hier.specs.Witness.{numbers_of as hier_numbers}
use Rattle.refute_seq.specs.declared.witness.SeqWitness.{SeqWitness}
use Rattle.refute_seq.specs.declared.witness.SeqWitness.TheVariants.{Pair, Triple, Overload, Edge, NotEnd, Detect}
use Rattle.refute_seq.specs.Witness.{numbers_of as seq_numbers}
use Rattle.refute_cumul.specs.declared.witness.CumulWitness.{CumulWitness}
use Rattle.refute_cumul.specs.declared.witness.CumulWitness.TheVariants.{Point}
use Rattle.refute_cumul.specs.Witness.{numbers_of as cumul_numbers}
use Rattle.refute_state.specs.declared.witness.StateWitness.{StateWitness}
use Rattle.refute_state.specs.declared.witness.StateWitness.TheVariants.{State as Two, State3 as Three}
use Rattle.refute_state.specs.Witness.{numbers_of as state_numbers}
use Rattle.kernel.specs.declared.types.Witness.{Witness}
use Rattle.kernel.specs.declared.types.Witness.TheVariants.{Basic, Hier, Seq, Cumul, State, Extra}
use Rattle.textline.specs.Lines.{Bytes}
use Rattle.textline.specs.Words.{is_word, are_words}
use Rattle.textline.specs.laws.Lines.{both_true}
use Rattle.logtext.specs.Spelling.{basic_kinds, hier_kinds, seq_kinds, cumul_kinds, state_kinds, kind_words, witness_words}
use Rattle.logtext.specs.laws.Leads.{behind, head_is}
use Rattle.logtext.specs.laws.Told.{moments_told}

-- no two words are the same
abbrev pub are_different : List Bytes → Bool
are_different [] = true
are_different (w ∷ ws) = list_all (λ v. not (bytes_eq w v)) ws && are_different ws

-- EXTRA, and the words of all kinds
abbrev pub first_words : List Bytes
first_words = codes "EXTRA" ∷ (basic_kinds ++ (hier_kinds ++ (seq_kinds ++ (cumul_kinds ++ state_kinds))))

pub first_words_differ : are_different first_words ≡ true
first_words_differ = refl

-- so those of each table are
pub basic_differ : are_different basic_kinds ≡ true
basic_differ = refl

pub basic_plain : are_words basic_kinds ≡ true
basic_plain = refl

pub hier_differ : are_different hier_kinds ≡ true
hier_differ = refl

pub hier_plain : are_words hier_kinds ≡ true
hier_plain = refl

pub seq_differ : are_different seq_kinds ≡ true
seq_differ = refl

pub seq_plain : are_words seq_kinds ≡ true
seq_plain = refl

pub cumul_differ : are_different cumul_kinds ≡ true
cumul_differ = refl

pub cumul_plain : are_words cumul_kinds ≡ true
cumul_plain = refl

pub state_differ : are_different state_kinds ≡ true
state_differ = refl

pub state_plain : are_words state_kinds ≡ true
state_plain = refl

-- the first number is the place of a word
abbrev pub is_placed : List Bytes → List ℤ → Bool
is_placed kinds (pos k ∷ zs) = nat_lt k (length kinds)
is_placed kinds _ = false

pub basic_placed : (w : BasicWitness) → is_placed basic_kinds (numbers_of w) ≡ true
basic_placed (Size x) = refl
basic_placed (Arc c d) = refl
basic_placed (Cycle arcs) = refl
basic_placed (Expr c) = refl
basic_placed Obj = refl
basic_placed (Leaf k u) = refl

pub hier_placed : (w : HierWitness) → is_placed hier_kinds (hier_numbers w) ≡ true
hier_placed (Span c r i) = refl
hier_placed (Alt c r i j) = refl
hier_placed (Sync c i) = refl
hier_placed (SeqRel c x) = refl

pub seq_placed : (w : SeqWitness) → is_placed seq_kinds (seq_numbers w) ≡ true
seq_placed (Pair c a b k) = refl
seq_placed (Triple p x y z) = refl
seq_placed (Overload c s) = refl
seq_placed (Edge c side i s u v) = refl
seq_placed (NotEnd c side i s) = refl
seq_placed (Detect c side i s) = refl

pub cumul_placed : (w : CumulWitness) → is_placed cumul_kinds (cumul_numbers w) ≡ true
cumul_placed (Point c t u) = refl

pub state_placed : (w : StateWitness) → is_placed state_kinds (state_numbers w) ≡ true
state_placed (Two c d) = refl
state_placed (Three c d e) = refl

-- a word that is none of these stands at none of their places
elsewhere : (w : Bytes) (ws : List Bytes) (k : ℕ) → list_all (λ v. not (bytes_eq w v)) ws ≡ true → k < length ws → w ≡ get_or ws k [] → ⊥
elsewhere w [] k h within e = absurd (omega (arith, within))
elsewhere w (v ∷ ws) zero h within e = let same : bytes_eq w v ≡ true = (bytes_eq-Decides w v).1 e in let none = (both_true (not (bytes_eq w v)) (list_all (λ u. not (bytes_eq w u)) ws) h).0 in cc
elsewhere w (v ∷ ws) (suc k) h within e = elsewhere w ws k (both_true (not (bytes_eq w v)) (list_all (λ u. not (bytes_eq w u)) ws) h).1 (omega (arith, within)) e

pub one_place : (ws : List Bytes) (j k : ℕ) → are_different ws ≡ true → j < length ws → k < length ws → get_or ws j [] ≡ get_or ws k [] → j ≡ k
one_place [] j k h below within e = absurd (omega (arith, within))
one_place (w ∷ ws) zero zero h below within e = refl
one_place (w ∷ ws) zero (suc k) h below within e = absurd (elsewhere w ws k (both_true (list_all (λ v. not (bytes_eq w v)) ws) (are_different ws) h).0 (omega (arith, within)) e)
one_place (w ∷ ws) (suc j) zero h below within e = absurd (elsewhere w ws j (both_true (list_all (λ v. not (bytes_eq w v)) ws) (are_different ws) h).0 (omega (arith, below)) (sym e))
one_place (w ∷ ws) (suc j) (suc k) h below within e = ap suc (one_place ws j k (both_true (list_all (λ v. not (bytes_eq w v)) ws) (are_different ws) h).1 (omega (arith, below)) (omega (arith, within)) e)

pub word_at : (ws : List Bytes) (k : ℕ) → are_words ws ≡ true → is_word (get_or ws k []) ≡ true
word_at [] k h = refl
word_at (w ∷ ws) zero h = (both_true (is_word w) (are_words ws) h).0
word_at (w ∷ ws) (suc k) h = word_at ws k (both_true (is_word w) (are_words ws) h).1

same_place : (j k : ℕ) (xs ys : List ℤ) → j ≡ k → xs ≡ ys → pos j ∷ xs ≡ pos k ∷ ys
same_place j k xs ys a b = cc

-- the spelling of a kind tells the numbers
pub kind_told : (kinds : List Bytes) (xs ys : List ℤ) → are_different kinds ≡ true → is_placed kinds xs ≡ true → is_placed kinds ys ≡ true → list_all is_small xs ≡ true → list_all is_small ys ≡ true → kind_words kinds xs ≡ kind_words kinds ys → xs ≡ ys
kind_told kinds [] ys d p q hx hy e = cc
kind_told kinds (negsuc j ∷ xs) ys d p q hx hy e = cc
kind_told kinds (pos j ∷ xs) [] d p q hx hy e = cc
kind_told kinds (pos j ∷ xs) (negsuc k ∷ ys) d p q hx hy e = cc
kind_told kinds (pos j ∷ xs) (pos k ∷ ys) d p q hx hy e =
    let place = one_place kinds j k d (grind (arith, nat_tests)) (grind (arith, nat_tests)) (head_is _ _ _ _ e) in
    let rest = moments_told xs ys (both_true (is_small (pos j)) (list_all is_small xs) hx).1 (both_true (is_small (pos k)) (list_all is_small ys) hy).1 (behind _ _ _ _ e) in
    same_place j k xs ys place rest

-- where the words of its crate's kinds begin among the first words of all witnesses, and how many they are
abbrev pub low_of : {W : Type 0} → Witness W → ℕ
low_of (Extra w) = 0
low_of (Basic w) = 1
low_of (Hier w) = 7
low_of (Seq w) = 11
low_of (Cumul w) = 17
low_of (State w) = 18

abbrev pub many_of : {W : Type 0} → Witness W → ℕ
many_of (Extra w) = 1
many_of (Basic w) = 6
many_of (Hier w) = 4
many_of (Seq w) = 6
many_of (Cumul w) = 1
many_of (State w) = 2

-- so a witness begins with one of them
pub record Begins {W : Type 0} (numbers : W → List ℤ) (w : Witness W) : Type 0 where
  pub place : ℕ
  pub others : List Bytes
  pub within : place < many_of w
  pub first : witness_words numbers w ≡ get_or first_words (low_of w + place) [] ∷ others

-- the words of a table stand among the first words behind those before it
word_from : (front kinds back : List Bytes) (k : ℕ) → k < length kinds → get_or (front ++ (kinds ++ back)) (length front + k) [] ≡ get_or kinds k []
word_from front kinds back k within = get_or-append-add front (kinds ++ back) k [] ∙ get_or-append kinds back [] k within

basic_word : (k : ℕ) → k < length basic_kinds → get_or first_words (1 + k) [] ≡ get_or basic_kinds k []
basic_word = word_from (codes "EXTRA" ∷ []) basic_kinds (hier_kinds ++ (seq_kinds ++ (cumul_kinds ++ state_kinds)))

hier_word : (k : ℕ) → k < length hier_kinds → get_or first_words (7 + k) [] ≡ get_or hier_kinds k []
hier_word = word_from (codes "EXTRA" ∷ basic_kinds) hier_kinds (seq_kinds ++ (cumul_kinds ++ state_kinds))

seq_word : (k : ℕ) → k < length seq_kinds → get_or first_words (11 + k) [] ≡ get_or seq_kinds k []
seq_word = word_from (codes "EXTRA" ∷ (basic_kinds ++ hier_kinds)) seq_kinds (cumul_kinds ++ state_kinds)

cumul_word : (k : ℕ) → k < length cumul_kinds → get_or first_words (17 + k) [] ≡ get_or cumul_kinds k []
cumul_word = word_from (codes "EXTRA" ∷ (basic_kinds ++ (hier_kinds ++ seq_kinds))) cumul_kinds state_kinds

state_word : (k : ℕ) → k < length state_kinds → get_or first_words (18 + k) [] ≡ get_or state_kinds k []
state_word = word_from (codes "EXTRA" ∷ (basic_kinds ++ (hier_kinds ++ (seq_kinds ++ cumul_kinds)))) state_kinds []

-- where the words of a table stand there, a witness of its kinds begins with one of them
begins_there : {W : Type 0} (numbers : W → List ℤ) (w : Witness W) (kinds : List Bytes) (zs : List ℤ) → witness_words numbers w ≡ kind_words kinds zs → many_of w ≡ length kinds → ((k : ℕ) → k < length kinds → get_or first_words (low_of w + k) [] ≡ get_or kinds k []) → is_placed kinds zs ≡ true → Begins numbers w
begins_there numbers w kinds [] is many word placed = cc
begins_there numbers w kinds (negsuc k ∷ zs) is many word placed = cc
begins_there numbers w kinds (pos k ∷ zs) is many word placed =
    let within : k < length kinds = grind (arith, nat_tests) in
    record { place = k; others = map signed_decimal zs; within = omega (arith, within, many); first = is ∙ ap (λ v. v ∷ map signed_decimal zs) (sym (word k within)) }

pub begins : {W : Type 0} (numbers : W → List ℤ) (w : Witness W) → Begins numbers w
begins numbers (Basic w) = begins_there numbers (Basic w) basic_kinds (numbers_of w) refl refl basic_word (basic_placed w)
begins numbers (Hier w) = begins_there numbers (Hier w) hier_kinds (hier_numbers w) refl refl hier_word (hier_placed w)
begins numbers (Seq w) = begins_there numbers (Seq w) seq_kinds (seq_numbers w) refl refl seq_word (seq_placed w)
begins numbers (Cumul w) = begins_there numbers (Cumul w) cumul_kinds (cumul_numbers w) refl refl cumul_word (cumul_placed w)
begins numbers (State w) = begins_there numbers (State w) state_kinds (state_numbers w) refl refl state_word (state_placed w)
begins numbers (Extra w) = record { place = 0; others = decimal (length (numbers w)) ∷ map signed_decimal (numbers w); within = omega arith; first = refl }

all_within : {W : Type 0} (w : Witness W) → low_of w + many_of w ≤ length first_words
all_within (Extra w) = omega arith
all_within (Basic w) = omega arith
all_within (Hier w) = omega arith
all_within (Seq w) = omega arith
all_within (Cumul w) = omega arith
all_within (State w) = omega arith

-- what begins alike is of one crate
pub same_place_from : {W : Type 0} (numbers : W → List ℤ) (w : Witness W) (k : ℕ) (us : List Bytes) → k < length first_words → get_or first_words k [] ∷ us ≡ witness_words numbers w → k ≡ low_of w + (begins numbers w).place
same_place_from numbers w k us within e =
    let b = begins numbers w in
    one_place first_words k (low_of w + b.place) first_words_differ within (let few = b.within in let all = all_within w in omega (arith, few, all)) (head_is _ _ _ _ (e ∙ b.first))

pub no_seq : {W : Type 0} (numbers : W → List ℤ) (w : Witness W) (k : ℕ) (us : List Bytes) → (low_of w ≡ 11 → ⊥) → k < length seq_kinds → get_or seq_kinds k [] ∷ us ≡ witness_words numbers w → ⊥
no_seq numbers (Seq w) k us other within e = other refl
no_seq numbers w k us other within e =
    let same = same_place_from numbers w (11 + k) us (omega (arith, within)) (ap (λ v. v ∷ us) (seq_word k within) ∙ e) in
    let few = (begins numbers w).within in absurd (omega (arith, same, within, few))

pub no_cumul : {W : Type 0} (numbers : W → List ℤ) (w : Witness W) (k : ℕ) (us : List Bytes) → (low_of w ≡ 17 → ⊥) → k < length cumul_kinds → get_or cumul_kinds k [] ∷ us ≡ witness_words numbers w → ⊥
no_cumul numbers (Cumul w) k us other within e = other refl
no_cumul numbers w k us other within e =
    let same = same_place_from numbers w (17 + k) us (omega (arith, within)) (ap (λ v. v ∷ us) (cumul_word k within) ∙ e) in
    let few = (begins numbers w).within in absurd (omega (arith, same, within, few))

pub no_state : {W : Type 0} (numbers : W → List ℤ) (w : Witness W) (k : ℕ) (us : List Bytes) → (low_of w ≡ 18 → ⊥) → k < length state_kinds → get_or state_kinds k [] ∷ us ≡ witness_words numbers w → ⊥
no_state numbers (State w) k us other within e = other refl
no_state numbers w k us other within e =
    let same = same_place_from numbers w (18 + k) us (omega (arith, within)) (ap (λ v. v ∷ us) (state_word k within) ∙ e) in
    let few = (begins numbers w).within in absurd (omega (arith, same, within, few))

pub no_extra : {W : Type 0} (numbers : W → List ℤ) (w : Witness W) (us : List Bytes) → (low_of w ≡ 0 → ⊥) → codes "EXTRA" ∷ us ≡ witness_words numbers w → ⊥
no_extra numbers (Extra w) us other e = other refl
no_extra numbers w us other e = let same = same_place_from numbers w 0 us (omega arith) e in absurd (omega (arith, same))

-- and so of two that are spelled alike
pub one_crate : {W : Type 0} (numbers : W → List ℤ) (v w : Witness W) → witness_words numbers v ≡ witness_words numbers w → low_of v + (begins numbers v).place ≡ low_of w + (begins numbers w).place
one_crate numbers v w e =
    let b = begins numbers v in
    same_place_from numbers w (low_of v + b.place) b.others (let few = b.within in let all = all_within v in omega (arith, few, all)) (sym b.first ∙ e)
