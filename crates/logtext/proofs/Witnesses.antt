-- Words that begin as a witness and are none.
use Rattle.std.proofs.Common.{◌≡◌, ℕ, ◌<◌, ℤ, pos, negsuc, Bool, true, false, IsTrue, List, [], ◌∷◌, ◌++◌, length, map, get_or, drop, slice_get, sym, ◌∙◌, ap, arith, refl, Option, Some, None, IfNone, Ok, Err}
use Rattle.std.proofs.lemmas.Bool.Decides.{nat_tests}
use Rattle.std.proofs.lemmas.List.Folds.{list_all-append}
use Rattle.std.specs.Fmt.{decimal, signed_decimal}
use Rattle.std.specs.List.{list_all}
use Rattle.sched_model.specs.Valid.{is_small}
use Rattle.refute_seq.specs.Witness.{numbers_of as seq_numbers, is_valid as is_valid_seq}
use Rattle.refute_cumul.specs.Witness.{numbers_of as cumul_numbers, is_valid as is_valid_cumul}
use Rattle.refute_state.specs.Witness.{numbers_of as state_numbers, is_valid as is_valid_state}
use Rattle.kernel.specs.declared.types.Witness.{Witness}
use Rattle.kernel.specs.declared.types.Witness.TheVariants.{Seq, Cumul, State}
use Rattle.kernel.specs.Fit.{is_count, is_fit_witness}
use Rattle.textline.specs.Lines.{Bytes}
use Rattle.textline.specs.laws.Lines.{both_true}
use Rattle.logtext.specs.declared.entry.EntryFault.{EntryFault}
use Rattle.logtext.specs.declared.entry.EntryFault.TheVariants.{Bad, NoMemory}
use Rattle.logtext.specs.Spelling.{seq_kinds, cumul_kinds, state_kinds, kind_words, witness_words}
use Rattle.logtext.specs.code.Reads.{NoneStands, ReadsWhole, ReadsNumbers, ReadsValue, count_words, moment_words, extra_words}
use Rattle.logtext.specs.laws.Leads.{behind, head_is}
use Rattle.logtext.specs.laws.Told.{count_told, moments_told}
use Rattle.logtext.specs.laws.Entries.{AreTold, all_small, few_is_count}
use Rattle.logtext.specs.laws.Kinds.{are_different, is_placed, seq_differ, seq_placed, cumul_differ, cumul_placed, state_differ, state_placed, one_place, begins, no_seq, no_cumul, no_state}
use Rattle.logtext.proofs.Lines.{NoneWhole}

-- values

-- no number stands where the numbers that were read end
pub no_more : (us zs : List ℤ) (words : List Bytes) → list_all is_small zs ≡ true → (words ≡ [] → ⊥) → NoneStands moment_words is_small words → map signed_decimal us ++ words ≡ map signed_decimal zs → ⊥
no_more [] [] words fit more none e = more e
no_more [] (z ∷ zs) words fit more none e = none z (map signed_decimal zs) (both_true (is_small z) (list_all is_small zs) fit).0 e
no_more (u ∷ us) [] words fit more none e = cc
no_more (u ∷ us) (z ∷ zs) words fit more none e = no_more us zs words (both_true (is_small z) (list_all is_small zs) fit).1 more none (behind _ _ _ _ e)

behind_small : {W : Type 0} (numbers : W → List ℤ) (valid : W → Bool) → AreTold numbers valid → (front zs : List ℤ) (w : W) → IsTrue (valid w) → numbers w ≡ front ++ zs → list_all is_small zs ≡ true
behind_small numbers valid laws front zs w fit is =
    (both_true (list_all is_small front) (list_all is_small zs) (sym (list_all-append is_small front zs) ∙ ap (list_all is_small) (sym is) ∙ all_small (numbers w) (laws.small w fit))).1

pub value_fails : {W : Type 0} (numbers : W → List ℤ) (valid : W → Bool) → AreTold numbers valid → (words : List Bytes) (front after : List ℤ) (r : EntryFault) → ReadsNumbers words front after (Err r) → ReadsValue numbers valid front words (Err r)
value_fails numbers valid laws words front after Bad none = λ w zs fit is e. none zs (behind_small numbers valid laws front zs w fit is) e
value_fails numbers valid laws words front after NoMemory none = tt

pub no_value : {W : Type 0} (numbers : W → List ℤ) (valid : W → Bool) → AreTold numbers valid → (words : List Bytes) (front after : List ℤ) (u : Unit {0}) → ReadsNumbers words front after (Ok u) → ((w : W) → IsTrue (valid w) → numbers w ≡ after → ⊥) → ReadsValue numbers valid front words (Err Bad)
no_value numbers valid laws words front after u read none w zs fit is e =
    let same = moments_told zs read.0 (behind_small numbers valid laws front zs w fit is) read.1 (sym e ∙ read.3) in none w fit (is ∙ ap (λ ys. front ++ ys) same ∙ sym read.2)

pub has_value : {W : Type 0} (numbers : W → List ℤ) (valid : W → Bool) (words : List Bytes) (front after : List ℤ) (u : Unit {0}) (w : W) → ReadsNumbers words front after (Ok u) → IsTrue (valid w) → numbers w ≡ after → ReadsValue numbers valid front words (Ok w)
has_value numbers valid words front after u w read fit is = (fit, read.0, is ∙ read.2, read.3)

pub if_none : {A : Type 0} (P : Type 0) (o : Option A) → o ≡ None → IfNone o P → P
if_none P None e h = h
if_none P (Some x) e h = cc

-- extra witnesses

pub no_count : {W : Type 0} (numbers : W → List ℤ) (valid : W → Bool) → AreTold numbers valid → (old : List Bytes) → NoneStands count_words is_count old → NoneWhole (extra_words numbers) valid old
no_count numbers valid laws old none v fit e = none (length (numbers v)) (map signed_decimal (numbers v)) (few_is_count (length (numbers v)) (laws.few v fit)) e

pub extra_fails : {W : Type 0} (numbers : W → List ℤ) (valid : W → Bool) (old ws : List Bytes) (n : ℕ) (r : EntryFault) → old ≡ decimal n ∷ ws → ReadsValue numbers valid [] ws (Err r) → ReadsWhole (extra_words numbers) valid old (Err r)
extra_fails numbers valid old ws n Bad is none = λ v fit e. none v (numbers v) fit refl (behind _ _ _ _ (sym is ∙ e))
extra_fails numbers valid old ws n NoMemory is none = tt

pub other_count : {W : Type 0} (numbers : W → List ℤ) (valid : W → Bool) → AreTold numbers valid → (old ws : List Bytes) (n : ℕ) (w : W) → is_count n ≡ true → old ≡ decimal n ∷ ws → ReadsValue numbers valid [] ws (Ok w) → (length (numbers w) ≡ n → ⊥) → NoneWhole (extra_words numbers) valid old
other_count numbers valid laws old ws n w count is read other v fit e =
    let both = sym is ∙ e in
    let many = count_told n (length (numbers v)) count (few_is_count (length (numbers v)) (laws.few v fit)) (head_is _ _ _ _ both) in
    let same = moments_told (numbers v) (numbers w) (all_small (numbers v) (laws.small v fit)) (all_small (numbers w) (laws.small w read.0)) (sym (behind _ _ _ _ both) ∙ read.3 ∙ ap (map signed_decimal) (sym read.2)) in
    other (ap length (sym same) ∙ sym many)

pub has_extra : {W : Type 0} (numbers : W → List ℤ) (valid : W → Bool) (old ws : List Bytes) (n : ℕ) (w : W) → old ≡ decimal n ∷ ws → ReadsValue numbers valid [] ws (Ok w) → length (numbers w) ≡ n → old ≡ extra_words numbers w
has_extra numbers valid old ws n w is read many = is ∙ ap (λ k. decimal k ∷ ws) (sym many) ∙ ap (λ vs. decimal (length (numbers w)) ∷ vs) (read.3 ∙ ap (map signed_decimal) (sym read.2))

-- the word of a kind

-- a kind's numbers behind its place
record HasPlace (kinds : List Bytes) (zs : List ℤ) : Type 0 where
  place : ℕ
  others : List ℤ
  within : place < length kinds
  is : zs ≡ pos place ∷ others

has_place : (kinds : List Bytes) (zs : List ℤ) → is_placed kinds zs ≡ true → HasPlace kinds zs
has_place kinds [] h = cc
has_place kinds (negsuc k ∷ zs) h = cc
has_place kinds (pos k ∷ zs) h = record { place = k; others = zs; within = grind (arith, nat_tests); is = refl }

pub no_word : {W : Type 0} (numbers : W → List ℤ) (valid : W → Bool) → NoneWhole (witness_words numbers) (is_fit_witness valid) []
no_word numbers valid w fit e = let bare = e ∙ (begins numbers w).first in cc

-- numbers that are read from a place on, and those of a witness that is spelled alike
other_kind : {V : Type 0} (kinds : List Bytes) (numbers : V → List ℤ) (valid : V → Bool) → are_different kinds ≡ true → ((v : V) → is_placed kinds (numbers v) ≡ true) → (k : ℕ) (ws : List Bytes) (v : V) → k < length kinds
    → ReadsValue numbers valid (pos k ∷ []) ws (Err Bad) → valid v ≡ true → get_or kinds k [] ∷ ws ≡ kind_words kinds (numbers v) → ⊥
other_kind kinds numbers valid differ placed k ws v within none fit e =
    let there = has_place kinds (numbers v) (placed v) in
    let both = e ∙ ap (kind_words kinds) there.is in
    let place = one_place kinds k there.place differ within there.within (head_is _ _ _ _ both) in
    none v there.others fit (there.is ∙ ap (λ j. pos j ∷ there.others) (sym place)) (behind _ _ _ _ both)

pub seq_fails : {W : Type 0} (numbers : W → List ℤ) (valid : W → Bool) (old ws : List Bytes) (k : ℕ) (r : EntryFault) → k < length seq_kinds → old ≡ get_or seq_kinds k [] ∷ ws → ReadsValue seq_numbers is_valid_seq (pos k ∷ []) ws (Err r)
    → ReadsWhole (witness_words numbers) (is_fit_witness valid) old (Err r)
seq_fails {W} numbers valid old ws k Bad within is none = no_kind
  where
    no_kind : (v : Witness W) → IsTrue (is_fit_witness valid v) → old ≡ witness_words numbers v → ⊥
    no_kind (Seq w) fit e = other_kind seq_kinds seq_numbers is_valid_seq seq_differ seq_placed k ws w within none fit (sym is ∙ e)
    no_kind w fit e = no_seq numbers w k ws (λ h. omega (arith, h)) within (sym is ∙ e)
seq_fails numbers valid old ws k NoMemory within is none = tt

pub cumul_fails : {W : Type 0} (numbers : W → List ℤ) (valid : W → Bool) (old ws : List Bytes) (k : ℕ) (r : EntryFault) → k < length cumul_kinds → old ≡ get_or cumul_kinds k [] ∷ ws → ReadsValue cumul_numbers is_valid_cumul (pos k ∷ []) ws (Err r)
    → ReadsWhole (witness_words numbers) (is_fit_witness valid) old (Err r)
cumul_fails {W} numbers valid old ws k Bad within is none = no_kind
  where
    no_kind : (v : Witness W) → IsTrue (is_fit_witness valid v) → old ≡ witness_words numbers v → ⊥
    no_kind (Cumul w) fit e = other_kind cumul_kinds cumul_numbers is_valid_cumul cumul_differ cumul_placed k ws w within none fit (sym is ∙ e)
    no_kind w fit e = no_cumul numbers w k ws (λ h. omega (arith, h)) within (sym is ∙ e)
cumul_fails numbers valid old ws k NoMemory within is none = tt

pub state_fails : {W : Type 0} (numbers : W → List ℤ) (valid : W → Bool) (old ws : List Bytes) (k : ℕ) (r : EntryFault) → k < length state_kinds → old ≡ get_or state_kinds k [] ∷ ws → ReadsValue state_numbers is_valid_state (pos k ∷ []) ws (Err r)
    → ReadsWhole (witness_words numbers) (is_fit_witness valid) old (Err r)
state_fails {W} numbers valid old ws k Bad within is none = no_kind
  where
    no_kind : (v : Witness W) → IsTrue (is_fit_witness valid v) → old ≡ witness_words numbers v → ⊥
    no_kind (State w) fit e = other_kind state_kinds state_numbers is_valid_state state_differ state_placed k ws w within none fit (sym is ∙ e)
    no_kind w fit e = no_state numbers w k ws (λ h. omega (arith, h)) within (sym is ∙ e)
state_fails numbers valid old ws k NoMemory within is none = tt

pub never : IsTrue false → ⊥
never h = cc

-- writing the word of a kind

pub kind_place : (kinds : List Bytes) (zs : List ℤ) (z : ℤ) → is_placed kinds zs ≡ true → slice_get zs 0 ≡ Some z → (k : ℕ) × (z ≡ pos k) × (k < length kinds) × (kind_words kinds zs ≡ get_or kinds k [] ∷ map signed_decimal (drop 1 zs))
kind_place kinds [] z placed at = cc
kind_place kinds (negsuc k ∷ zs) z placed at = cc
kind_place kinds (pos k ∷ zs) z placed at = (k, cc, grind (arith, nat_tests), refl)

pub some_number : (kinds : List Bytes) (zs : List ℤ) → is_placed kinds zs ≡ true → 0 < length zs
some_number kinds [] placed = cc
some_number kinds (z ∷ zs) placed = omega arith
