-- No spelling of a line is the front of another's, and each tells its line.
use Rattle.std.specs.Prelude.{◌≡◌, ℕ, zero, suc, ◌^◌, ◌<◌, ℤ, pos, negsuc, Bool, true, IsTrue, List, [], ◌∷◌, ◌++◌, length, get_or, map, codes}
use Rattle.std.proofs.Common.{refl, ap, sym, ◌∙◌, arith}
use Rattle.std.proofs.lemmas.List.{append-nil}
use Rattle.std.proofs.lemmas.Bool.Decides.{nat_tests}
use Rattle.std.specs.List.{list_all}
use Rattle.std.specs.Fmt.{decimal, signed_decimal}
use Rattle.sched_model.specs.Valid.{is_small}
use Rattle.region.specs.code.Spelled.{AreSmall}
use Rattle.kernel.specs.declared.types.Witness.{Witness}
use Rattle.kernel.specs.declared.types.Witness.TheVariants.{Basic, Hier, Seq, Cumul, State, Extra}
use Rattle.kernel.specs.declared.types.Line.{Line}
use Rattle.kernel.specs.declared.types.Line.TheVariants.{Derive, Fail, Split, Sol, Restart}
use Rattle.refute_basic.specs.Witness.{numbers_of, is_valid}
use Rattle.refute_basic.specs.laws.Spelling.{few_numbers, small_numbers, told_apart}
use Rattle.refute_hier.specs.Witness.{numbers_of as hier_numbers, is_valid as is_valid_hier}
use Rattle.refute_hier.specs.laws.Spelling.{few_numbers as few_hier, small_numbers as small_hier, told_apart as hier_apart}
use Rattle.refute_seq.specs.Witness.{numbers_of as seq_numbers, is_valid as is_valid_seq}
use Rattle.refute_seq.specs.laws.Spelling.{few_numbers as few_seq, small_numbers as small_seq, told_apart as seq_apart}
use Rattle.refute_cumul.specs.Witness.{numbers_of as cumul_numbers, is_valid as is_valid_cumul}
use Rattle.refute_cumul.specs.laws.Spelling.{few_numbers as few_cumul, small_numbers as small_cumul, told_apart as cumul_apart}
use Rattle.refute_state.specs.Witness.{numbers_of as state_numbers, is_valid as is_valid_state}
use Rattle.refute_state.specs.laws.Spelling.{few_numbers as few_state, small_numbers as small_state, told_apart as state_apart}
use Rattle.kernel.specs.Fit.{is_count, is_fit, is_fit_guess, is_fit_witness}
use Rattle.textline.specs.Lines.{Bytes, line}
use Rattle.textline.specs.Words.{are_words}
use Rattle.textline.specs.laws.Lines.{both_true, true_both, line_told, one_word}
use Rattle.logtext.specs.declared.entry.Entry.{Entry}
use Rattle.logtext.specs.declared.entry.Entry.TheVariants.{Head, Step, Finish}
use Rattle.logtext.specs.declared.version.Version.{Version}
use Rattle.logtext.specs.declared.version.Version.TheVariants.{One, Two}
use Rattle.logtext.specs.Spelling.{guess_words, basic_kinds, hier_kinds, seq_kinds, cumul_kinds, state_kinds, kind_words, witness_words, assignment_words, head_words, line_words}
use Rattle.logtext.specs.Entries.{entry_text, entry_words, is_fit_entry}
use Rattle.logtext.specs.laws.Leads.{tag, behind}
use Rattle.logtext.specs.laws.Told.{moments_told, guess_told, assignment_told}
use Rattle.logtext.specs.laws.Kinds.{are_different, is_placed, basic_differ, basic_plain, basic_placed, hier_differ, hier_plain, hier_placed, seq_differ, seq_plain, seq_placed, cumul_differ, cumul_plain, cumul_placed, state_differ, state_plain, state_placed, word_at, kind_told, begins, one_crate}
use Rattle.logtext.specs.laws.Plain.{count_word, moment_word, front_and, each_plain, guess_plain, assignment_plain}

-- valid witnesses have few and small numbers, which tell them apart
pub record AreTold {W : Type 0} (numbers : W → List ℤ) (valid : W → Bool) : Type 0 where
  pub few : (w : W) → IsTrue (valid w) → length (numbers w) < 2 ^ 32
  pub small : (w : W) → IsTrue (valid w) → AreSmall (numbers w)
  pub apart : (v w : W) → IsTrue (valid v) → IsTrue (valid w) → numbers v ≡ numbers w → v ≡ w

pub all_small : (zs : List ℤ) → AreSmall zs → list_all is_small zs ≡ true
all_small [] h = refl
all_small (z ∷ zs) h = true_both (is_small z) (list_all is_small zs) (h zero z (omega arith)) (all_small zs (λ k d within. h (suc k) d (omega (arith, within))))

pub few_is_count : (n : ℕ) → n < 2 ^ 32 → is_count n ≡ true
few_is_count n h = grind (arith, nat_tests)

-- a kind's spelling tells its witness
kind_witness_told : {W : Type 0} → (kinds : List Bytes) (numbers : W → List ℤ) (valid : W → Bool) → are_different kinds ≡ true → ((w : W) → is_placed kinds (numbers w) ≡ true) → AreTold numbers valid → (a b : W) → valid a ≡ true → valid b ≡ true
    → kind_words kinds (numbers a) ≡ kind_words kinds (numbers b) → a ≡ b
kind_witness_told kinds numbers valid differ placed laws a b ha hb e =
    laws.apart a b ha hb (kind_told kinds (numbers a) (numbers b) differ (placed a) (placed b) (all_small (numbers a) (laws.small a ha)) (all_small (numbers b) (laws.small b hb)) e)

pub basic_laws : AreTold numbers_of is_valid
basic_laws = record { few = few_numbers; small = small_numbers; apart = told_apart }

pub hier_laws : AreTold hier_numbers is_valid_hier
hier_laws = record { few = few_hier; small = small_hier; apart = hier_apart }

pub seq_laws : AreTold seq_numbers is_valid_seq
seq_laws = record { few = few_seq; small = small_seq; apart = seq_apart }

pub cumul_laws : AreTold cumul_numbers is_valid_cumul
cumul_laws = record { few = few_cumul; small = small_cumul; apart = cumul_apart }

pub state_laws : AreTold state_numbers is_valid_state
state_laws = record { few = few_state; small = small_state; apart = state_apart }

-- a witness is the last thing of its line
pub witness_told : {W : Type 0} → (numbers : W → List ℤ) (valid : W → Bool) → AreTold numbers valid → (a b : Witness W) → is_fit_witness valid a ≡ true → is_fit_witness valid b ≡ true → witness_words numbers a ≡ witness_words numbers b → a ≡ b
witness_told numbers valid laws (Basic a) (Basic b) ha hb e = ap Basic (kind_witness_told basic_kinds numbers_of is_valid basic_differ basic_placed basic_laws a b ha hb e)
witness_told numbers valid laws (Hier a) (Hier b) ha hb e = ap Hier (kind_witness_told hier_kinds hier_numbers is_valid_hier hier_differ hier_placed hier_laws a b ha hb e)
witness_told numbers valid laws (Seq a) (Seq b) ha hb e = ap Seq (kind_witness_told seq_kinds seq_numbers is_valid_seq seq_differ seq_placed seq_laws a b ha hb e)
witness_told numbers valid laws (Cumul a) (Cumul b) ha hb e = ap Cumul (kind_witness_told cumul_kinds cumul_numbers is_valid_cumul cumul_differ cumul_placed cumul_laws a b ha hb e)
witness_told numbers valid laws (State a) (State b) ha hb e = ap State (kind_witness_told state_kinds state_numbers is_valid_state state_differ state_placed state_laws a b ha hb e)
witness_told numbers valid laws (Extra a) (Extra b) ha hb e =
    let same = moments_told (numbers a) (numbers b) (all_small (numbers a) (laws.small a ha)) (all_small (numbers b) (laws.small b hb)) (behind _ _ _ _ (behind _ _ _ _ e)) in ap Extra (laws.apart a b ha hb same)
witness_told numbers valid laws v w ha hb e = let one = one_crate numbers v w e in let few = (begins numbers v).within in let also = (begins numbers w).within in absurd (omega (arith, one, few, also))

pub line_words_told : {W : Type 0} → (numbers : W → List ℤ) (valid : W → Bool) → AreTold numbers valid → (a b : Line W) → is_fit valid a ≡ true → is_fit valid b ≡ true → line_words numbers a ≡ line_words numbers b → a ≡ b
line_words_told numbers valid laws (Derive g v) (Derive h w) ha hb e =
    let fa = both_true (is_fit_guess g) (is_fit_witness valid v) ha in
    let fb = both_true (is_fit_guess h) (is_fit_witness valid w) hb in
    let guess = guess_told g h (witness_words numbers v) (witness_words numbers w) fa.0 fb.0 (behind _ _ _ _ e) in
    ap (λ x. Derive x v) guess.0 ∙ ap (λ x. Derive h x) (witness_told numbers valid laws v w fa.1 fb.1 guess.1)
line_words_told numbers valid laws (Fail v) (Fail w) ha hb e = ap Fail (witness_told numbers valid laws v w ha hb (behind _ _ _ _ e))
line_words_told numbers valid laws (Split g) (Split h) ha hb e =
    ap Split (guess_told g h [] [] ha hb (append-nil (guess_words g) ∙ behind _ _ _ _ e ∙ sym (append-nil (guess_words h)))).0
line_words_told numbers valid laws (Sol a) (Sol b) ha hb e = ap Sol (assignment_told a b ha hb (behind _ _ _ _ e))
line_words_told numbers valid laws Restart Restart ha hb e = refl
line_words_told numbers valid laws _ _ ha hb e = absurd (omega (arith, ap tag e))

-- a line that steps begins with a word that neither the first nor the last line of a log begins with
pub starts_alone : {W : Type 0} → (numbers : W → List ℤ) (l : Line W) → (tag (line_words numbers l) ≡ tag (head_words One) → ⊥) × (tag (line_words numbers l) ≡ tag (codes "end" ∷ []) → ⊥)
starts_alone numbers (Derive g w) = (λ h. absurd (omega (arith, h)), λ h. absurd (omega (arith, h)))
starts_alone numbers (Fail w) = (λ h. absurd (omega (arith, h)), λ h. absurd (omega (arith, h)))
starts_alone numbers (Split g) = (λ h. absurd (omega (arith, h)), λ h. absurd (omega (arith, h)))
starts_alone numbers (Sol a) = (λ h. absurd (omega (arith, h)), λ h. absurd (omega (arith, h)))
starts_alone numbers Restart = (λ h. absurd (omega (arith, h)), λ h. absurd (omega (arith, h)))

head_tag : (v : Version) → tag (head_words v) ≡ tag (head_words One)
head_tag One = refl
head_tag Two = refl

-- two versions differ in their digit
version_told : (v w : Version) → head_words v ≡ head_words w → v ≡ w
version_told One One e = refl
version_told Two Two e = refl
version_told One Two e = absurd (omega (arith, ap tag (behind (codes "schedlog") (codes "schedlog") (codes "1" ∷ []) (codes "2" ∷ []) e)))
version_told Two One e = absurd (omega (arith, ap tag (behind (codes "schedlog") (codes "schedlog") (codes "2" ∷ []) (codes "1" ∷ []) e)))

pub entry_words_told : {W : Type 0} → (numbers : W → List ℤ) (valid : W → Bool) → AreTold numbers valid → (a b : Entry W) → is_fit_entry valid a ≡ true → is_fit_entry valid b ≡ true → entry_words numbers a ≡ entry_words numbers b → a ≡ b
entry_words_told numbers valid laws (Head v) (Head w) ha hb e = ap Head (version_told v w e)
entry_words_told numbers valid laws Finish Finish ha hb e = refl
entry_words_told numbers valid laws (Step a) (Step b) ha hb e = ap Step (line_words_told numbers valid laws a b ha hb e)
entry_words_told numbers valid laws (Head v) Finish ha hb e = absurd (omega (arith, head_tag v, ap tag e))
entry_words_told numbers valid laws Finish (Head v) ha hb e = absurd (omega (arith, head_tag v, ap tag e))
entry_words_told numbers valid laws (Head v) (Step b) ha hb e = absurd ((starts_alone numbers b).0 (sym (ap tag e) ∙ head_tag v))
entry_words_told numbers valid laws Finish (Step b) ha hb e = absurd ((starts_alone numbers b).1 (sym (ap tag e)))
entry_words_told numbers valid laws (Step a) (Head v) ha hb e = absurd ((starts_alone numbers a).0 (ap tag e ∙ head_tag v))
entry_words_told numbers valid laws (Step a) Finish ha hb e = absurd ((starts_alone numbers a).1 (ap tag e))

numbers_plain : (zs : List ℤ) → list_all is_small zs ≡ true → are_words (map signed_decimal zs) ≡ true
numbers_plain zs h = each_plain signed_decimal is_small moment_word zs h

kind_plain : (kinds : List Bytes) (zs : List ℤ) → are_words kinds ≡ true → list_all is_small zs ≡ true → are_words (kind_words kinds zs) ≡ true
kind_plain kinds [] plain h = refl
kind_plain kinds (negsuc k ∷ zs) plain h = refl
kind_plain kinds (pos k ∷ zs) plain h = one_word (get_or kinds k []) (map signed_decimal zs) (word_at kinds k plain) (numbers_plain zs (both_true (is_small (pos k)) (list_all is_small zs) h).1)

pub witness_plain : {W : Type 0} → (numbers : W → List ℤ) (valid : W → Bool) → AreTold numbers valid → (w : Witness W) → is_fit_witness valid w ≡ true → are_words (witness_words numbers w) ≡ true
witness_plain numbers valid laws (Basic w) h = kind_plain basic_kinds (numbers_of w) basic_plain (all_small (numbers_of w) (small_numbers w h))
witness_plain numbers valid laws (Hier w) h = kind_plain hier_kinds (hier_numbers w) hier_plain (all_small (hier_numbers w) (small_hier w h))
witness_plain numbers valid laws (Seq w) h = kind_plain seq_kinds (seq_numbers w) seq_plain (all_small (seq_numbers w) (small_seq w h))
witness_plain numbers valid laws (Cumul w) h = kind_plain cumul_kinds (cumul_numbers w) cumul_plain (all_small (cumul_numbers w) (small_cumul w h))
witness_plain numbers valid laws (State w) h = kind_plain state_kinds (state_numbers w) state_plain (all_small (state_numbers w) (small_state w h))
witness_plain numbers valid laws (Extra w) h =
    one_word (decimal (length (numbers w))) (map signed_decimal (numbers w)) (count_word (length (numbers w)) (few_is_count (length (numbers w)) (laws.few w h))) (numbers_plain (numbers w) (all_small (numbers w) (laws.small w h)))

line_plain : {W : Type 0} → (numbers : W → List ℤ) (valid : W → Bool) → AreTold numbers valid → (l : Line W) → is_fit valid l ≡ true → are_words (line_words numbers l) ≡ true
line_plain numbers valid laws (Derive g w) h =
    let two = both_true (is_fit_guess g) (is_fit_witness valid w) h in front_and (guess_words g) (witness_words numbers w) (guess_plain g two.0) (witness_plain numbers valid laws w two.1)
line_plain numbers valid laws (Fail w) h = witness_plain numbers valid laws w h
line_plain numbers valid laws (Split g) h = guess_plain g h
line_plain numbers valid laws (Sol a) h = assignment_plain a h
line_plain numbers valid laws Restart h = refl

pub entry_plain : {W : Type 0} → (numbers : W → List ℤ) (valid : W → Bool) → AreTold numbers valid → (e : Entry W) → is_fit_entry valid e ≡ true → are_words (entry_words numbers e) ≡ true
entry_plain numbers valid laws (Head One) h = refl
entry_plain numbers valid laws (Head Two) h = refl
entry_plain numbers valid laws (Step l) h = line_plain numbers valid laws l h
entry_plain numbers valid laws Finish h = refl

-- the words of an entry, the first by itself
pub record HasWords {W : Type 0} (numbers : W → List ℤ) (e : Entry W) : Type 0 where
  pub first : Bytes
  pub rest : List Bytes
  pub words : entry_words numbers e ≡ first ∷ rest
  pub text : entry_text numbers e ≡ line (first ∷ rest)

pub has_words : {W : Type 0} → (numbers : W → List ℤ) (e : Entry W) → HasWords numbers e
has_words numbers (Head One) = record { first = codes "schedlog"; rest = codes "1" ∷ []; words = refl; text = refl }
has_words numbers (Head Two) = record { first = codes "schedlog"; rest = codes "2" ∷ []; words = refl; text = refl }
has_words numbers (Step (Derive g w)) = record { first = codes "d"; rest = guess_words g ++ witness_words numbers w; words = refl; text = refl }
has_words numbers (Step (Fail w)) = record { first = codes "f"; rest = witness_words numbers w; words = refl; text = refl }
has_words numbers (Step (Split g)) = record { first = codes "s"; rest = guess_words g; words = refl; text = refl }
has_words numbers (Step (Sol a)) = record { first = codes "v"; rest = assignment_words a; words = refl; text = refl }
has_words numbers (Step Restart) = record { first = codes "restart"; rest = []; words = refl; text = refl }
has_words numbers Finish = record { first = codes "end"; rest = []; words = refl; text = refl }

-- a text in front that is a spelling tells its entry and its end
pub entry_told : {W : Type 0} → (numbers : W → List ℤ) (valid : W → Bool) → AreTold numbers valid → (a b : Entry W) (x y : Bytes) → is_fit_entry valid a ≡ true → is_fit_entry valid b ≡ true → entry_text numbers a ++ x ≡ entry_text numbers b ++ y → (a ≡ b) × (x ≡ y)
entry_told numbers valid laws a b x y ha hb e =
    let u = has_words numbers a in
    let v = has_words numbers b in
    let same = line_told u.first u.rest v.first v.rest x y (ap are_words (sym u.words) ∙ entry_plain numbers valid laws a ha) (ap are_words (sym v.words) ∙ entry_plain numbers valid laws b hb)
    (ap (λ t. t ++ x) (sym u.text) ∙ e ∙ ap (λ t. t ++ y) v.text) in
    (entry_words_told numbers valid laws a b ha hb (u.words ∙ same.0 ∙ sym v.words), same.1)
