-- Words that begin as a line and are none.
use Rattle.std.proofs.Common.{◌≡◌, Bool, true, IsTrue, ℤ, List, [], ◌∷◌, ◌++◌, sym, ◌∙◌, ap, Err, arith}
use Rattle.std.specs.Prelude.{codes}
use Rattle.std.proofs.lemmas.List.{append-nil}
use Rattle.region.specs.declared.types.Guess.{Guess}
use Rattle.kernel.specs.declared.types.Witness.{Witness}
use Rattle.kernel.specs.declared.types.Line.{Line}
use Rattle.kernel.specs.declared.types.Line.TheVariants.{Derive, Fail, Split}
use Rattle.kernel.specs.Fit.{is_fit, is_fit_guess, is_fit_witness}
use Rattle.textline.specs.Lines.{Bytes}
use Rattle.textline.specs.laws.Lines.{both_true}
use Rattle.logtext.specs.declared.entry.EntryFault.{EntryFault}
use Rattle.logtext.specs.declared.entry.EntryFault.TheVariants.{Bad, NoMemory}
use Rattle.logtext.specs.Spelling.{guess_words, witness_words, line_words}
use Rattle.logtext.specs.code.Reads.{NoneStands, ReadsWhole}
use Rattle.logtext.specs.laws.Leads.{tag, behind}
use Rattle.logtext.specs.laws.Told.{guess_told}

abbrev pub NoneWhole : {A : Type 0} → (A → List Bytes) → (A → Bool) → List Bytes → Type 0
NoneWhole {A} spelled fit words = (v : A) → IsTrue (fit v) → words ≡ spelled v → ⊥

-- the witness behind the guess that was read
past_guess : {W : Type 0} (numbers : W → List ℤ) (valid : W → Bool) (g h : Guess) (w : Witness W) (ws w1 : List Bytes) → is_fit_guess g ≡ true → ws ≡ guess_words g ++ w1 → is_fit valid (Derive h w) ≡ true → codes "d" ∷ ws ≡ line_words numbers (Derive h w) → w1 ≡ witness_words numbers w
past_guess numbers valid g h w ws w1 ok is fit e = (guess_told g h w1 (witness_words numbers w) ok (both_true (is_fit_guess h) (is_fit_witness valid w) fit).0 (sym is ∙ behind _ _ _ _ e)).1

pub derive_fails : {W : Type 0} (numbers : W → List ℤ) (valid : W → Bool) (g : Guess) (ws w1 : List Bytes) (r : EntryFault) → is_fit_guess g ≡ true → ws ≡ guess_words g ++ w1 → ReadsWhole (witness_words numbers) (is_fit_witness valid) w1 (Err r)
    → ReadsWhole (line_words numbers) (is_fit valid) (codes "d" ∷ ws) (Err r)
derive_fails {W} numbers valid g ws w1 Bad ok is none = no_line
  where
    no_line : (l : Line W) → IsTrue (is_fit valid l) → codes "d" ∷ ws ≡ line_words numbers l → ⊥
    no_line (Derive h w) fit e = none w (both_true (is_fit_guess h) (is_fit_witness valid w) fit).1 (past_guess numbers valid g h w ws w1 ok is fit e)
    no_line _ fit e = absurd (omega (arith, ap tag e))
derive_fails numbers valid g ws w1 NoMemory ok is none = tt

pub fail_fails : {W : Type 0} (numbers : W → List ℤ) (valid : W → Bool) (ws : List Bytes) (r : EntryFault) → ReadsWhole (witness_words numbers) (is_fit_witness valid) ws (Err r) → ReadsWhole (line_words numbers) (is_fit valid) (codes "f" ∷ ws) (Err r)
fail_fails {W} numbers valid ws Bad none = no_line
  where
    no_line : (l : Line W) → IsTrue (is_fit valid l) → codes "f" ∷ ws ≡ line_words numbers l → ⊥
    no_line (Fail w) fit e = none w fit (behind _ _ _ _ e)
    no_line _ fit e = absurd (omega (arith, ap tag e))
fail_fails numbers valid ws NoMemory none = tt

pub split_no_guess : {W : Type 0} (numbers : W → List ℤ) (valid : W → Bool) (ws : List Bytes) → NoneStands guess_words is_fit_guess ws → NoneWhole (line_words numbers) (is_fit valid) (codes "s" ∷ ws)
split_no_guess numbers valid ws none (Split g) fit e = none g [] fit (behind _ _ _ _ e ∙ sym (append-nil (guess_words g)))
split_no_guess numbers valid ws none _ fit e = absurd (omega (arith, ap tag e))
