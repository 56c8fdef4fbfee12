-- Words that begin as a guess and are none.
use Rattle.std.proofs.Common.{◌≡◌, List, ◌∷◌, sym, ◌∙◌, ap, arith}
use Rattle.std.specs.Prelude.{codes}
use Rattle.region.specs.declared.types.Guess.TheVariants.{StartLe, StartGe, EndLe, EndGe, Before}
use Rattle.kernel.specs.Fit.{is_fit_guess}
use Rattle.textline.specs.Lines.{Bytes}
use Rattle.logtext.specs.Spelling.{guess_words}
use Rattle.logtext.specs.code.Reads.{NoneStands, bound_words, is_fit_bound, pair_words, is_fit_pair}
use Rattle.logtext.specs.laws.Leads.{tag, behind}

pub no_start_le : (old ws : List Bytes) → old ≡ codes "SL" ∷ ws → NoneStands bound_words is_fit_bound ws → NoneStands guess_words is_fit_guess old
no_start_le old ws is none (StartLe x t) rest fit e = none (x, t) rest fit (behind _ _ _ _ (sym is ∙ e))
no_start_le old ws is none _ rest fit e = absurd (omega (arith, ap tag (sym is ∙ e)))

pub no_start_ge : (old ws : List Bytes) → old ≡ codes "SG" ∷ ws → NoneStands bound_words is_fit_bound ws → NoneStands guess_words is_fit_guess old
no_start_ge old ws is none (StartGe x t) rest fit e = none (x, t) rest fit (behind _ _ _ _ (sym is ∙ e))
no_start_ge old ws is none _ rest fit e = absurd (omega (arith, ap tag (sym is ∙ e)))

pub no_end_le : (old ws : List Bytes) → old ≡ codes "EL" ∷ ws → NoneStands bound_words is_fit_bound ws → NoneStands guess_words is_fit_guess old
no_end_le old ws is none (EndLe x t) rest fit e = none (x, t) rest fit (behind _ _ _ _ (sym is ∙ e))
no_end_le old ws is none _ rest fit e = absurd (omega (arith, ap tag (sym is ∙ e)))

pub no_end_ge : (old ws : List Bytes) → old ≡ codes "EG" ∷ ws → NoneStands bound_words is_fit_bound ws → NoneStands guess_words is_fit_guess old
no_end_ge old ws is none (EndGe x t) rest fit e = none (x, t) rest fit (behind _ _ _ _ (sym is ∙ e))
no_end_ge old ws is none _ rest fit e = absurd (omega (arith, ap tag (sym is ∙ e)))

pub no_before : (old ws : List Bytes) → old ≡ codes "B" ∷ ws → NoneStands pair_words is_fit_pair ws → NoneStands guess_words is_fit_guess old
no_before old ws is none (Before p x y) rest fit e = none (p, x, y) rest fit (behind _ _ _ _ (sym is ∙ e))
no_before old ws is none _ rest fit e = absurd (omega (arith, ap tag (sym is ∙ e)))
