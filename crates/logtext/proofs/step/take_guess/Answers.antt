use Rattle.std.proofs.Common.{◌∷◌, ap, refl, ◌∙◌}
use Rattle.logtext.proofs.Guesses.{no_start_le, no_start_ge, no_end_le, no_end_ge, no_before}
use Rattle.logtext.proofs.step.take_guess.Goals as goal

pub returns-in_err-x-3 : goal.returns-in_err-x-3
returns-in_err-x-3 c = rw (c.from_residual-in_err-x-3.ensures) (no_start_le c.args.words.now c.next.new.self (c.in_ok-form.ensures ∙ ap (λ v. v ∷ c.next.new.self) (c.if-is-3.ensures.0 refl)) c.in_err-x-3.ensures)

pub returns-in_err-x-4 : goal.returns-in_err-x-4
returns-in_err-x-4 c = rw (c.from_residual-in_err-x-4.ensures) (no_start_ge c.args.words.now c.next.new.self (c.in_ok-form.ensures ∙ ap (λ v. v ∷ c.next.new.self) (c.if-is-4.ensures.0 refl)) c.in_err-x-4.ensures)

pub returns-in_err-x-5 : goal.returns-in_err-x-5
returns-in_err-x-5 c = rw (c.from_residual-in_err-x-5.ensures) (no_end_le c.args.words.now c.next.new.self (c.in_ok-form.ensures ∙ ap (λ v. v ∷ c.next.new.self) (c.if-is-5.ensures.0 refl)) c.in_err-x-5.ensures)

pub returns-in_err-x-6 : goal.returns-in_err-x-6
returns-in_err-x-6 c = rw (c.from_residual-in_err-x-6.ensures) (no_end_ge c.args.words.now c.next.new.self (c.in_ok-form.ensures ∙ ap (λ v. v ∷ c.next.new.self) (c.if-is-6.ensures.0 refl)) c.in_err-x-6.ensures)

pub returns-in_err-p : goal.returns-in_err-p
returns-in_err-p c = rw (c.from_residual-in_err-p.ensures) (no_before c.args.words.now c.next.new.self (c.in_ok-form.ensures ∙ ap (λ v. v ∷ c.next.new.self) (c.if-is-7.ensures.0 refl)) c.in_err-p.ensures)
