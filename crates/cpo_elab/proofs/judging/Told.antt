-- The statements behind the last that is told say nothing.
use Rattle.std.proofs.Common.{◌≡◌, ℕ, zero, suc, ◌+◌, ◌≤◌, List, [], ◌∷◌, take, Option, Some, None, refl, ap, arith}
use Rattle.cpo_elab.specs.Stages.{Stage, empty_stage}
use Rattle.cpo_text.specs.declared.text.Form.{Form}
use Rattle.cpo_text.specs.declared.text.Form.TheVariants.{Tree as Parsed, Number}
use Rattle.cpo_text.specs.declared.text.Reading.{Reading}
use Rattle.cpo_text.specs.declared.tree.Statement.{Statement}
use Rattle.cpo_elab.specs.Judged.{statement_limit, number_in}
use Rattle.cpo_elab.specs.Answers.{Answer, number_at, after_form, refused_or, judged}
use Rattle.cpo_elab.specs.Laws.{OnlyToldCount}
use Rattle.cpo_elab.proofs.judging.Stepped.{few}

-- a statement beyond the limit deserves a number, so what is judged behind it says nothing
late : (st : Stage) (k at : ℕ) (s : Statement) (a b : Answer) (o : Option ℕ) → number_in st (k + 1) s ≡ o → statement_limit ≤ k → refused_or o (k + 1) at a ≡ refused_or o (k + 1) at b
late st k at s a b (Some n) is above = refl
late st k at s a b None is above = let below = few st k s is in absurd (omega arith)

late_form : (st : Stage) (k at : ℕ) (f : Form) (a b : Answer) → statement_limit ≤ k → refused_or (number_at st (k + 1) f) (k + 1) at a ≡ refused_or (number_at st (k + 1) f) (k + 1) at b
late_form st k at (Parsed s) a b above = late st k at s a b (number_in st (k + 1) s) refl above
late_form st k at (Number n) a b above = refl

told_first : (st : Stage) (n k : ℕ) (xs : List Reading) → statement_limit ≤ n + k → judged st (k + 1) (take (suc n) xs) ≡ judged st (k + 1) xs
told_first st n k [] enough = refl
told_first st zero k (x ∷ xs) enough = late_form st k x.at x.form _ _ (omega arith)
told_first st (suc n) k (x ∷ xs) enough = ap (refused_or (number_at st (k + 1) x.form) (k + 1) x.at) (told_first (after_form st x.form) n (k + 1) xs (omega arith))

pub only_told_count : OnlyToldCount
only_told_count xs = told_first empty_stage statement_limit 0 xs (omega arith)
