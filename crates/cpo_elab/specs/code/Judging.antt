-- What judging a statement answers.
use Rattle.std.specs.Prelude.{◌≡◌, ℕ, List, [], ◌∷◌, map, Option, Some, None}
use Rattle.sched_model.specs.Data.{Data}
use Rattle.cpo_elab.specs.Stages.{Stage}
use Rattle.cpo_text.specs.declared.tree.Statement.{Statement}
use Rattle.cpo_elab.specs.declared.judge.Judgement.{Judgement}
use Rattle.cpo_elab.specs.declared.judge.Judgement.TheVariants.{Refused, Taken}
use Rattle.cpo_elab.specs.declared.holding.Written.{Written}
use Rattle.cpo_elab.specs.declared.holding.Written.TheVariants.{Nothing, One, Several}
use Rattle.sched_model.specs.declared.types.Expr.{Expr}
use Rattle.sched_model.specs.Rank.{rank_within}
use Rattle.cpo_elab.specs.Held.{logics_in}
use Rattle.cpo_elab.specs.Elaborated.{expr_of}
use Rattle.cpo_elab.specs.Judged.{defines_again, uses_unknown, uses_wrong, has_reversed, has_negative, misfits, has_twice, passes_limit, aims_again, has_no_hull, has_crowded, first_of, number_in}

-- by the tests that need no expression of a model, and by those behind them
abbrev pub early_number : Stage → ℕ → Statement → Option ℕ
early_number st k s = first_of
    ((defines_again st s, 4) ∷ (uses_unknown st s, 5) ∷ (uses_wrong st s, 6) ∷ (has_reversed s, 7) ∷ (has_negative s, 8) ∷ (misfits st.model s, 9)
    ∷ (has_twice st.model s, 10) ∷ (passes_limit st k s, 11) ∷ (aims_again st.model s, 12) ∷ [])

abbrev pub late_number : Stage → Statement → Option ℕ
late_number st s = first_of ((has_no_hull st.model s, 13) ∷ (has_crowded s, 14) ∷ [])

-- that the statement deserves no number behind some statements whose model this is
abbrev pub IsClear : Data → Statement → Type 0
IsClear m s = (st : Stage) × (k : ℕ) × (st.model ≡ m) × (number_in st k s ≡ None)

-- the expressions that a statement holds: none, one, or several with their rank, if they have one
abbrev pub written_of : Data → List Expr → Written
written_of m [] = Nothing
written_of m (e ∷ []) = One e
written_of m es = Several es (rank_within m es)

abbrev pub written_in : Data → Statement → Written
written_in m s = written_of m (map (expr_of m) (logics_in s))

-- the number that the statement deserves, or that it deserves none, and the expressions that it holds
abbrev pub Judges : Stage → ℕ → Statement → Judgement → Type 0
Judges st k s (Refused n) = number_in st k s ≡ Some n
Judges st k s (Taken written) = (number_in st k s ≡ None) × (written ≡ written_in st.model s)
