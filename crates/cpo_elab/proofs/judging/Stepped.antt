-- One statement after another.
use Rattle.std.proofs.Common.{◌≡◌, ℕ, ◌+◌, ◌<◌, ◌≤◌, true, false, not, ◌&&◌, ◌||◌, List, ◌∷◌, length, drop, get_or, None, Ok, nat_lt, sym, ap, subst, ◌∙◌, arith}
use Rattle.std.proofs.lemmas.List.{at_drop_more}
use Rattle.std.proofs.lemmas.Bool.Decides.{nat_tests}
use Rattle.std.proofs.lemmas.Bool.{and_parts, or_parts}
use Rattle.sched_model.specs.Data.{Data, with_constraint}
use Rattle.sched_model.specs.Valid.{IsValid}
use Rattle.cpo_text.specs.declared.tree.Definition.{Definition}
use Rattle.cpo_text.specs.declared.tree.Constrained.{Constrained}
use Rattle.cpo_text.specs.declared.tree.Statement.{Statement}
use Rattle.cpo_text.specs.declared.tree.Statement.TheVariants.{Define, Constrain}
use Rattle.cpo_text.specs.declared.text.Reading.{Reading}
use Rattle.cpo_elab.specs.Named.{is_defined}
use Rattle.cpo_elab.specs.Held.{some_amount, rows_in}
use Rattle.cpo_elab.specs.Elaborated.{defined, constraint_of, with_written, after}
use Rattle.cpo_elab.specs.Judged.{is_large, is_negative, is_wide, leaves_room, statement_limit, aims_again, has_no_hull, number_in}
use Rattle.cpo_elab.specs.Stages.{Stage}
use Rattle.cpo_elab.specs.code.Calendars.{is_of_calendars}
use Rattle.cpo_elab.specs.Answers.{Answer, after_form, refused_or, judged}
use Rattle.cpo_elab.specs.code.Judging.{IsClear}
use Rattle.cpo_elab.specs.code.Steps.{State, Takes}
use Rattle.cpo_elab.specs.Shaped.{is_shaped, is_shaped_form, are_shaped}
use Rattle.cpo_elab.proofs.judging.Clear.{clear}
use Rattle.cpo_elab.proofs.judging.Facts.{Facts}
use Rattle.cpo_elab.proofs.judging.Valid.{known, valid_after, valid_written}

below : (n limit : ℕ) → nat_lt limit (n + 1) ≡ false → n < limit
below n limit h = grind (arith, nat_tests)

pub few : (st : Stage) (n : ℕ) (s : Statement) → number_in st (n + 1) s ≡ None → n < statement_limit
few st n s none = below n statement_limit (or_parts (nat_lt statement_limit (n + 1)) (is_wide s || not (leaves_room st s)) (clear st (n + 1) s none).room).0

-- a definition

define_clear : (m : Data) (s : Statement) (name : List ℕ) (d : Definition) → s ≡ Define name d → IsClear m s → IsClear m (Define name d)
define_clear m s name d is clear = subst (IsClear m) is clear

pub can_define : (m : Data) (s : Statement) (name n : List ℕ) (d : Definition) → s ≡ Define name d → n ≡ name → IsValid m → is_shaped s ≡ true → IsClear m s → IsValid (defined m n d)
can_define m s name n d is n_is before shaped clear =
    subst (λ x. IsValid (defined m x d)) (sym n_is) (valid_after m (Define name d) before (subst (λ t. is_shaped t ≡ true) is shaped) (define_clear m s name d is clear))

facts_of : (m : Data) (s : Statement) (name n : List ℕ) (d : Definition) → s ≡ Define name d → n ≡ name → IsValid m → IsClear m s → Facts m (Define n d)
facts_of m s name n d is n_is before clear = subst (λ x. Facts m (Define x d)) (sym n_is) (known m (Define name d) before (define_clear m s name d is clear))

pub fresh_name : (m : Data) (s : Statement) (name n : List ℕ) (d : Definition) → s ≡ Define name d → n ≡ name → IsValid m → IsClear m s → is_defined m n ≡ false
fresh_name m s name n d is n_is before clear = let f : Facts m (Define n d) = facts_of m s name n d is n_is before clear in f.fresh

pub small_amounts : (m : Data) (s : Statement) (name n : List ℕ) (d : Definition) → s ≡ Define name d → n ≡ name → IsValid m → IsClear m s → some_amount is_large (Define n d) ≡ false
small_amounts m s name n d is n_is before clear = let f : Facts m (Define n d) = facts_of m s name n d is n_is before clear in f.small

pub no_signs : (m : Data) (s : Statement) (name n : List ℕ) (d : Definition) → s ≡ Define name d → n ≡ name → IsValid m → IsClear m s → some_amount is_negative (Define n d) ≡ false
no_signs m s name n d is n_is before clear = let f : Facts m (Define n d) = facts_of m s name n d is n_is before clear in f.signs

at_most : (n k : ℕ) → nat_lt k n ≡ false → n ≤ k
at_most n k h = grind (arith, nat_tests)

pub few_rows : (m : Data) (s : Statement) (name n : List ℕ) (d : Definition) → s ≡ Define name d → n ≡ name → IsValid m → IsClear m s → length (rows_in (Define n d)) ≤ 200
few_rows m s name n d is n_is before clear = let f : Facts m (Define n d) = facts_of m s name n d is n_is before clear in at_most (length (rows_in (Define n d))) 200 f.rows

pub own_name : (s : Statement) (name n : List ℕ) (d : Definition) → s ≡ Define name d → n ≡ name → is_of_calendars s ≡ false → is_of_calendars (Define n d) ≡ false
own_name s name n d is n_is own = subst (λ x. is_of_calendars (Define x d) ≡ false) (sym n_is) (subst (λ t. is_of_calendars t ≡ false) is own)

-- a constraint that is no expression, and any statement

pub can_constrain : (m : Data) (s : Statement) (c : Constrained) → s ≡ Constrain c → IsValid m → is_shaped s ≡ true → IsClear m s → IsValid (with_constraint (constraint_of m c) (with_written m c))
can_constrain m s c is before shaped clear = valid_after m (Constrain c) before (subst (λ t. is_shaped t ≡ true) is shaped) (subst (IsClear m) is clear)

pub can_write : (m : Data) (s : Statement) (c : Constrained) → s ≡ Constrain c → IsValid m → IsClear m s → IsValid (with_written m c)
can_write m s c is before clear = valid_written m c before (subst (IsClear m) is clear)

pub can_step : (m : Data) (s : Statement) → IsValid m → is_shaped s ≡ true → IsClear m s → IsValid (after m s)
can_step m s before shaped clear = valid_after m s before shaped clear

pub first_aim : (m : Data) (s : Statement) → IsValid m → IsClear m s → aims_again m s ≡ false
first_aim m s before clear = let f = known m s before clear in f.single

pub hull_there : (m : Data) (s : Statement) → IsValid m → IsClear m s → has_no_hull m s ≡ false
hull_there m s before clear = let f = known m s before clear in f.hull

-- the trees that are left are as the grammar has them

split : (xs : List Reading) (i : ℕ) (x : Reading) → i < length xs → x ≡ get_or xs i x → are_shaped (drop i xs) ≡ true → (is_shaped_form x.form ≡ true) × (are_shaped (drop (i + 1) xs) ≡ true)
split xs i x within at_i shaped =
    and_parts (is_shaped_form x.form) (are_shaped (drop (i + 1) xs))
    (ap (λ y. is_shaped_form y.form && are_shaped (drop (i + 1) xs)) at_i ∙ sym (at_drop_more are_shaped xs i x within) ∙ shaped)

pub rest_shaped : (xs : List Reading) (i : ℕ) (x : Reading) → i < length xs → x ≡ get_or xs i x → are_shaped (drop i xs) ≡ true → are_shaped (drop (i + 1) xs) ≡ true
rest_shaped xs i x within at_i shaped = (split xs i x within at_i shaped).1

-- and what is left is judged as before

pub rest_judged : (xs : List Reading) (i : ℕ) (x : Reading) (e next : State) (whole : Answer) → i < length xs → x ≡ get_or xs i x → Takes e x (Ok next)
    → judged e.stage (e.statements + 1) (drop i xs) ≡ whole → judged next.stage (next.statements + 1) (drop (i + 1) xs) ≡ whole
rest_judged xs i x e next whole within at_i takes is =
    let rest : List Reading = drop (i + 1) xs in
    ap (λ (s : State). judged s.stage (s.statements + 1) rest) takes.1
    ∙ sym (ap (λ o. refused_or o (e.statements + 1) x.at (judged (after_form e.stage x.form) (e.statements + 1 + 1) rest)) takes.0)
    ∙ ap (λ y. judged e.stage (e.statements + 1) (y ∷ rest)) at_i
    ∙ sym (at_drop_more (judged e.stage (e.statements + 1)) xs i x within)
    ∙ is
