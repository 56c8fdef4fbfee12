-- Statements of calendars that deserve no number.
use Rattle.std.proofs.Common.{◌≡◌, ℕ, ℤ, pos, Bool, true, false, not, ◌&&◌, ◌||◌, cond, List, [], ◌∷◌, ◌++◌, length, nat_lt, nat_le, Option, Some, None, is_some, refl, ap, subst, ◌∙◌, arith}
use Rattle.std.specs.Prelude.{int_lt, unwrap_or}
use Rattle.std.specs.Str.{bytes_eq}
use Rattle.std.specs.Map.{lookup}
use Rattle.std.specs.List.{list_all, list_any}
use Rattle.std.proofs.lemmas.Int.{ints}
use Rattle.std.proofs.lemmas.Bool.Decides.{nat_tests}
use Rattle.std.proofs.lemmas.Bool.{and_parts, and_from, or_parts}
use Rattle.std.proofs.lemmas.List.{length-map}
use Rattle.std.proofs.lemmas.List.Folds.{list_all-append}
use Rattle.sched_model.specs.Words.{passes_if_any}
use Rattle.sched_model.specs.Bounds.{is_moment, is_amount}
use Rattle.sched_model.specs.Data.{Data}
use Rattle.sched_model.specs.Valid.{IsValid, is_itv, is_within_limits}
use Rattle.calendar.specs.declared.step.Pair.{Pair}
use Rattle.calendar.specs.Steps.{rises, are_steps}
use Rattle.calendar.specs.Rules.{rules_of, with_constraints}
use Rattle.calendar.specs.laws.Fitting.{valid_rules}
use Rattle.cpo_text.specs.declared.tree.StepPair.{StepPair}
use Rattle.cpo_text.specs.declared.tree.Definition.TheVariants.{IntervalVar, SequenceVar, TransitionMatrix, StateFunction, StepFunction, Cumulative}
use Rattle.cpo_text.specs.declared.tree.Forbidden.{Forbidden}
use Rattle.cpo_text.specs.declared.tree.Statement.{Statement}
use Rattle.cpo_text.specs.declared.tree.Statement.TheVariants.{Empty, Define, Constrain, Forbid, Aim, Rank}
use Rattle.cpo_elab.specs.declared.names.Sort.TheVariants.{Interval}
use Rattle.cpo_elab.specs.Literals.{int_of}
use Rattle.cpo_elab.specs.Named.{is_defined, itv_of}
use Rattle.cpo_elab.specs.Stages.{Stage, pairs_named, is_function, is_known, function_of, pairs_of, demand_of, made_in, reached}
use Rattle.cpo_elab.specs.Judged.{is_of_other_sort, is_negative, is_outside, is_large, is_wide, statement_limit, leaves_room, number_in}
use Rattle.cpo_elab.specs.Shaped.{is_shaped}
use Rattle.cpo_elab.specs.code.Judging.{IsClear}
use Rattle.cpo_elab.specs.code.ValidLaws.{IsStage}
use Rattle.cpo_elab.proofs.named.Ids.{right_itv}
use Rattle.cpo_elab.proofs.judging.Truth.{not_true}
use Rattle.cpo_elab.proofs.judging.Clear.{Clear, clear}
use Rattle.cpo_elab.proofs.judging.Valid.{valid_after}

-- step functions

abbrev at_moment : StepPair → ℤ × ℤ
at_moment p = (int_of p.moment, int_of p.moment)

pairs_fit : (ps : List StepPair) → list_any (λ p. is_outside (at_moment p)) ps ≡ false → list_any (λ p. is_negative (int_of p.value)) ps ≡ false → list_any (λ p. is_large (int_of p.value)) ps ≡ false
    → list_all (λ q. is_moment q.t && is_amount q.v) (pairs_of ps) ≡ true
pairs_fit [] inside signs small = refl
pairs_fit (p ∷ ps) inside signs small =
    let a = or_parts (is_outside (at_moment p)) (list_any (λ p. is_outside (at_moment p)) ps) inside in
    let b = or_parts (is_negative (int_of p.value)) (list_any (λ p. is_negative (int_of p.value)) ps) signs in
    let c = or_parts (is_large (int_of p.value)) (list_any (λ p. is_large (int_of p.value)) ps) small in
    and_from (is_moment (int_of p.moment) && is_amount (int_of p.value)) _
    (and_from (is_moment (int_of p.moment)) (is_amount (int_of p.value)) (not_true _ (or_parts (not (is_moment (int_of p.moment))) (not (is_moment (int_of p.moment))) a.0).0) (amount (int_of p.value) b.0 c.0))
    (pairs_fit ps a.1 b.1 c.1)
  where
    amount : (z : ℤ) → int_lt z (pos 0) ≡ false → int_lt (pos 1000000) z ≡ false → is_amount z ≡ true
    amount z h i = grind (arith, ints)

few : (n : ℕ) → nat_lt 1000 n ≡ false → nat_le n 1000 ≡ true
few n h = grind (arith, nat_tests)

function_steps : (st : Stage) (k : ℕ) (n : List ℕ) (ps : List StepPair) → Clear st k (Define n (StepFunction ps)) → are_steps (pairs_of ps) ≡ true
function_steps st k n ps clear =
    let rising = or_parts (not (rises (pairs_of ps))) _ clear.ordered in
    let room = or_parts (nat_lt statement_limit k) (is_wide (Define n (StepFunction ps)) || not (leaves_room st (Define n (StepFunction ps)))) clear.room in
    let wide = or_parts (is_wide (Define n (StepFunction ps))) (not (leaves_room st (Define n (StepFunction ps)))) room.1 in
    let pairs = or_parts (nat_lt 1000 (length ps)) _ wide.0 in
    let long = or_parts (nat_lt 64 (length n)) _ pairs.1 in
    let inside = or_parts (list_any (λ p. is_outside (at_moment p)) ps) _ long.1 in
    let small = or_parts (list_any (λ p. is_large (int_of p.value)) ps) false inside.1 in
    and_from (rises (pairs_of ps) && list_all (λ q. is_moment q.t && is_amount q.v) (pairs_of ps)) (nat_le (length (pairs_of ps)) 1000)
    (and_from (rises (pairs_of ps)) _ (not_true _ rising.0) (pairs_fit ps inside.0 clear.signs small.0))
    (ap (λ m. nat_le m 1000) (length-map ps (λ p. record { t = int_of p.moment; v = int_of p.value })) ∙ few (length ps) pairs.0)

-- sentences

there : (st : Stage) (k : ℕ) (w : Forbidden) (a f : List ℕ) → Clear st k (Forbid w a f) → is_itv st.model (itv_of st.model a) ≡ true
there st k w a f clear =
    let both = or_parts (not (is_function st f)) (is_of_other_sort st.model Interval a || false) clear.right in
    right_itv st.model a (or_parts (is_of_other_sort st.model Interval a) false both.1).0

named : (st : Stage) (k : ℕ) (w : Forbidden) (a f : List ℕ) → Clear st k (Forbid w a f) → is_function st f ≡ true
named st k w a f clear = not_true (is_function st f) (or_parts (not (is_function st f)) (is_of_other_sort st.model Interval a || false) clear.right).0

within : (P : List Pair → Bool) (o : Option (List Pair)) → is_some o ≡ true → passes_if_any P o ≡ true → P (unwrap_or o []) ≡ true
within P None some h = cc
within P (Some ps) some h = h

limits : (st : Stage) (k : ℕ) (w : Forbidden) (a f : List ℕ) → Clear st k (Forbid w a f) → is_within_limits (with_constraints (made_in st w a f) st.model) ≡ true
limits st k w a f clear =
    let room = or_parts (nat_lt statement_limit k) (is_wide (Forbid w a f) || not (leaves_room st (Forbid w a f))) clear.room in
    let wide = or_parts (is_wide (Forbid w a f)) (not (leaves_room st (Forbid w a f))) room.1 in
    within (λ ps. is_within_limits (with_constraints (rules_of (demand_of w) (itv_of st.model a) ps) st.model)) (pairs_named st f) (named st k w a f clear) (not_true (leaves_room st (Forbid w a f)) wide.1)

steps_found : (es : List (List ℕ × List Pair)) (n : List ℕ) → list_all (λ e. are_steps e.1) es ≡ true → are_steps (unwrap_or (lookup (bytes_eq n) es) []) ≡ true
steps_found [] n all = refl
steps_found (e ∷ es) n all = let both = and_parts (are_steps e.1) (list_all (λ e. are_steps e.1) es) all in by_case (bytes_eq n e.0) both.0 (steps_found es n both.1)
  where
    by_case : (b : Bool) → are_steps e.1 ≡ true → are_steps (unwrap_or (lookup (bytes_eq n) es) []) ≡ true → are_steps (unwrap_or (cond b (Some e.1) (lookup (bytes_eq n) es)) []) ≡ true
    by_case true here rest = here
    by_case false here rest = rest

-- each function of a name is one of steps
pub function_is : (st : Stage) (n : List ℕ) → IsStage st → are_steps (function_of st n) ≡ true
function_is st n stage = steps_found st.steps n stage.steps

calendar_valid : (st : Stage) (k : ℕ) (w : Forbidden) (a f : List ℕ) → IsStage st → Clear st k (Forbid w a f) → IsValid (with_constraints (made_in st w a f) st.model)
calendar_valid st k w a f stage clear = valid_rules st.model (demand_of w) (itv_of st.model a) (function_of st f) stage.valid (there st k w a f clear) (function_is st f stage) (limits st k w a f clear)

-- what stands behind a statement

with_steps : (st : Stage) (n : List ℕ) (ps : List Pair) → IsStage st → are_steps ps ≡ true → IsStage (record st { steps = st.steps ++ (n, ps) ∷ [] })
with_steps st n ps stage steps = record {
  valid = stage.valid;
  steps = list_all-append (λ e. are_steps e.1) st.steps ((n, ps) ∷ []) ∙ and_from (list_all (λ e. are_steps e.1) st.steps) (are_steps ps && true) stage.steps (and_from (are_steps ps) true steps refl);
}

with_model : (st : Stage) (m : Data) → IsStage st → IsValid m → IsStage (record st { model = m })
with_model st m stage valid = record { valid = valid; steps = stage.steps }

of_model : (st : Stage) (k : ℕ) (s : Statement) → number_in st k s ≡ None → IsClear st.model s
of_model st k s none = (st, k, refl, none)

pub stage_kept : (st : Stage) (k : ℕ) (s : Statement) → IsStage st → is_shaped s ≡ true → number_in st k s ≡ None → IsStage (reached st s)
stage_kept st k Empty stage shaped none = with_model st _ stage (valid_after st.model Empty stage.valid shaped (of_model st k Empty none))
stage_kept st k (Define n (IntervalVar args)) stage shaped none = with_model st _ stage (valid_after st.model (Define n (IntervalVar args)) stage.valid shaped (of_model st k _ none))
stage_kept st k (Define n (SequenceVar ns types)) stage shaped none = with_model st _ stage (valid_after st.model (Define n (SequenceVar ns types)) stage.valid shaped (of_model st k _ none))
stage_kept st k (Define n (TransitionMatrix rows)) stage shaped none = with_model st _ stage (valid_after st.model (Define n (TransitionMatrix rows)) stage.valid shaped (of_model st k _ none))
stage_kept st k (Define n (StateFunction x)) stage shaped none = with_model st _ stage (valid_after st.model (Define n (StateFunction x)) stage.valid shaped (of_model st k _ none))
stage_kept st k (Define n (StepFunction ps)) stage shaped none = with_steps st n (pairs_of ps) stage (function_steps st k n ps (clear st k (Define n (StepFunction ps)) none))
stage_kept st k (Define n (Cumulative c)) stage shaped none = with_model st _ stage (valid_after st.model (Define n (Cumulative c)) stage.valid shaped (of_model st k _ none))
stage_kept st k (Constrain c) stage shaped none = with_model st _ stage (valid_after st.model (Constrain c) stage.valid shaped (of_model st k _ none))
stage_kept st k (Forbid w a f) stage shaped none = with_model st _ stage (calendar_valid st k w a f stage (clear st k (Forbid w a f) none))
stage_kept st k (Aim sense e) stage shaped none = with_model st _ stage (valid_after st.model (Aim sense e) stage.valid shaped (of_model st k _ none))
stage_kept st k (Rank sense es) stage shaped none = with_model st _ stage (valid_after st.model (Rank sense es) stage.valid shaped (of_model st k _ none))

-- said of a statement that is one of these

pub new_steps : (st : Stage) (s : Statement) (n name : List ℕ) (ps qs : List StepPair) → s ≡ Define n (StepFunction ps) → qs ≡ ps → (k : ℕ) × (number_in st k s ≡ None) → are_steps (pairs_of qs) ≡ true
new_steps st s n name ps qs is same (k, none) = ap (λ xs. are_steps (pairs_of xs)) same ∙ function_steps st k n ps (clear st k (Define n (StepFunction ps)) (subst (λ t. number_in st k t ≡ None) is none))

not_known : (st : Stage) (n : List ℕ) → is_known st n ≡ false → pairs_named st n ≡ None
not_known st n h = none (pairs_named st n) (or_parts (is_function st n) (is_defined st.model n) h).0
  where
    none : (o : Option (List Pair)) → is_some o ≡ false → o ≡ None
    none None h = refl
    none (Some x) h = cc

pub new_function : (st : Stage) (s : Statement) (n name : List ℕ) (ps : List StepPair) → s ≡ Define n (StepFunction ps) → name ≡ n → (k : ℕ) × (number_in st k s ≡ None) → pairs_named st name ≡ None
new_function st s n name ps is same (k, none) =
    let clear : Clear st k (Define n (StepFunction ps)) = clear st k (Define n (StepFunction ps)) (subst (λ t. number_in st k t ≡ None) is none) in
    ap (pairs_named st) same ∙ not_known st n clear.fresh

sentence_clear : (st : Stage) (k : ℕ) (s : Statement) (w : Forbidden) (a f : List ℕ) → s ≡ Forbid w a f → number_in st k s ≡ None → Clear st k (Forbid w a f)
sentence_clear st k s w a f is none = clear st k (Forbid w a f) (subst (λ t. number_in st k t ≡ None) is none)

pub sentence_named : (st : Stage) (s : Statement) (w : Forbidden) (a f f' : List ℕ) → s ≡ Forbid w a f → f' ≡ f → (k : ℕ) × (number_in st k s ≡ None) → is_function st f' ≡ true
sentence_named st s w a f f' is same (k, none) = ap (is_function st) same ∙ named st k w a f (sentence_clear st k s w a f is none)

pub sentence_there : (st : Stage) (s : Statement) (w : Forbidden) (a f a' : List ℕ) → s ≡ Forbid w a f → a' ≡ a → (k : ℕ) × (number_in st k s ≡ None) → is_itv st.model (itv_of st.model a') ≡ true
sentence_there st s w a f a' is same (k, none) = ap (λ x. is_itv st.model (itv_of st.model x)) same ∙ there st k w a f (sentence_clear st k s w a f is none)

pub sentence_limits : (st : Stage) (s : Statement) (w w' : Forbidden) (a f a' f' : List ℕ) → s ≡ Forbid w a f → w' ≡ w → a' ≡ a → f' ≡ f → (k : ℕ) × (number_in st k s ≡ None)
    → is_within_limits (with_constraints (made_in st w' a' f') st.model) ≡ true
sentence_limits st s w w' a f a' f' is same_w same_a same_f (k, none) =
    (λ i. is_within_limits (with_constraints (made_in st (same_w i) (same_a i) (same_f i)) st.model)) ∙ limits st k w a f (sentence_clear st k s w a f is none)
