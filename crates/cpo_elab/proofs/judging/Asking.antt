-- What the model of a text asks is what the statements of the text ask.
use Rattle.std.proofs.Common.{◌≡◌, ℕ, ◌+◌, true, List, [], ◌∷◌, ◌++◌, map, Option, Some, None, refl, sym, ap, subst, ◌∙◌, append_assoc, append-nil}
use Rattle.std.specs.Prelude.{All, flat_map, Result, Ok, Err, IfOk}
use Rattle.std.specs.List.{list_all}
use Rattle.std.proofs.lemmas.Bool.{and_parts, and_from}
use Rattle.sched_model.specs.Data.{Data}
use Rattle.sched_model.specs.Sentences.{Holds}
use Rattle.sched_model.specs.Valid.{IsValid}
use Rattle.calendar.specs.declared.step.Pair.{Pair}
use Rattle.calendar.specs.declared.rules.Demand.{Demand}
use Rattle.calendar.specs.declared.rules.Demand.TheVariants as demand
use Rattle.calendar.specs.Steps.{closed_of}
use Rattle.calendar.specs.Rules.{rule_of, rules_of}
use Rattle.calendar.specs.Sentence.{Sentence, made_of, is_over_steps}
use Rattle.calendar.specs.Sentence.Sentence.{Plain, Calendar}
use Rattle.calendar.specs.laws.Sentences.{sentences_met}
use Rattle.sched_base.specs.declared.ids.Itv.{Itv}
use Rattle.cpo_text.specs.declared.cumul.Cumul.{Cumul}
use Rattle.cpo_text.specs.declared.tree.Definition.TheVariants.{IntervalVar, SequenceVar, TransitionMatrix, StateFunction, StepFunction, Cumulative}
use Rattle.cpo_text.specs.declared.tree.Over.TheVariants as over
use Rattle.cpo_text.specs.declared.tree.Constrained.{Constrained}
use Rattle.cpo_text.specs.declared.tree.Constrained.TheVariants.{Between, Parts, Alternative, NoOverlap, Extreme, Ordered, Bounded, AlwaysIn, AlwaysEqual, AlwaysNoState, Holds as Held}
use Rattle.cpo_text.specs.declared.tree.Statement.{Statement}
use Rattle.cpo_text.specs.declared.tree.Statement.TheVariants.{Empty, Define, Constrain, Forbid, Aim, Rank}
use Rattle.cpo_text.specs.declared.text.Form.{Form}
use Rattle.cpo_text.specs.declared.text.Form.TheVariants.{Tree as Parsed, Number}
use Rattle.cpo_text.specs.declared.text.Reading.{Reading}
use Rattle.cpo_text.specs.declared.text.ReadFault.{ReadFault}
use Rattle.cpo_elab.specs.Named.{itv_of}
use Rattle.cpo_elab.specs.Elaborated.{constraint_of, named_itself, with_unnamed, with_written}
use Rattle.cpo_elab.specs.NamedFirst.{sequence_place, cumul_place, renumbered, named_first}
use Rattle.cpo_elab.specs.Stages.{Stage, empty_stage, function_of, demand_of, reached}
use Rattle.cpo_elab.specs.Judged.{number_in}
use Rattle.cpo_elab.specs.Shaped.{is_shaped, is_shaped_form, are_shaped}
use Rattle.cpo_elab.specs.Answers.{number_at, after_form, refused_or, refusal, judged, Gives}
use Rattle.cpo_elab.specs.Answers.Answer.{Accepted}
use Rattle.cpo_elab.specs.Asked.{asked_by, asked_by_form, asked_by_all, last_stage, placed, asked, MeansText}
use Rattle.cpo_elab.specs.code.ValidLaws.{IsStage}
use Rattle.cpo_elab.specs.Deserves.Deserves.{unread, judgement}
use Rattle.cpo_elab.specs.Laws.{ModelsSayTheirTexts}
use Rattle.cpo_elab.proofs.judging.Calendars.{stage_kept, function_is}
use Rattle.cpo_elab.proofs.judging.Determined.{ReadingIsDetermined, same_tree}
use Rattle.cpo_elab.proofs.judging.Spelt.{texts_are_shaped}
use Rattle.cpo_elab.proofs.named.NumberedValid.{stays_valid}

-- each statement adds the constraints of what it asks

unnamed_adds_none : (m : Data) (f : Cumul) (o : Option (List ℕ)) → (with_unnamed m f o).constraints ≡ m.constraints
unnamed_adds_none m f None = refl
unnamed_adds_none m f (Some n) = refl

written_adds_none : (m : Data) (c : Constrained) → (with_written m c).constraints ≡ m.constraints
written_adds_none m (Between t a b z) = refl
written_adds_none m (Parts h a ns) = refl
written_adds_none m (Alternative a ns n) = refl
written_adds_none m (NoOverlap (over.Named p) s) = refl
written_adds_none m (NoOverlap (over.Listed ns) s) = refl
written_adds_none m (Extreme e p a) = refl
written_adds_none m (Ordered o p a b) = refl
written_adds_none m (Bounded f b c) = unnamed_adds_none m f (named_itself f)
written_adds_none m (AlwaysIn f w lo hi) = unnamed_adds_none m f (named_itself f)
written_adds_none m (AlwaysEqual g a v aligned) = refl
written_adds_none m (AlwaysNoState g a) = refl
written_adds_none m (Held e) = refl

adds : (st : Stage) (s : Statement) → (reached st s).model.constraints ≡ st.model.constraints ++ flat_map made_of (asked_by st s)
adds st Empty = sym (append-nil st.model.constraints)
adds st (Define n (IntervalVar args)) = sym (append-nil st.model.constraints)
adds st (Define n (SequenceVar ns types)) = sym (append-nil st.model.constraints)
adds st (Define n (TransitionMatrix rows)) = sym (append-nil st.model.constraints)
adds st (Define n (StateFunction x)) = sym (append-nil st.model.constraints)
adds st (Define n (StepFunction ps)) = sym (append-nil st.model.constraints)
adds st (Define n (Cumulative c)) = sym (append-nil st.model.constraints)
adds st (Constrain c) = ap (λ cs. cs ++ constraint_of st.model c ∷ []) (written_adds_none st.model c)
adds st (Forbid w a f) = ap (λ cs. st.model.constraints ++ cs) (sym (append-nil (rules_of (demand_of w) (itv_of st.model a) (function_of st f))))
adds st (Aim sense e) = sym (append-nil st.model.constraints)
adds st (Rank sense es) = sym (append-nil st.model.constraints)

adds_form : (st : Stage) (f : Form) → (after_form st f).model.constraints ≡ st.model.constraints ++ flat_map made_of (asked_by_form st f)
adds_form st (Parsed s) = adds st s
adds_form st (Number n) = sym (append-nil st.model.constraints)

flat_map-append : {X Y : Type 0} (f : X → List Y) (xs ys : List X) → flat_map f (xs ++ ys) ≡ flat_map f xs ++ flat_map f ys
flat_map-append f [] ys = refl
flat_map-append f (x ∷ xs) ys = ap (λ zs. f x ++ zs) (flat_map-append f xs ys) ∙ sym (append_assoc (f x) (flat_map f xs) (flat_map f ys))

all_added : (st : Stage) (xs : List Reading) → (last_stage st xs).model.constraints ≡ st.model.constraints ++ flat_map made_of (asked_by_all st xs)
all_added st [] = sym (append-nil st.model.constraints)
all_added st (x ∷ xs) =
    all_added (after_form st x.form) xs
    ∙ ap (λ cs. cs ++ flat_map made_of (asked_by_all (after_form st x.form) xs)) (adds_form st x.form)
    ∙ append_assoc st.model.constraints (flat_map made_of (asked_by_form st x.form)) (flat_map made_of (asked_by_all (after_form st x.form) xs))
    ∙ ap (λ cs. st.model.constraints ++ cs) (sym (flat_map-append made_of (asked_by_form st x.form) (asked_by_all (after_form st x.form) xs)))

-- the numbers of sequences and functions are none of a calendar's concern

map-append : {X Y : Type 0} (f : X → Y) (xs ys : List X) → map f (xs ++ ys) ≡ map f xs ++ map f ys
map-append f [] ys = refl
map-append f (x ∷ xs) ys = ap (λ zs. f x ∷ zs) (map-append f xs ys)

rules_stay : (s c : ℕ → ℕ) (d : Demand) (x : Itv) (rs : List Pair) → map (renumbered s c) (map (rule_of d x) rs) ≡ map (rule_of d x) rs
rules_stay s c d x [] = refl
rules_stay s c demand.Start x (r ∷ rs) = ap (λ cs. rule_of demand.Start x r ∷ cs) (rules_stay s c demand.Start x rs)
rules_stay s c demand.Extent x (r ∷ rs) = ap (λ cs. rule_of demand.Extent x r ∷ cs) (rules_stay s c demand.Extent x rs)

made_placed : (m : Data) (s : Sentence) → map (renumbered (sequence_place m) (cumul_place m)) (made_of s) ≡ made_of (placed m s)
made_placed m (Plain c) = refl
made_placed m (Calendar d x ps) = rules_stay (sequence_place m) (cumul_place m) d x (closed_of ps)

all_placed : (m : Data) (ss : List Sentence) → map (renumbered (sequence_place m) (cumul_place m)) (flat_map made_of ss) ≡ flat_map made_of (map (placed m) ss)
all_placed m [] = refl
all_placed m (s ∷ ss) =
    map-append (renumbered (sequence_place m) (cumul_place m)) (made_of s) (flat_map made_of ss)
    ∙ ap (λ cs. cs ++ map (renumbered (sequence_place m) (cumul_place m)) (flat_map made_of ss)) (made_placed m s)
    ∙ ap (λ cs. made_of (placed m s) ++ cs) (all_placed m ss)

constraints_made : (xs : List Reading) → (named_first (last_stage empty_stage xs).model).constraints ≡ flat_map made_of (asked xs)
constraints_made xs = let m = (last_stage empty_stage xs).model in
    ap (map (renumbered (sequence_place m) (cumul_place m))) (all_added empty_stage xs) ∙ all_placed m (asked_by_all empty_stage xs)

-- a text without a refusal is valid to its end

placed_steps : (m : Data) (ss : List Sentence) → list_all is_over_steps ss ≡ true → list_all is_over_steps (map (placed m) ss) ≡ true
placed_steps m [] all = refl
placed_steps m (Plain c ∷ ss) all = placed_steps m ss all
placed_steps m (Calendar d x ps ∷ ss) all =
    let both = and_parts (is_over_steps (Calendar d x ps)) (list_all is_over_steps ss) all in
    and_from (is_over_steps (Calendar d x ps)) (list_all is_over_steps (map (placed m) ss)) both.0 (placed_steps m ss both.1)

over_steps : (st : Stage) (s : Statement) → IsStage st → list_all is_over_steps (asked_by st s) ≡ true
over_steps st Empty stage = refl
over_steps st (Define n d) stage = refl
over_steps st (Constrain c) stage = refl
over_steps st (Forbid w a f) stage = and_from (is_over_steps (Calendar (demand_of w) (itv_of st.model a) (function_of st f))) true (function_is st f stage) refl
over_steps st (Aim sense e) stage = refl
over_steps st (Rank sense es) stage = refl

all_append : (xs ys : List Sentence) → list_all is_over_steps xs ≡ true → list_all is_over_steps ys ≡ true → list_all is_over_steps (xs ++ ys) ≡ true
all_append [] ys h k = k
all_append (x ∷ xs) ys h k = let both = and_parts (is_over_steps x) (list_all is_over_steps xs) h in and_from (is_over_steps x) (list_all is_over_steps (xs ++ ys)) both.0 (all_append xs ys both.1 k)

record Reached (st : Stage) (xs : List Reading) (m : Data) : Type 0 where
  is : named_first (last_stage st xs).model ≡ m
  valid : IsValid (last_stage st xs).model
  steps : list_all is_over_steps (asked_by_all st xs) ≡ true

same_model : (m n : Data) → Accepted m ≡ Accepted n → m ≡ n
same_model m n h = cc h

no_refusal : (n k at : ℕ) (m : Data) → refusal n k at ≡ Accepted m → ⊥
no_refusal n k at m h = cc h

accepted : (st : Stage) (k : ℕ) (xs : List Reading) (m : Data) → IsStage st → are_shaped xs ≡ true → judged st k xs ≡ Accepted m → Reached st xs m
accepted st k [] m stage shaped is = record { is = same_model (named_first st.model) m is; valid = stage.valid; steps = refl }
accepted st k (x ∷ xs) m stage shaped is = let both = and_parts (is_shaped_form x.form) (are_shaped xs) shaped in by_form x.form both.0 (λ next stage' is'. accepted next (k + 1) xs m stage' both.1 is') is
  where
    by_number : (s : Statement) → is_shaped s ≡ true → ((next : Stage) → IsStage next → judged next (k + 1) xs ≡ Accepted m → Reached next xs m)
        → (o : Option ℕ) → number_in st k s ≡ o → refused_or o k x.at (judged (reached st s) (k + 1) xs) ≡ Accepted m → Reached st (record x { form = Parsed s } ∷ xs) m
    by_number s shaped rest (Some n) none is = absurd (no_refusal n k x.at m is)
    by_number s shaped rest None none is =
        let later = rest (reached st s) (stage_kept st k s stage shaped none) is in
        record { is = later.is; valid = later.valid; steps = all_append (asked_by st s) (asked_by_all (reached st s) xs) (over_steps st s stage) later.steps }

    by_form : (f : Form) → is_shaped_form f ≡ true → ((next : Stage) → IsStage next → judged next (k + 1) xs ≡ Accepted m → Reached next xs m)
        → refused_or (number_at st k f) k x.at (judged (after_form st f) (k + 1) xs) ≡ Accepted m → Reached st (record x { form = f } ∷ xs) m
    by_form (Parsed s) shaped rest is = by_number s shaped rest (number_in st k s) refl is
    by_form (Number n) shaped rest is = absurd (no_refusal n k x.at m is)

empty_is : IsStage empty_stage
empty_is = record {
  valid = record { names = refl; intervals = refl; matrices = refl; sequences = refl; cumuls = refl; states = refl; constraints = refl; objective = refl; criteria = tt; limits = refl };
  steps = refl;
}

-- the law: the solutions of the model are the assignments in its domain that do what the text asks
text_means : (xs : List Reading) (m : Data) → are_shaped xs ≡ true → judged empty_stage 1 xs ≡ Accepted m → MeansText xs m
text_means xs m shaped is a domain =
    let end = accepted empty_stage 1 xs m empty_is shaped is in
    let valid : IsValid m = subst IsValid end.is (stays_valid (last_stage empty_stage xs).model end.valid) in
    let made : m.constraints ≡ flat_map made_of (asked xs) = sym (ap (λ (n : Data). n.constraints) end.is) ∙ constraints_made xs in
    let steps = placed_steps (last_stage empty_stage xs).model (asked_by_all empty_stage xs) end.steps in
    let law = sentences_met m a (asked xs) valid domain steps in (
      λ s. law.0 (subst (All (Holds m a)) made s.holds),
      λ h. record { domain = domain; holds = subst (All (Holds m a)) (sym made) (law.1 h) },
    )

pub elaborated_means : (xs : List Reading) (r : Result Data ReadFault) → are_shaped xs ≡ true → Gives r (judged empty_stage 1 xs) → IfOk r (λ m. MeansText xs m)
elaborated_means xs (Ok m) shaped gives = text_means xs m shaped gives
elaborated_means xs (Err e) shaped gives = tt

pub models_say_their_texts : ReadingIsDetermined → ModelsSayTheirTexts
models_say_their_texts laws text tree m read (unread r refused is) = cc is
models_say_their_texts laws text tree m read (judgement t other is) =
    let same : t.statements ≡ tree.statements = same_tree laws text t tree other read in
    text_means tree.statements m (texts_are_shaped text tree read) (sym (is ∙ ap (judged empty_stage 1) same))
