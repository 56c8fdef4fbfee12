-- What a text deserves is valid, and as a text can write it.
use Rattle.std.proofs.Common.{◌≡◌, ℕ, ◌+◌, true, List, [], ◌∷◌, Option, Some, None, refl, sym, subst}
use Rattle.std.proofs.lemmas.Bool.{and_parts}
use Rattle.sched_model.specs.Data.{Data, empty_model}
use Rattle.sched_model.specs.Valid.{IsValid}
use Rattle.cpo_text.specs.Words.{Word}
use Rattle.cpo_text.specs.Tokens.{Token}
use Rattle.cpo_text.specs.Runs.{runs, words_of}
use Rattle.cpo_text.specs.Reads.{HasForm, AreReadings, told}
use Rattle.cpo_text.specs.declared.tree.Statement.{Statement}
use Rattle.cpo_text.specs.declared.tree.Statement.TheVariants.{Empty, Define, Constrain, Forbid, Aim, Rank}
use Rattle.cpo_text.specs.declared.text.Form.{Form}
use Rattle.cpo_text.specs.declared.text.Form.TheVariants.{Tree as Parsed, Number}
use Rattle.cpo_text.specs.declared.text.Reading.{Reading}
use Rattle.calendar.specs.Steps.{closed_of}
use Rattle.cpo_text.specs.declared.tree.Definition.TheVariants.{IntervalVar, SequenceVar, TransitionMatrix, StateFunction, StepFunction, Cumulative}
use Rattle.cpo_elab.specs.Named.{itv_of}
use Rattle.cpo_elab.specs.Elaborated.{after}
use Rattle.cpo_elab.specs.Stages.{Stage, empty_stage, function_of, demand_of, reached}
use Rattle.cpo_elab.specs.Shaped.{is_shaped_form, are_shaped}
use Rattle.cpo_elab.specs.NamedFirst.{named_first}
use Rattle.cpo_elab.specs.Answers.{Answer, number_at, after_form, refused_or, judged}
use Rattle.cpo_elab.specs.Answers.Answer.{Accepted}
use Rattle.cpo_elab.specs.Deserves.Deserves.{unread, judgement}
use Rattle.cpo_elab.specs.Laws.{TextsAreShaped}
use Rattle.cpo_elab.specs.NamedFirstLaws.{NamedFirstIsValid}
use Rattle.cpo_elab.specs.code.ValidLaws.{IsStage, StatementsKeepValid}
use Rattle.read_back.specs.Written.{IsWritten}
use Rattle.read_back.specs.Laws.{DeservedAreWritten}
use Rattle.read_back.proofs.written.Fine.{Fine}
use Rattle.read_back.proofs.written.Clear.{Told, Clear, told as what_is_told, clear}
use Rattle.read_back.proofs.written.Defined.{defined_fine, aimed_fine, ranked_fine}
use Rattle.read_back.proofs.written.Stated.{stated_fine}
use Rattle.read_back.proofs.written.Calendars.{rules_fine}
use Rattle.read_back.proofs.written.Models.{written_model}

empty_valid : IsValid empty_model
empty_valid = record { names = refl; intervals = refl; matrices = refl; sequences = refl; cumuls = refl; states = refl; constraints = refl; objective = refl; criteria = tt; limits = refl }

empty_fine : Fine empty_model
empty_fine = record { intervals = refl; matrices = refl; sequences = refl; cumuls = refl; states = refl; constraints = refl; objective = refl; listed = refl; unnamed = refl }

-- a stage of a model that is valid and fine
abbrev Sound : Stage → Type 0
Sound st = IsStage st × Fine st.model

after_fine : (m : Data) (s : Statement) → IsValid m → Fine m → Told s → Clear m s → Fine (after m s)
after_fine m Empty valid before told clear = before
after_fine m (Define n d) valid before told clear = defined_fine m n d valid before told clear
after_fine m (Constrain c) valid before told clear = stated_fine m c valid before told clear
after_fine m (Forbid w a f) valid before told clear = before
after_fine m (Aim s e) valid before told clear = aimed_fine m s e before told clear
after_fine m (Rank s es) valid before told clear = ranked_fine m s es before told clear

reached_fine : (st : Stage) (s : Statement) → IsValid st.model → Fine st.model → Told s → Clear st.model s → Fine (reached st s).model
reached_fine st Empty valid before told clear = before
reached_fine st (Define n (IntervalVar args)) valid before told clear = after_fine st.model (Define n (IntervalVar args)) valid before told clear
reached_fine st (Define n (SequenceVar ns types)) valid before told clear = after_fine st.model (Define n (SequenceVar ns types)) valid before told clear
reached_fine st (Define n (TransitionMatrix rows)) valid before told clear = after_fine st.model (Define n (TransitionMatrix rows)) valid before told clear
reached_fine st (Define n (StateFunction x)) valid before told clear = after_fine st.model (Define n (StateFunction x)) valid before told clear
reached_fine st (Define n (StepFunction ps)) valid before told clear = before
reached_fine st (Define n (Cumulative c)) valid before told clear = after_fine st.model (Define n (Cumulative c)) valid before told clear
reached_fine st (Constrain c) valid before told clear = after_fine st.model (Constrain c) valid before told clear
reached_fine st (Forbid w a f) valid before told clear = rules_fine st.model (demand_of w) (itv_of st.model a) (closed_of (function_of st f)) before
reached_fine st (Aim s e) valid before told clear = after_fine st.model (Aim s e) valid before told clear
reached_fine st (Rank s es) valid before told clear = after_fine st.model (Rank s es) valid before told clear

form_sound : StatementsKeepValid → (st : Stage) (k : ℕ) (ws : List Word) (f : Form) → HasForm ws f → is_shaped_form f ≡ true → number_at st k f ≡ None → Sound st → Sound (after_form st f)
form_sound law st k ws (Parsed s) has shaped none sound = (law st k s sound.0 shaped none, reached_fine st s sound.0.valid sound.1 (what_is_told ws s has.0 has.1) (clear st k s none))
form_sound law st k ws (Number n) has shaped none sound = cc none

not_refused : (o : Option ℕ) (k at : ℕ) (answer : Answer) (m : Data) → refused_or o k at answer ≡ Accepted m → (o ≡ None) × (answer ≡ Accepted m)
not_refused None k at answer m h = (refl, h)
not_refused (Some n) k at answer m h = cc h

-- the model that is accepted is one behind some statements, with what has a name in front
pub record Comes (m : Data) : Type 0 where
  pub from : Stage
  pub sound : Sound from
  pub is : named_first from.model ≡ m

judged_sound : StatementsKeepValid → (rs : List (List Token)) (xs : List Reading) (n : Stage) (k : ℕ) (m : Data) → AreReadings rs xs → are_shaped xs ≡ true → Sound n → judged n k xs ≡ Accepted m → Comes m
judged_sound law rs [] n k m are shaped sound h = record { from = n; sound = sound; is = cc h }
judged_sound law [] (x ∷ xs) n k m are shaped sound h = absurd are
judged_sound law (r ∷ rs) (x ∷ xs) n k m are shaped sound h =
    let parts = not_refused (number_at n k x.form) k x.at (judged (after_form n x.form) (k + 1) xs) m h in
    let shapes = and_parts (is_shaped_form x.form) (are_shaped xs) shaped in
    judged_sound law rs xs (after_form n x.form) (k + 1) m are.2 shapes.1 (form_sound law n k (words_of r) x.form are.1 shapes.0 parts.0 sound) parts.1

comes_written : NamedFirstIsValid → (m : Data) → Comes m → IsValid m × IsWritten m
comes_written law m comes =
    (subst IsValid comes.is (law comes.from.model comes.sound.0.valid), subst IsWritten comes.is (written_model comes.from.model comes.sound.1))

pub deserved_are_written : StatementsKeepValid → NamedFirstIsValid → TextsAreShaped → DeservedAreWritten
deserved_are_written keeps first shaped text m (unread r refused is) = cc is
deserved_are_written keeps first shaped text m (judgement tree read is) =
    comes_written first m (judged_sound keeps (told (runs read.tokens)) tree.statements empty_stage 1 m read.readings (shaped text tree read) (record { valid = empty_valid; steps = refl }, empty_fine) (sym is))
