-- A text spells one assignment, and answers that show a schedule are schedule texts.
use Rattle.std.proofs.Common.{◌≡◌, inl, inr, ℤ, true, List, [], ◌∷◌, ◌++◌, codes, Some, None, sym, ◌∙◌, ap, refl, arith, append_assoc, append-nil}
use Rattle.std.specs.Fmt.{decimal}
use Rattle.std.specs.List.{list_all}
use Rattle.base_laws.specs.laws.Items.{all_append}
use Rattle.sched_model.specs.declared.types.Answer.{Answer}
use Rattle.sched_model.specs.declared.types.Answer.TheVariants.{Optimal, Feasible, Infeasible, Unfinished}
use Rattle.sched_model.specs.declared.types.Solved.{Solved}
use Rattle.sched_model.specs.declared.types.Assignment.{Assignment}
use Rattle.sched_model.specs.Data.{Data}
use Rattle.sched_model.specs.Valid.{IsValid}
use Rattle.textline.specs.Lines.{Bytes, line}
use Rattle.sched_model.specs.Answers.{verdict_in}
use Rattle.sched_model.specs.Rank.{unranked_in}
use Rattle.sched_text.specs.Answers.{answer_text, nodes_line, schedule_lines, shown_schedule, values_word, verdict_words}
use Rattle.sched_text.specs.laws.Answers.{answers_told}
use Rattle.sched_text.specs.Values.{IsValue}
use Rattle.sched_text.specs.laws.Values.{values_small, few_values}
use Rattle.read_schedule.specs.Schedules.{AreNumbers, IsHeader, IsVerdict, is_line, text}
use Rattle.read_schedule.specs.Promises.{SchedulesAreTold, AnswersAreSchedules, Shows}
use Rattle.read_schedule.specs.code.Rows.{body, end_row}
use Rattle.read_schedule.proofs.spelling.Texts.{cut, some_line}
use Rattle.read_schedule.proofs.whole.Body.{body_text, body_lines}
use Rattle.read_schedule.proofs.whole.Refusing.{header_lines, spelled_lines}
use Rattle.read_schedule.proofs.whole.Headed.{no_verdict}

-- lines with one text are the same lines
same_lines : (ls ts : List (List Bytes)) → list_all is_line ls ≡ true → list_all is_line ts ≡ true → text ts ≡ text ls → ts ≡ ls
same_lines ls ts hl ht e =
    let parts = cut ls ts [] hl ht (e ∙ sym (append-nil (text ls))) in
    parts.1 ∙ ap (λ us. ls ++ us) (none parts.0 (sym parts.2)) ∙ append-nil ls
  where
    none : (us : List (List Bytes)) → text us ≡ [] → us ≡ []
    none [] e = refl
    none (u ∷ us) e = absurd (some_line u (text us) e)

behind_two : (a b c d : List Bytes) (x y : List (List Bytes)) → a ∷ b ∷ x ≡ c ∷ d ∷ y → x ≡ y
behind_two a b c d x y e = cc

-- behind the headers
same_bodies : (m : Data) (h k : List (List Bytes)) (a b : Assignment) → IsHeader h → IsHeader k → h ++ body m a ≡ k ++ body m b → body m a ≡ body m b
same_bodies m [] [] a b hh hk e = e
same_bodies m [] (v ∷ []) a b hh hk e = absurd hk
same_bodies m [] (v ∷ n ∷ []) a b hh hk e = absurd (no_verdict m a v (n ∷ body m b) hk.0 e)
same_bodies m [] (v ∷ n ∷ x ∷ xs) a b hh hk e = absurd hk
same_bodies m (v ∷ []) k a b hh hk e = absurd hh
same_bodies m (v ∷ n ∷ []) [] a b hh hk e = absurd (no_verdict m b v (n ∷ body m a) hh.0 (sym e))
same_bodies m (v ∷ n ∷ []) (w ∷ []) a b hh hk e = absurd hk
same_bodies m (v ∷ n ∷ []) (w ∷ c ∷ []) a b hh hk e = behind_two v n w c (body m a) (body m b) e
same_bodies m (v ∷ n ∷ []) (w ∷ c ∷ x ∷ xs) a b hh hk e = absurd hk
same_bodies m (v ∷ n ∷ x ∷ xs) k a b hh hk e = absurd hh

abbrev feasible : Assignment → Solved
feasible a = record { nodes = 0; answer = Feasible a }

answer_is : (m : Data) (a : Assignment) → answer_text m (feasible a) ≡ (line (codes "feasible" ∷ []) ++ line (codes "nodes" ∷ decimal 0 ∷ [])) ++ (schedule_lines m a ++ line end_row)
answer_is m a = append_assoc (line (codes "feasible" ∷ []) ++ line (codes "nodes" ∷ decimal 0 ∷ [])) (schedule_lines m a) (line end_row)

one_answer : (a b : Assignment) → feasible a ≡ feasible b → a ≡ b
one_answer a b e = let same : Feasible a ≡ Feasible b = ap (λ (s : Solved). s.answer) e in cc

pub schedules_told : SchedulesAreTold
schedules_told m bytes a b valid sa sb =
    let lines_a = all_append is_line sa.header (body m a) (header_lines sa.header sa.heads) (body_lines m a valid sa.domain) in
    let lines_b = all_append is_line sb.header (body m b) (header_lines sb.header sb.heads) (body_lines m b valid sb.domain) in
    let rows_same = same_lines (sb.header ++ body m b) (sa.header ++ body m a) lines_b lines_a (sym (sa.whole ∙ spelled_lines m sa.header a) ∙ sb.whole ∙ spelled_lines m sb.header b) in
    let bodies = same_bodies m sa.header sb.header a b sa.heads sb.heads rows_same in
    let texts : schedule_lines m a ++ line end_row ≡ schedule_lines m b ++ line end_row = sym (body_text m a) ∙ ap text bodies ∙ body_text m b in
    let answers : answer_text m (feasible a) ≡ answer_text m (feasible b) = answer_is m a ∙ ap (λ t. (line (codes "feasible" ∷ []) ++ line (codes "nodes" ∷ decimal 0 ∷ [])) ++ t) texts ∙ sym (answer_is m b) in
    one_answer a b (answers_told m (feasible a) (feasible b) valid (omega arith) (omega arith) sa.domain sb.domain answers)

-- answers

values_shown : (m : Data) (v : ℤ) → IsValid m → IsValue m v → AreNumbers 8 (values_word m v)
values_shown m v valid value = let few = few_values m v valid value in (unranked_in m v, few.0, few.1, values_small m v valid value, refl)

shown_verdict : (m : Data) (x : Answer) (a : Assignment) → IsValid m → Shows m x a → IsVerdict (verdict_words m (verdict_in x))
shown_verdict m (Optimal v b) a valid shows = inr (values_word m v, values_shown m v valid shows.0, inl refl)
shown_verdict m (Feasible b) a valid shows = inl refl
shown_verdict m Infeasible a valid shows = absurd shows
shown_verdict m (Unfinished None) a valid shows = absurd shows
shown_verdict m (Unfinished (Some va)) a valid shows = inr (values_word m va.0, values_shown m va.0 valid shows.0, inr refl)

shown_lines : (m : Data) (x : Answer) (a : Assignment) → Shows m x a → shown_schedule m x ≡ schedule_lines m a
shown_lines m (Optimal v b) a shows = ap (schedule_lines m) shows.1
shown_lines m (Feasible b) a shows = ap (schedule_lines m) shows
shown_lines m Infeasible a shows = absurd shows
shown_lines m (Unfinished None) a shows = absurd shows
shown_lines m (Unfinished (Some va)) a shows = ap (schedule_lines m) shows.1

pub answers_are : AnswersAreSchedules
answers_are m s a valid few shows domain =
    let v = line (verdict_words m (verdict_in s.answer)) in
    let n = nodes_line s.nodes in
    record {
      header = verdict_words m (verdict_in s.answer) ∷ (codes "nodes" ∷ decimal s.nodes ∷ []) ∷ [];
      heads = (shown_verdict m s.answer a valid shows, (s.nodes, few, refl));
      domain = domain;
      whole = ap (λ t. v ++ n ++ t ++ line end_row) (shown_lines m s.answer a shows)
          ∙ append_assoc (v ++ n) (schedule_lines m a) (line end_row)
          ∙ ap (λ t. (v ++ t) ++ (schedule_lines m a ++ line end_row)) (sym (append-nil n));
    }
