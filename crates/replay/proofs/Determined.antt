-- Bytes have one judgement.
use Rattle.std.proofs.Common.{◌≡◌, ℕ, ◌+◌, ◌≤◌, ℤ, Bool, List, [], ◌++◌, length, refl, sym, ap, subst, ◌∙◌, arith, append_assoc, length-append}
use Rattle.std.proofs.lemmas.List.{append-nil, take_all}
use Rattle.sched_model.specs.Data.{Data}
use Rattle.sched_model.specs.Valid.{IsValid}
use Rattle.textline.specs.Lines.{Bytes}
use Rattle.sched_model.specs.declared.types.Verdict.{Verdict}
use Rattle.region.specs.Looks.{Refuting}
use Rattle.kernel.specs.declared.types.Line.{Line}
use Rattle.kernel.specs.Refuting.{refutes_with}
use Rattle.kernel.specs.Steps.{LogState, Steps, opening, verdict_of}
use Rattle.kernel.specs.Promises.{Means}
use Rattle.logtext.specs.declared.entry.Entry.TheVariants.{Head, Finish}
use Rattle.logtext.specs.Spelling.{head_text, end_text, lines_text, log_text}
use Rattle.logtext.specs.declared.version.Version.{Version}
use Rattle.logtext.specs.Logs.{IsLog, MayHold}
use Rattle.logtext.specs.Judgement.{BeginsWith, CantGoOn, IsAccepted, IsRefused, IsTooLong, log_limit}
use Rattle.logtext.specs.Judgement.IsRefused.{at_head, at_line, behind_end}
use Rattle.replay.specs.Laws.{WholeLogIsAccepted, AcceptedMeans}
use Rattle.replay.proofs.Spelt.{Spellings, Spelt, begun, not_open}
use Rattle.replay.proofs.Logs.{SameLog, one_text, cant_stops, end_stops, open_stops, head_spelt}
use Rattle.logtext.specs.Reading.{HasNoWholeLine}

-- a log in front of its end and of what stands behind that
pub record EndsIn {W : Type 0} (refutes : Refuting W) (numbers : W → List ℤ) (valid : W → Bool) (m : Data) (bytes : Bytes) (v : Version) (ls : List (Line W)) (s : LogState) (rest : Bytes) : Type 0 where
  pub may : MayHold v ls
  pub log : IsLog refutes numbers valid m ls s
  pub text : bytes ≡ head_text v ++ (lines_text numbers ls ++ (end_text ++ rest))

module _ {W : Type 0} (refutes : Refuting W) (numbers : W → List ℤ) (valid : W → Bool) (laws : Spellings numbers valid) (m : Data) (bytes : Bytes) where
  end_spelt : Spelt numbers valid end_text Finish
  end_spelt = record { fit = refl; text_is = refl; short = omega arith }

  begins_head : (bytes x : Bytes) (v : Version) → bytes ≡ head_text v ++ x → BeginsWith numbers valid bytes (Head v)
  begins_head bytes x v is = begun numbers valid bytes (head_text v) x (Head v) is (head_spelt refutes numbers valid v)

  both_end : (v w : Version) (ls ks : List (Line W)) (s t : LogState) (x y : Bytes) → EndsIn refutes numbers valid m bytes v ls s x → EndsIn refutes numbers valid m bytes w ks t y → SameLog ls ks s t (end_text ++ x) (end_text ++ y)
  both_end v w ls ks s t x y one other =
      one_text refutes numbers valid laws m v w ls ks s t (end_text ++ x) (end_text ++ y) one.may other.may one.log other.log (sym one.text ∙ other.text) (end_stops refutes numbers valid laws m v s x end_spelt) (end_stops refutes numbers valid laws m w t y end_spelt)

  end_or_stuck : (v w : Version) (ls ks : List (Line W)) (s t : LogState) (x rest : Bytes) → EndsIn refutes numbers valid m bytes v ls s x → MayHold w ks → IsLog refutes numbers valid m ks t → bytes ≡ head_text w ++ (lines_text numbers ks ++ rest)
      → CantGoOn refutes numbers valid m w t rest → ⊥
  end_or_stuck v w ls ks s t x rest one may log text cant =
      let same = one_text refutes numbers valid laws m v w ls ks s t (end_text ++ x) rest one.may may one.log log (sym one.text ∙ text) (end_stops refutes numbers valid laws m v s x end_spelt) (cant_stops refutes numbers valid m w t rest cant) in
      cant.no_end (begun numbers valid rest end_text x Finish (sym same.rests) end_spelt)

  ends_accepted : (v : Verdict) (n : ℕ) (one : IsAccepted refutes numbers valid m bytes v n) → EndsIn refutes numbers valid m bytes one.version one.lines one.state []
  ends_accepted v n one = record { may = one.suits; log = one.log; text = one.text ∙ ap (λ r. head_text one.version ++ (lines_text numbers one.lines ++ r)) (sym (append-nil end_text)) }

  ends_behind : (v : Version) (ls : List (Line W)) (s : LogState) (rest : Bytes) → MayHold v ls → IsLog refutes numbers valid m ls s → bytes ≡ log_text numbers v ls ++ rest → EndsIn refutes numbers valid m bytes v ls s rest
  ends_behind v ls s rest may log text = record {
    may = may;
    log = log;
    text = text ∙ append_assoc (head_text v) (lines_text numbers ls ++ end_text) rest ∙ ap (λ r. head_text v ++ r) (append_assoc (lines_text numbers ls) end_text rest);
  }

  no_head : (v : Version) (ls : List (Line W)) (s : LogState) (rest : Bytes) → EndsIn refutes numbers valid m bytes v ls s rest → ((u : Version) → BeginsWith numbers valid bytes (Head u) → ⊥) → ⊥
  no_head v ls s rest ends none = none v (begins_head bytes _ v ends.text)

  pub not_both : (v : Verdict) (n k : ℕ) → IsAccepted refutes numbers valid m bytes v n → IsRefused refutes numbers valid m bytes k → ⊥
  not_both v n k one (at_head none is) = no_head one.version one.lines one.state [] (ends_accepted v n one) none
  not_both v n k one (at_line w ks t rest may log text cant is) = end_or_stuck one.version w one.lines ks one.state t [] rest (ends_accepted v n one) may log text cant
  not_both v n k one (behind_end w ks t rest may log text some is) =
      let same = both_end one.version w one.lines ks one.state t [] rest (ends_accepted v n one) (ends_behind w ks t rest may log text) in
      absurd (omega (arith, some, ap length same.rests, length-append end_text [], length-append end_text rest))

  pub one_verdict : (v w : Verdict) (i j : ℕ) → IsAccepted refutes numbers valid m bytes v i → IsAccepted refutes numbers valid m bytes w j → (v ≡ w) × (i ≡ j)
  one_verdict v w i j one also =
      let same = both_end one.version also.version one.lines also.lines one.state also.state [] [] (ends_accepted v i one) (ends_accepted w j also) in
      (one.verdict ∙ ap verdict_of same.states ∙ sym also.verdict, one.nodes ∙ ap (λ s. s.nodes) same.states ∙ sym also.nodes)

  pub one_line : (j k : ℕ) → IsRefused refutes numbers valid m bytes j → IsRefused refutes numbers valid m bytes k → j ≡ k
  one_line j k (at_head none is) (at_head also be) = is ∙ sym be
  one_line j k (at_head none is) (at_line w ks t rest may log text cant be) = absurd (none w (begins_head bytes _ w text))
  one_line j k (at_head none is) (behind_end w ks t rest may log text some be) = absurd (no_head w ks t rest (ends_behind w ks t rest may log text) none)
  one_line j k (at_line v ls s rest may log text cant is) (at_head also be) = absurd (also v (begins_head bytes _ v text))
  one_line j k (at_line v ls s rest may log text cant is) (at_line w ks t more can logs texts cants be) =
      let same = one_text refutes numbers valid laws m v w ls ks s t rest more may can log logs (sym text ∙ texts) (cant_stops refutes numbers valid m v s rest cant) (cant_stops refutes numbers valid m w t more cants) in
      is ∙ ap (λ xs. length xs + 2) same.lines ∙ sym be
  one_line j k (at_line v ls s rest may log text cant is) (behind_end w ks t more can logs texts some be) = absurd (end_or_stuck w v ks ls t s more rest (ends_behind w ks t more can logs texts) may log text cant)
  one_line j k (behind_end v ls s rest may log text some is) (at_head also be) = absurd (no_head v ls s rest (ends_behind v ls s rest may log text) also)
  one_line j k (behind_end v ls s rest may log text some is) (at_line w ks t more can logs texts cants be) = absurd (end_or_stuck v w ls ks s t rest more (ends_behind v ls s rest may log text) can logs texts cants)
  one_line j k (behind_end v ls s rest may log text some is) (behind_end w ks t more can logs texts others be) =
      let same = both_end v w ls ks s t rest more (ends_behind v ls s rest may log text) (ends_behind w ks t more can logs texts) in
      is ∙ ap (λ xs. length xs + 3) same.lines ∙ sym be

  -- within the limit no log that is accepted is too long
  pub never_too_long : (v : Verdict) (n : ℕ) → length bytes ≤ log_limit → IsAccepted refutes numbers valid m bytes v n → IsTooLong refutes numbers valid m bytes → ⊥
  never_too_long v n few one long =
      let ends = ends_accepted v n one in
      let whole = sym (take_all log_limit bytes few) ∙ long.text in
      let same = one_text refutes numbers valid laws m one.version long.version one.lines long.lines one.state long.state (end_text ++ []) long.rest one.suits long.suits one.log long.log (sym ends.text ∙ whole)
      (end_stops refutes numbers valid laws m one.version one.state [] end_spelt) (open_stops refutes numbers valid laws m long.version long.state long.rest long.open_line) in
      not_open numbers valid laws end_text [] Finish end_spelt (subst HasNoWholeLine (sym same.rests) long.open_line)

module _ {W : Type 0} (refutes : Refuting W) (numbers : W → List ℤ) (valid : W → Bool) where
  pub whole_law : WholeLogIsAccepted refutes numbers valid
  whole_law m version lines s may log = record { version = version; lines = lines; state = s; suits = may; log = log; text = refl; verdict = refl; nodes = refl }

  pub means_law : ((m : Data) (lines : List (Line W)) (s : LogState) → IsValid m → Steps (refutes_with refutes) m (opening m) lines s → Means m (verdict_of s)) → AcceptedMeans refutes numbers valid
  means_law loses m bytes v n valid one = subst (Means m) (sym one.verdict) (loses m one.lines one.state valid one.log.steps)
