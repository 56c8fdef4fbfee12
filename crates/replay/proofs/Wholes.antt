-- What was read of a log decides the judgement of all its bytes.
use Rattle.std.proofs.Common.{◌≡◌, ℕ, ◌+◌, ◌-◌, ◌<◌, ◌≤◌, [], ◌∷◌, ◌++◌, length, take, drop, refl, sym, ap, subst, ◌∙◌, arith, append_assoc, length-append, length-take}
use Rattle.std.proofs.lemmas.Bool.{and_parts}
use Rattle.std.proofs.lemmas.List.{append-nil, take-append-drop, take-append-le, take-take, take_all, drop-append-le}
use Rattle.std.proofs.lemmas.List.Folds.{list_all-append}
use Rattle.std.proofs.Math.Seq.{take-append-add}
use Rattle.sched_model.specs.Data.{Data}
use Rattle.textline.specs.Lines.{Bytes}
use Rattle.kernel.specs.Steps.{LogState, verdict_of}
use Rattle.logtext.specs.declared.entry.Entry.{Entry}
use Rattle.logtext.specs.declared.entry.Entry.TheVariants.{Head, Finish}
use Rattle.logtext.specs.Reading.{HasNoWholeLine, IsLineAt}
use Rattle.logtext.specs.Judgement.{BeginsWith, CantGoOn, IsAccepted, IsTooLong, log_limit, log_bytes}
use Rattle.replay.specs.code.Turns.{IsWrong}
use Rattle.replay.proofs.Feeds.{has_no_feed}
use Rattle.replay.proofs.Spelt.{Spellings, Spelt}
use Rattle.replay.proofs.Reached.{Reached, reached_longer, entry_longer}
use Rattle.replay.proofs.Judged.{Refused, Barred, NoHead, accepted, not_too_long, refused_behind, refused_head, refused_missing, refused_wrong, too_long}
use Rattle.logtext.specs.declared.version.Version.{Version}
use Rattle.region.specs.Looks.{Refuting}
use Rattle.std.specs.Prelude.{ℤ, Bool, List}

module _ {W : Type 0} (refutes : Refuting W) (numbers : W → List ℤ) (valid : W → Bool) where
  abbrev IsEntryAt : Bytes → ℕ → ℕ → Entry W → Type 0
  IsEntryAt bytes from to e = IsLineAt numbers valid bytes from to e

  front_open : (rest more : Bytes) → HasNoWholeLine (rest ++ more) → HasNoWholeLine rest
  front_open rest more open_one = record {
    open_line = (and_parts (has_no_feed rest) (has_no_feed more) (sym (list_all-append _ rest more) ∙ open_one.open_line)).0;
    short = omega (arith, open_one.short, length-append rest more);
  }

  wrong_longer : (m : Data) (v : Version) (s : LogState) (rest more : Bytes) → IsWrong refutes numbers valid m v s rest → IsWrong refutes numbers valid m v s (rest ++ more)
  wrong_longer m v s rest more wrong = record {
    whole = λ open_one. wrong.whole (front_open rest more open_one);
    stuck = λ behind. subst (CantGoOn refutes numbers valid m v s) (sym (append_assoc rest more behind)) (wrong.stuck (more ++ behind));
  }

  -- the bytes up to the limit
  cut_is : (fed behind : Bytes) → length fed ≤ log_limit → fed ++ take (log_limit - length fed) behind ≡ take log_limit (log_bytes (fed ++ behind))
  cut_is fed behind few =
      let size : length fed + (log_limit - length fed) ≡ log_limit = omega (arith, few) in
      sym (take-append-add fed behind (log_limit - length fed)) ∙ ap (λ n. take n (fed ++ behind)) size ∙ sym (take-take log_limit (log_limit + 1) (fed ++ behind) (omega arith))

  nothing_behind : (behind : Bytes) (n : ℕ) → length behind ≡ 0 → take n behind ≡ []
  nothing_behind [] n none = take_all n [] (omega arith)
  nothing_behind (b ∷ bs) n none = absurd (omega (arith, none))

  pub cut_at_end : (fed behind : Bytes) → length fed ≤ log_limit → length behind ≡ 0 → fed ≡ take log_limit (log_bytes (fed ++ behind))
  cut_at_end fed behind few none = sym (append-nil fed) ∙ ap (λ t. fed ++ t) (sym (nothing_behind behind (log_limit - length fed) none)) ∙ cut_is fed behind few

  cut_at_limit : (fed behind : Bytes) → length fed ≡ log_limit → fed ≡ take log_limit (log_bytes (fed ++ behind))
  cut_at_limit fed behind is =
      let none : 0 ≡ log_limit - length fed = omega (arith, is) in
      sym (append-nil fed) ∙ ap (λ n. fed ++ take n behind) none ∙ cut_is fed behind (omega (arith, is))

  whole_size : (fed behind : Bytes) → length fed ≤ log_limit + 1 → length fed ≤ length (log_bytes (fed ++ behind))
  whole_size fed behind few = omega (arith, few, length-take (log_limit + 1) (fed ++ behind), length-append fed behind)

  pub wrong_whole : Spellings numbers valid → (m : Data) (fed behind : Bytes) (place line : ℕ) (s : LogState) → length fed ≤ log_limit → (so_far : Reached refutes numbers valid m fed place line s) → IsWrong refutes numbers valid m so_far.version s (drop place fed) → Barred refutes numbers valid m (log_bytes (fed ++ behind)) line
  unfolding reached_longer
  wrong_whole laws m fed behind place line s few so_far wrong =
      let more : Bytes = take (log_limit - length fed) behind in
      (refused_wrong refutes numbers valid) laws m (log_bytes (fed ++ behind)) (fed ++ more) (cut_is fed behind few) place line s (reached_longer refutes numbers valid m fed more place line s so_far)
      (subst (IsWrong refutes numbers valid m so_far.version s) (sym (drop-append-le place fed more so_far.within)) (wrong_longer m so_far.version s (drop place fed) more wrong))

  pub missing_whole : Spellings numbers valid → (m : Data) (fed behind : Bytes) (place line : ℕ) (s : LogState) → length fed < log_limit → length behind ≡ 0 → Reached refutes numbers valid m fed place line s → HasNoWholeLine (drop place fed) → Refused refutes numbers valid m (log_bytes (fed ++ behind)) line
  missing_whole laws m fed behind place line s few none so_far open_one =
      (refused_missing refutes numbers valid) laws m (log_bytes (fed ++ behind)) fed (cut_at_end fed behind (omega (arith, few)) none) place line s so_far open_one (omega (arith, few, none, length-take (log_limit + 1) (fed ++ behind), length-append fed behind))

  pub long_whole : (m : Data) (fed behind : Bytes) (place line : ℕ) (s : LogState) → length fed ≡ log_limit → Reached refutes numbers valid m fed place line s → HasNoWholeLine (drop place fed) → IsTooLong refutes numbers valid m (log_bytes (fed ++ behind))
  long_whole m fed behind place line s is so_far open_one =
      (too_long refutes numbers valid) m (log_bytes (fed ++ behind)) fed (cut_at_limit fed behind is) place line s so_far open_one (omega (arith, is, whole_size fed behind (omega (arith, is))))

  pub behind_whole : Spellings numbers valid → (m : Data) (fed more behind : Bytes) (place to line : ℕ) (s : LogState) → length fed ≤ log_limit → length (fed ++ more) ≤ log_limit + 1 → Reached refutes numbers valid m fed place line s → IsEntryAt fed place to Finish → to < length (fed ++ more)
      → Barred refutes numbers valid m (log_bytes ((fed ++ more) ++ behind)) (line + 1)
  behind_whole laws m fed more behind place to line s few size so_far at some =
      let cut : Bytes = fed ++ take (log_limit - length fed) (more ++ behind) in
      (refused_behind refutes numbers valid) laws m (log_bytes ((fed ++ more) ++ behind)) cut (cut_is fed (more ++ behind) few ∙ ap (λ t. take log_limit (log_bytes t)) (sym (append_assoc fed more behind))) place to line s
      (reached_longer refutes numbers valid m fed (take (log_limit - length fed) (more ++ behind)) place line s so_far) (entry_longer refutes numbers valid fed (take (log_limit - length fed) (more ++ behind)) place to Finish at)
      (omega (arith, some, whole_size (fed ++ more) behind size))

  unfoldable pub accepted_whole : (m : Data) (fed behind : Bytes) (place line : ℕ) (s : LogState) → length fed ≤ log_limit → length behind ≡ 0 → Reached refutes numbers valid m fed place line s → IsEntryAt fed place (length fed) Finish → IsAccepted refutes numbers valid m (log_bytes (fed ++ behind)) (verdict_of s) s.nodes
  accepted_whole m fed behind place line s few none so_far at =
      (accepted refutes numbers valid) m (log_bytes (fed ++ behind)) fed (cut_at_end fed behind few none) place (length fed) line s so_far at (omega (arith, none, length-take (log_limit + 1) (fed ++ behind), length-append fed behind))

  pub short_whole : Spellings numbers valid → (m : Data) (fed behind : Bytes) (place line : ℕ) (s : LogState) → length fed ≤ log_limit → length behind ≡ 0 → Reached refutes numbers valid m fed place line s → IsEntryAt fed place (length fed) Finish → IsTooLong refutes numbers valid m (log_bytes (fed ++ behind)) → ⊥
  short_whole laws m fed behind place line s few none so_far at =
      (not_too_long refutes numbers valid) laws m (log_bytes (fed ++ behind)) fed (cut_at_end fed behind few none) place (length fed) line s so_far at

  begins_longer : (front behind : Bytes) (e : Entry W) → BeginsWith numbers valid front e → BeginsWith numbers valid (front ++ behind) e
  begins_longer front behind e begins = (begins.0, omega (arith, begins.1, length-append front behind), subst (λ t. Spelt numbers valid t e) (sym (take-append-le begins.0 front behind begins.1)) begins.2)

  -- no first line stands in front
  pub head_whole : (m : Data) (bytes : Bytes) → NoHead refutes numbers valid bytes → Barred refutes numbers valid m (log_bytes bytes) 1
  head_whole m bytes none =
      let cut : Bytes = take log_limit (log_bytes bytes) in
      let same : cut ++ drop log_limit bytes ≡ bytes = ap (λ t. t ++ drop log_limit bytes) (take-take log_limit (log_limit + 1) bytes (omega arith)) ∙ take-append-drop log_limit bytes in
      (refused_head refutes numbers valid) m (log_bytes bytes) cut refl (λ v begins. none v (subst (λ t. BeginsWith numbers valid t (Head v)) same (begins_longer cut (drop log_limit bytes) (Head v) begins)))
