-- What was read decides the judgement.
use Rattle.std.proofs.Common.{◌≡◌, ℕ, ◌+◌, ◌<◌, ◌≤◌, true, List, [], ◌++◌, length, take, drop, Ok, refl, sym, ap, subst, ◌∙◌, arith, append_assoc, length-take, length-drop}
use Rattle.std.proofs.lemmas.List.{take-append-drop, take-take, take_all, drop_all, drop-append-le, append-nil}
use Rattle.sched_model.specs.Data.{Data}
use Rattle.textline.specs.Lines.{Bytes}
use Rattle.kernel.specs.Steps.{LogState, verdict_of}
use Rattle.logtext.specs.declared.entry.Entry.{Entry}
use Rattle.logtext.specs.declared.entry.Entry.TheVariants.{Head, Step, Finish}
use Rattle.logtext.specs.Spelling.{head_text, end_text, lines_text}
use Rattle.logtext.specs.Entries.{line_limit}
use Rattle.logtext.specs.Reading.{HasNoWholeLine, BeginsWithNone, IsLineAt}
use Rattle.logtext.specs.Judgement.{BeginsWith, CantGoOn, IsAccepted, IsRefused, IsTooLong, log_limit}
use Rattle.logtext.specs.Judgement.IsRefused.{at_head, at_line, behind_end}
use Rattle.replay.specs.Replaying.{IsCutLog}
use Rattle.replay.specs.code.Turns.{IsWrong}
use Rattle.replay.proofs.Spelt.{Spellings, Spelt, one_line, begun, begins_by, not_open, open_begins_none, none_with_more}
use Rattle.replay.proofs.Logs.{Stops, one_text, cant_stops, open_stops, end_stops, plain_step, head_spelt}
use Rattle.replay.proofs.Reached.{Reached, plain_entry, line_apart, entry_spelt}
use Rattle.logtext.specs.declared.version.Version.{Version}
use Rattle.logtext.specs.Logs.{IsLog, MayHold, may_hold}
use Rattle.kernel.specs.declared.types.Line.{Line}
use Rattle.region.specs.Looks.{Refuting}
use Rattle.std.specs.Prelude.{ℤ, Bool}

-- the bytes up to the limit hold no wrong line and no last line
pub record IsOpenLog {W : Type 0} (refutes : Refuting W) (numbers : W → List ℤ) (valid : W → Bool) (m : Data) (bytes : Bytes) : Type 0 where
  pub version : Version
  pub lines : List (Line W)
  pub state : LogState
  pub rest : Bytes
  pub suits : MayHold version lines
  pub log : IsLog refutes numbers valid m lines state
  pub text : take log_limit bytes ≡ head_text version ++ (lines_text numbers lines ++ rest)
  pub open_line : HasNoWholeLine rest

module _ {W : Type 0} (refutes : Refuting W) (numbers : W → List ℤ) (valid : W → Bool) where
  abbrev IsEntryAt : Bytes → ℕ → ℕ → Entry W → Type 0
  IsEntryAt bytes from to e = IsLineAt numbers valid bytes from to e

  -- one line

  -- the entry that stands at a place is what the bytes from there begin with, whatever follows
  pub same_entry : Spellings numbers valid → (bytes more : Bytes) (from to : ℕ) (e f : Entry W) → IsEntryAt bytes from to e → BeginsWith numbers valid (drop from bytes ++ more) f → e ≡ f
  same_entry laws bytes more from to e f at begins =
      (one_line numbers valid laws (plain_entry refutes numbers valid e) (take begins.0 (drop from bytes ++ more)) (drop to bytes ++ more) (drop begins.0 (drop from bytes ++ more)) e f (entry_spelt refutes numbers valid bytes from to e at) begins.2
      (sym (append_assoc (plain_entry refutes numbers valid e) (drop to bytes) more) ∙ ap (λ r. r ++ more) (sym (line_apart refutes numbers valid bytes from to e at)) ∙ begins_by numbers valid (drop from bytes ++ more) f begins)).entry

  pub entry_whole : Spellings numbers valid → (bytes : Bytes) (from to : ℕ) (e : Entry W) → IsEntryAt bytes from to e → HasNoWholeLine (drop from bytes) → ⊥
  entry_whole laws bytes from to e at open_one = not_open numbers valid laws (plain_entry refutes numbers valid e) (drop to bytes) e (entry_spelt refutes numbers valid bytes from to e at) (subst HasNoWholeLine (line_apart refutes numbers valid bytes from to e at) open_one)

  pub none_wrong : Spellings numbers valid → (m : Data) (v : Version) (s : LogState) (rest : Bytes) → (HasNoWholeLine rest → ⊥) → BeginsWithNone numbers valid rest → IsWrong refutes numbers valid m v s rest
  none_wrong laws m v s rest whole none = record {
    whole = whole;
    stuck = λ more. record { no_line = λ l t begins may goes. none_with_more numbers valid laws rest more whole none (Step l) begins; no_end = none_with_more numbers valid laws rest more whole none Finish };
  }

  head_step : (u : Version) (l : Line W) → Head u ≡ Step l → ⊥
  head_step u l h = cc

  head_finish : (u : Version) → ◌≡◌ {A = Entry W} (Head u) Finish → ⊥
  head_finish u h = cc

  step_finish : (l : Line W) → Step l ≡ Finish → ⊥
  step_finish l h = cc

  same_step : (l k : Line W) → Step l ≡ Step k → k ≡ l
  same_step l k h = cc

  pub head_wrong : Spellings numbers valid → (m : Data) (v : Version) (s : LogState) (bytes : Bytes) (from to : ℕ) (u : Version) → IsEntryAt bytes from to (Head u) → IsWrong refutes numbers valid m v s (drop from bytes)
  head_wrong laws m v s bytes from to u at = record {
    whole = entry_whole laws bytes from to (Head u) at;
    stuck = λ more. record {
      no_line = λ l t begins may goes. head_step u l (same_entry laws bytes more from to (Head u) (Step l) at begins);
      no_end = λ begins. head_finish u (same_entry laws bytes more from to (Head u) Finish at begins);
    };
  }

  pub step_wrong : Spellings numbers valid → (m : Data) (v : Version) (s : LogState) (bytes : Bytes) (from to : ℕ) (l : Line W) → IsEntryAt bytes from to (Step l) → ((t : LogState) → may_hold v l ≡ true → plain_step refutes numbers valid m l s ≡ Ok t → ⊥)
      → IsWrong refutes numbers valid m v s (drop from bytes)
  step_wrong laws m v s bytes from to l at stuck = record {
    whole = entry_whole laws bytes from to (Step l) at;
    stuck = λ more. record {
      no_line = λ k t begins may goes. let same = same_step l k (same_entry laws bytes more from to (Step l) (Step k) at begins) in stuck t (subst (λ q. may_hold v q ≡ true) same may) (ap (λ q. plain_step refutes numbers valid m q s) (sym same) ∙ goes);
      no_end = λ begins. step_finish l (same_entry laws bytes more from to (Step l) Finish at begins);
    };
  }

  -- the bytes up to the limit, and all of them

  pub end_spelt : Spelt numbers valid end_text Finish
  end_spelt = record { fit = refl; text_is = refl; short = omega arith }

  pub begins_head : (bytes x : Bytes) (v : Version) → bytes ≡ head_text v ++ x → BeginsWith numbers valid bytes (Head v)
  begins_head bytes x v is = begun numbers valid bytes (head_text v) x (Head v) is (head_spelt refutes numbers valid v)

  module _ (limit : ℕ) (bytes cut : Bytes) (is_cut : cut ≡ take limit bytes) where
    whole_from : (place : ℕ) → place ≤ length cut → drop place bytes ≡ drop place cut ++ drop limit bytes
    whole_from place within =
        ap (drop place) (sym (take-append-drop limit bytes) ∙ ap (λ t. t ++ drop limit bytes) (sym is_cut)) ∙ drop-append-le place cut (drop limit bytes) within

    front_begins : (e : Entry W) → line_limit ≤ limit → BeginsWith numbers valid bytes e → BeginsWith numbers valid cut e
    front_begins e large begins =
        let few : begins.0 ≤ limit = omega (arith, begins.1, begins.2.short, length-take begins.0 bytes, large) in
        let same : take begins.0 cut ≡ take begins.0 bytes = ap (take begins.0) is_cut ∙ take-take begins.0 limit bytes few in
        (begins.0, omega (arith, few, begins.1, ap length is_cut, length-take limit bytes), subst (λ t. Spelt numbers valid t e) (sym same) begins.2)

  module _ (m : Data) (limit : ℕ) (bytes cut : Bytes) (is_cut : cut ≡ take limit bytes) where
    pub text_whole : (place line : ℕ) (s : LogState) (so_far : Reached refutes numbers valid m cut place line s) → bytes ≡ head_text so_far.version ++ (lines_text numbers so_far.lines ++ drop place bytes)
    text_whole place line s so_far =
        sym (take-append-drop limit bytes) ∙ ap (λ t. t ++ drop limit bytes) (sym is_cut ∙ so_far.text)
        ∙ append_assoc (head_text so_far.version) (lines_text numbers so_far.lines ++ drop place cut) (drop limit bytes)
        ∙ ap (λ r. head_text so_far.version ++ r) (append_assoc (lines_text numbers so_far.lines) (drop place cut) (drop limit bytes) ∙ ap (λ r. lines_text numbers so_far.lines ++ r) (sym (whole_from limit bytes cut is_cut place so_far.within)))

    pub end_apart : (place to : ℕ) → place ≤ length cut → IsEntryAt cut place to Finish → drop place bytes ≡ end_text ++ drop to bytes
    end_apart place to within at =
        whole_from limit bytes cut is_cut place within ∙ ap (λ t. t ++ drop limit bytes) (line_apart refutes numbers valid cut place to Finish at)
        ∙ append_assoc end_text (drop to cut) (drop limit bytes) ∙ ap (λ r. end_text ++ r) (sym (whole_from limit bytes cut is_cut to at.within))

    unfoldable pub accepted_at : (place to line : ℕ) (s : LogState) → Reached refutes numbers valid m cut place line s → IsEntryAt cut place to Finish → length bytes ≤ to → IsAccepted refutes numbers valid m bytes (verdict_of s) s.nodes
    accepted_at place to line s so_far at all = record {
      version = so_far.version;
      lines = so_far.lines;
      state = s;
      suits = so_far.may;
      log = so_far.log;
      text = text_whole place line s so_far ∙ ap (λ r. head_text so_far.version ++ (lines_text numbers so_far.lines ++ r)) (end_apart place to so_far.within at ∙ ap (λ r. end_text ++ r) (drop_all to bytes all) ∙ append-nil end_text);
      verdict = refl;
      nodes = refl;
    }

  module _ (laws : Spellings numbers valid) (m : Data) (limit : ℕ) (bytes cut : Bytes) (is_cut : cut ≡ take limit bytes) where
    -- with another way to read them up to the limit
    other_way : (place line : ℕ) (s t : LogState) (w : Version) (ks : List (Line W)) (rest : Bytes) (so_far : Reached refutes numbers valid m cut place line s) → Stops refutes numbers valid m so_far.version s (drop place cut) → (HasNoWholeLine (drop place cut) → ⊥)
        → MayHold w ks → IsLog refutes numbers valid m ks t → take limit bytes ≡ head_text w ++ (lines_text numbers ks ++ rest) → HasNoWholeLine rest → ⊥
    other_way place line s t w ks rest so_far stop whole can log text open_one =
        let same = one_text refutes numbers valid laws m so_far.version w so_far.lines ks s t (drop place cut) rest so_far.may can so_far.log log (sym so_far.text ∙ is_cut ∙ text) stop (open_stops refutes numbers valid laws m w t rest open_one) in
        whole (subst HasNoWholeLine (sym same.rests) open_one)

    wrong_at : (place line : ℕ) (s : LogState) (so_far : Reached refutes numbers valid m cut place line s) → IsWrong refutes numbers valid m so_far.version s (drop place cut) → IsRefused refutes numbers valid m bytes line
    wrong_at place line s so_far wrong =
        at_line so_far.version so_far.lines s (drop place bytes) so_far.may so_far.log (text_whole m limit bytes cut is_cut place line s so_far) (subst (CantGoOn refutes numbers valid m so_far.version s) (sym (whole_from limit bytes cut is_cut place so_far.within)) (wrong.stuck (drop limit bytes))) so_far.number

    wrong_stops : (place line : ℕ) (v : Version) (s : LogState) → IsWrong refutes numbers valid m v s (drop place cut) → Stops refutes numbers valid m v s (drop place cut)
    wrong_stops place line v s wrong = cant_stops refutes numbers valid m v s (drop place cut) (subst (CantGoOn refutes numbers valid m v s) (append-nil (drop place cut)) (wrong.stuck []))

    missing_at : (place line : ℕ) (s : LogState) → Reached refutes numbers valid m cut place line s → HasNoWholeLine (drop place cut) → length bytes ≤ limit → IsRefused refutes numbers valid m bytes line
    missing_at place line s so_far open_one short =
        let rest = subst (λ b. HasNoWholeLine (drop place b)) (is_cut ∙ take_all limit bytes short) open_one in
        at_line so_far.version so_far.lines s (drop place bytes) so_far.may so_far.log (text_whole m limit bytes cut is_cut place line s so_far)
        (record { no_line = λ l t begins may goes. open_begins_none numbers valid laws (drop place bytes) (Step l) rest begins; no_end = open_begins_none numbers valid laws (drop place bytes) Finish rest })
        so_far.number

    behind_at : (place to line : ℕ) (s : LogState) → Reached refutes numbers valid m cut place line s → IsEntryAt cut place to Finish → to < length bytes → IsRefused refutes numbers valid m bytes (line + 1)
    behind_at place to line s so_far at some =
        behind_end so_far.version so_far.lines s (drop to bytes) so_far.may so_far.log
        (text_whole m limit bytes cut is_cut place line s so_far ∙ ap (λ r. head_text so_far.version ++ (lines_text numbers so_far.lines ++ r)) (end_apart m limit bytes cut is_cut place to so_far.within at) ∙ regroup so_far.version (lines_text numbers so_far.lines) (drop to bytes))
        (omega (arith, some, length-drop to bytes)) (omega (arith, so_far.number))
      where
        regroup : (v : Version) (ls rest : Bytes) → head_text v ++ (ls ++ (end_text ++ rest)) ≡ (head_text v ++ (ls ++ end_text)) ++ rest
        regroup v ls rest = sym (append_assoc (head_text v) (ls ++ end_text) rest ∙ ap (λ r. head_text v ++ r) (append_assoc ls end_text rest))

    end_stops_at : (place to : ℕ) (v : Version) (s : LogState) → IsEntryAt cut place to Finish → Stops refutes numbers valid m v s (drop place cut)
    end_stops_at place to v s at = subst (Stops refutes numbers valid m v s) (sym (line_apart refutes numbers valid cut place to Finish at)) (end_stops refutes numbers valid laws m v s (drop to cut) end_spelt)

  abbrev pub Refused : Data → Bytes → ℕ → Type 0
  Refused m bytes k = IsRefused refutes numbers valid m bytes k × (IsTooLong refutes numbers valid m bytes → ⊥)

  -- and whatever follows
  abbrev pub Barred : Data → Bytes → ℕ → Type 0
  Barred m bytes k = IsRefused refutes numbers valid m bytes k × (IsOpenLog refutes numbers valid m bytes → ⊥)

  long_open : (m : Data) (bytes : Bytes) → IsTooLong refutes numbers valid m bytes → IsOpenLog refutes numbers valid m bytes
  long_open m bytes long = record { version = long.version; lines = long.lines; state = long.state; rest = long.rest; suits = long.suits; log = long.log; text = long.text; open_line = long.open_line }

  cut_open : (m : Data) (bytes : Bytes) → IsCutLog refutes numbers valid m bytes → IsOpenLog refutes numbers valid m bytes
  cut_open m bytes cut = record {
    version = cut.version;
    lines = cut.lines;
    state = cut.state;
    rest = cut.rest;
    suits = cut.suits;
    log = cut.log;
    text = take_all log_limit bytes (let short = cut.short in omega (arith, short)) ∙ cut.text;
    open_line = cut.open_line;
  }

  pub barred_refused : (m : Data) (bytes : Bytes) (k : ℕ) → Barred m bytes k → Refused m bytes k
  barred_refused m bytes k barred = (barred.0, λ long. barred.1 (long_open m bytes long))

  pub barred_uncut : (m : Data) (bytes : Bytes) (k : ℕ) → Barred m bytes k → IsCutLog refutes numbers valid m bytes → ⊥
  barred_uncut m bytes k barred cut = barred.1 (cut_open m bytes cut)

  pub refused_head : (m : Data) (bytes cut : Bytes) → cut ≡ take log_limit bytes → ((v : Version) → BeginsWith numbers valid cut (Head v) → ⊥) → Barred m bytes 1
  refused_head m bytes cut is_cut none =
      (at_head (λ v begins. none v (front_begins log_limit bytes cut is_cut (Head v) (omega arith) begins)) refl, λ long. none long.version (begins_head cut _ long.version (is_cut ∙ long.text)))

  pub refused_wrong : Spellings numbers valid → (m : Data) (bytes cut : Bytes) → cut ≡ take log_limit bytes → (place line : ℕ) (s : LogState) (so_far : Reached refutes numbers valid m cut place line s) → IsWrong refutes numbers valid m so_far.version s (drop place cut) → Barred m bytes line
  refused_wrong laws m bytes cut is_cut place line s so_far wrong = (
    wrong_at laws m log_limit bytes cut is_cut place line s so_far wrong,
    λ long. other_way laws m log_limit bytes cut is_cut place line s long.state long.version long.lines long.rest so_far (wrong_stops laws m log_limit bytes cut is_cut place line so_far.version s wrong) wrong.whole long.suits long.log long.text long.open_line,
  )

  pub refused_missing : Spellings numbers valid → (m : Data) (bytes cut : Bytes) → cut ≡ take log_limit bytes → (place line : ℕ) (s : LogState) → Reached refutes numbers valid m cut place line s → HasNoWholeLine (drop place cut) → length bytes < log_limit
      → Refused m bytes line
  refused_missing laws m bytes cut is_cut place line s so_far open_one short =
      (missing_at laws m log_limit bytes cut is_cut place line s so_far open_one (omega (arith, short)), λ long. absurd (omega (arith, short, long.many)))

  pub refused_behind : Spellings numbers valid → (m : Data) (bytes cut : Bytes) → cut ≡ take log_limit bytes → (place to line : ℕ) (s : LogState) → Reached refutes numbers valid m cut place line s → IsEntryAt cut place to Finish → to < length bytes
      → Barred m bytes (line + 1)
  refused_behind laws m bytes cut is_cut place to line s so_far at some = (
    behind_at laws m log_limit bytes cut is_cut place to line s so_far at some,
    λ long. other_way laws m log_limit bytes cut is_cut place line s long.state long.version long.lines long.rest so_far (end_stops_at laws m log_limit bytes cut is_cut place to so_far.version s at) (entry_whole laws cut place to Finish at) long.suits long.log long.text long.open_line,
  )

  unfoldable pub accepted : (m : Data) (bytes cut : Bytes) → cut ≡ take log_limit bytes → (place to line : ℕ) (s : LogState) → Reached refutes numbers valid m cut place line s → IsEntryAt cut place to Finish → length bytes ≤ to
      → IsAccepted refutes numbers valid m bytes (verdict_of s) s.nodes
  accepted m bytes cut is_cut place to line s so_far at all = accepted_at m log_limit bytes cut is_cut place to line s so_far at all

  pub not_too_long : Spellings numbers valid → (m : Data) (bytes cut : Bytes) → cut ≡ take log_limit bytes → (place to line : ℕ) (s : LogState) → Reached refutes numbers valid m cut place line s → IsEntryAt cut place to Finish → IsTooLong refutes numbers valid m bytes → ⊥
  not_too_long laws m bytes cut is_cut place to line s so_far at long =
      other_way laws m log_limit bytes cut is_cut place line s long.state long.version long.lines long.rest so_far (end_stops_at laws m log_limit bytes cut is_cut place to so_far.version s at) (entry_whole laws cut place to Finish at) long.suits long.log long.text long.open_line

  pub too_long : (m : Data) (bytes cut : Bytes) → cut ≡ take log_limit bytes → (place line : ℕ) (s : LogState) → Reached refutes numbers valid m cut place line s → HasNoWholeLine (drop place cut) → log_limit ≤ length bytes → IsTooLong refutes numbers valid m bytes
  too_long m bytes cut is_cut place line s so_far open_one many = record {
    many = many;
    version = so_far.version;
    lines = so_far.lines;
    state = s;
    rest = drop place cut;
    suits = so_far.may;
    log = so_far.log;
    text = sym is_cut ∙ so_far.text;
    open_line = open_one;
  }

  -- what is told of the first line, and of one behind it

  abbrev pub NoHead : Bytes → Type 0
  NoHead bytes = (v : Version) → BeginsWith numbers valid bytes (Head v) → ⊥

  pub bad_head : (bytes : Bytes) → BeginsWithNone numbers valid bytes → NoHead bytes
  bad_head bytes none v begins = none (Head v) begins.0 begins.1 begins.2
