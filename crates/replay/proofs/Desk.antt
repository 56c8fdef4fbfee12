-- What checking does to the desk, and what it says of the whole log.
use Rattle.std.proofs.Common.{Result, inl, inr, refl, ◌≡◌, ℕ, ◌+◌, ◌-◌, ◌<◌, ◌≤◌, min, Bool, true, false, Option, Some, None, Ok, Err, [], ◌∷◌, ◌++◌, length, take, drop, option_map, sym, ap, subst, ◌∙◌, arith, length-drop}
use Rattle.std.specs.Prelude.{IfSome}
use Rattle.std.proofs.lemmas.List.{append-nil, take-append-drop, take_all}
use Rattle.sched_base.specs.declared.desk.Inlet.TheVariants.{Log}
use Rattle.sched_base.specs.declared.reading.ReadError.{ReadError}
use Rattle.sched_base.specs.declared.reading.ReadError.TheVariants.{Failed, NoMemory as Memory}
use Rattle.sched_base.specs.State.{State, left_in}
use Rattle.sched_model.specs.Data.{Data}
use Rattle.textline.specs.Lines.{Bytes}
use Rattle.kernel.specs.Steps.{LogState, opening}
use Rattle.logtext.specs.declared.entry.Entry.{Entry}
use Rattle.logtext.specs.declared.entry.Entry.TheVariants.{Head, Step, Finish}
use Rattle.logtext.specs.Entries.{line_limit}
use Rattle.logtext.specs.Reading.{HasNoWholeLine, BeginsWithNone, IsLineAt}
use Rattle.log_lines.specs.code.Pieces.{Fed}
use Rattle.replay.specs.declared.fault.ReplayFault.{ReplayFault}
use Rattle.replay.specs.declared.fault.ReplayFault.TheVariants.{Refused, TooLong}
use Rattle.logtext.specs.Judgement.{IsTooLong, log_limit, log_bytes}
use Rattle.replay.specs.Replaying.{Replays, ReplaysFront, Judges, JudgesFront, BeginsAt, all_noted, lines_end, piece_limit}
use Rattle.sched_base.specs.Calls.{ReadsAtMost}
use Rattle.replay.specs.code.Endings.{Ends}
use Rattle.replay.specs.declared.replaying.Ending.{Ending}
use Rattle.replay.specs.declared.replaying.Ending.TheVariants.{Whole, Cut}
use Rattle.replay.specs.code.Pieces.{Fails, GoesOn, IsAtEnd, IsReading, ReadsOn, Holds}
use Rattle.replay.specs.code.Turns.{FindsHead, IsBehindHead, IsWrong, version_in, fault_of_read}
use Rattle.replay.specs.lemmas.Told.{each}
use Rattle.replay.proofs.Spelt.{Spellings, open_begins_none, none_with_more}
use Rattle.replay.proofs.Reached.{Reached, reached_head, reached_longer, reached_more, entry_longer}
use Rattle.replay.proofs.Judged.{NoHead, Barred, barred_refused, barred_uncut, same_entry, accepted, accepted_at, Refused as DueAt}
use Rattle.replay.proofs.Logs.{plain_step}
use Rattle.replay.proofs.Feeding.{reading_taken}
use Rattle.replay.proofs.Ends.{LinesEnd, reached_lines, ended_lines, begins, stops}
use Rattle.replay.proofs.Wholes.{wrong_whole, missing_whole, long_whole, behind_whole, accepted_whole, short_whole, head_whole}
use Rattle.logtext.specs.declared.version.Version.{Version}
use Rattle.logtext.specs.Logs.{may_hold}
use Rattle.logtext.specs.Spelling.{head_text, lines_text}
use Rattle.kernel.specs.declared.types.Line.{Line}
use Rattle.region.specs.Looks.{Refuting}
use Rattle.std.specs.Prelude.{ℤ, List}

-- what was read of a log and judged right, and what a watcher is then
pub record Judging {W S : Type 0} (refutes : Refuting W) (numbers : W → List ℤ) (valid : W → Bool) (noted : S → Line W → S) (before : S) (m : Data) (version : Version) (start now : State) (lines : Fed) (line : ℕ) (s : LogState) (after : S) : Type 0 where
  pub fed : Bytes
  pub place : ℕ
  pub reading : IsReading start now fed place
  pub reached : Reached refutes numbers valid m fed place line s
  pub of_version : reached.version ≡ version
  pub fits : Holds lines fed place
  pub watched : after ≡ all_noted noted before reached.lines

module _ {W S : Type 0} (refutes : Refuting W) (numbers : W → List ℤ) (valid : W → Bool) (noted : S → Line W → S) (before : S) where
  abbrev IsEntryAt : Bytes → ℕ → ℕ → Entry W → Type 0
  IsEntryAt bytes from to e = IsLineAt numbers valid bytes from to e

  -- From what is left to all that there was.

  whole_from : (o n : Option Bytes) (k : ℕ) (fed : Bytes) (P Q : Bytes → Type 0) → n ≡ option_map (drop k) o → IfSome o (λ bs. fed ≡ [] ++ take k bs) → IfSome n P → ((behind : Bytes) → P behind → Q (fed ++ behind)) → IfSome o Q
  whole_from None n k fed P Q left told is each = tt
  whole_from (Some bs) n k fed P Q left told is each =
      let same : fed ++ drop k bs ≡ bs = ap (λ t. t ++ drop k bs) told ∙ take-append-drop k bs in
      let here : P (drop k bs) = subst (λ x. IfSome x P) left is in
      subst Q same (each (drop k bs) here)

  any_left : (o : Option Bytes) (P : Bytes → Type 0) → ((bs : Bytes) → P bs) → IfSome o P
  any_left None P each = tt
  any_left (Some bs) P each = each bs

  -- whatever stands behind what was read
  for_whole : (start now : State) (fed : Bytes) (place : ℕ) (Q : Bytes → Type 0) → IsReading start now fed place → ((behind : Bytes) → Q (fed ++ behind)) → IfSome (left_in Log start) Q
  for_whole start now fed place Q reading each =
      whole_from (left_in Log start) (left_in Log now) (length fed) fed (λ bs. Unit {0}) Q reading.took.left reading.took.told (any_left (left_in Log now) (λ bs. Unit {0}) (λ bs. tt)) (λ behind u. each behind)

  -- where nothing does
  for_ended : (start now : State) (fed : Bytes) (place : ℕ) (Q : Bytes → Type 0) → IsReading start now fed place → IsAtEnd now → ((behind : Bytes) → length behind ≡ 0 → Q (fed ++ behind)) → IfSome (left_in Log start) Q
  for_ended start now fed place Q reading ended each = whole_from (left_in Log start) (left_in Log now) (length fed) fed (λ bs. length bs ≡ 0) Q reading.took.left reading.took.told ended each

  -- The answers.

  -- for whoever takes a log that was cut, too
  front_too : (m : Data) (r : Result LogState ReplayFault) (after : S) (start now : State) → IfSome (left_in Log start) (λ bs. JudgesFront refutes numbers valid noted m (log_bytes bs) r before after) → Replays refutes numbers valid noted m r before after start now
      → ReplaysFront refutes numbers valid noted m r before after start now
  front_too m r after start now judgement replays = record {
    replayed = replays.replayed;
    judgement = judgement;
    counts = replays.counts;
    reads = replays.reads;
    stops = replays.stops;
    place = replays.place;
    only = replays.only;
    later = replays.later;
  }

  abbrev pub Falls : Data → ReplayFault → S → State → State → Type 0
  Falls m e after start now = Replays refutes numbers valid noted m (Err e) before after start now × ReplaysFront refutes numbers valid noted m (Err e) before after start now

  how_far : (start now : State) (fed : Bytes) (place : ℕ) → IsReading start now fed place → length fed ≤ log_limit + 1 → ReadsAtMost (log_limit + 1) (left_in Log start) (left_in Log now)
  how_far start now fed place reading few = record { count = length fed; few = few; left = reading.took.left }

  -- no further than this where line k was refused
  abbrev pub IsNearEnd : ℕ → ℕ → Bytes → Type 0
  IsNearEnd count k bytes = count ≤ min (lines_end k bytes) (lines_end (k - 1) bytes + line_limit) + piece_limit

  refuses : (m : Data) (k : ℕ) (start now : State) (fed : Bytes) (place : ℕ) → IsReading start now fed place → length fed ≤ log_limit + 1 → IfSome (left_in Log start) (λ bs. DueAt refutes numbers valid m (log_bytes bs) k) → IfSome (left_in Log start) (IsNearEnd (length fed) k)
      → IfSome (left_in Log start) (BeginsAt k place) → (after : S) → Replays refutes numbers valid noted m (Err (Refused k place)) before after start now
  refuses m k start now fed place reading few judgement near at = λ after. record {
    replayed = tt;
    judgement = judgement;
    counts = reading.kept;
    reads = how_far start now fed place reading few;
    stops = record { count = length fed; near = near; left = reading.took.left };
    place = at;
    only = reading.moved.only;
    later = reading.moved.later;
  }

  -- whatever follows
  bars : (m : Data) (k : ℕ) (start now : State) (fed : Bytes) (place : ℕ) → IsReading start now fed place → length fed ≤ log_limit + 1 → IfSome (left_in Log start) (λ bs. Barred refutes numbers valid m (log_bytes bs) k) → IfSome (left_in Log start) (IsNearEnd (length fed) k)
      → IfSome (left_in Log start) (BeginsAt k place) → (after : S) → Falls m (Refused k place) after start now
  bars m k start now fed place reading few barred near at = λ after.
      let replays = refuses m k start now fed place reading few (each (left_in Log start) _ _ (λ bs. barred_refused refutes numbers valid m (log_bytes bs) k) barred) near at after in (
        replays,
        front_too m (Err (Refused k place)) after start now
            (each (left_in Log start) _ _ (λ bs b. (b.0, (barred_refused refutes numbers valid m (log_bytes bs) k b).1, barred_uncut refutes numbers valid m (log_bytes bs) k b)) barred)
            replays,
      )

  near_end : (k place : ℕ) (start now : State) (fed : Bytes) → IsReading start now fed place → ((behind : Bytes) → LinesEnd refutes numbers valid k (fed ++ behind) place (drop place fed ++ behind)) → IfSome (left_in Log start) (IsNearEnd (length fed) (k + 1))
  near_end k place start now fed reading ends = for_whole start now fed place (IsNearEnd (length fed) (k + 1)) reading (λ behind. stops refutes numbers valid k place fed behind reading.within (ends behind) reading.near)

  near_line : Spellings numbers valid → (m : Data) (start now : State) (fed : Bytes) (place line : ℕ) (s : LogState) → IsReading start now fed place → Reached refutes numbers valid m fed place line s → IfSome (left_in Log start) (IsNearEnd (length fed) line)
  near_line laws m start now fed place line s reading so_far =
      let same : line - 1 + 1 ≡ line = omega (arith, so_far.number) in
      subst (λ k. IfSome (left_in Log start) (IsNearEnd (length fed) k)) same (near_end (line - 1) place start now fed reading (λ behind. reached_lines refutes numbers valid laws m fed behind place line s so_far))

  begins_end : (k place : ℕ) (start now : State) (fed : Bytes) → IsReading start now fed place → ((behind : Bytes) → LinesEnd refutes numbers valid k (fed ++ behind) place (drop place fed ++ behind)) → IfSome (left_in Log start) (BeginsAt (k + 1) place)
  begins_end k place start now fed reading ends = for_whole start now fed place (BeginsAt (k + 1) place) reading (λ behind. begins refutes numbers valid k place (fed ++ behind) (drop place fed ++ behind) (ends behind))

  begins_line : Spellings numbers valid → (m : Data) (start now : State) (fed : Bytes) (place line : ℕ) (s : LogState) → IsReading start now fed place → Reached refutes numbers valid m fed place line s → IfSome (left_in Log start) (BeginsAt line place)
  begins_line laws m start now fed place line s reading so_far =
      let same : line - 1 + 1 ≡ line = omega (arith, so_far.number) in
      subst (λ k. IfSome (left_in Log start) (BeginsAt k place)) same (begins_end (line - 1) place start now fed reading (λ behind. reached_lines refutes numbers valid laws m fed behind place line s so_far))

  pub refuses_head : (m : Data) (start now : State) (all : Bytes) → IsReading start now all 0 → length all ≤ log_limit → IfSome (left_in Log now) (λ behind. NoHead refutes numbers valid (all ++ behind)) → (after : S) → Falls m (Refused 1 0) after start now
  refuses_head m start now all reading few none =
      bars m 1 start now all 0 reading (omega (arith, few))
      (whole_from (left_in Log start) (left_in Log now) (length all) all (λ behind. NoHead refutes numbers valid (all ++ behind)) (λ bs. Barred refutes numbers valid m (log_bytes bs) 1) reading.took.left reading.took.told none (λ behind no. head_whole refutes numbers valid m (all ++ behind) no))
      (near_end 0 0 start now all reading (λ behind. from_start (all ++ behind)))
      (begins_end 0 0 start now all reading (λ behind. from_start (all ++ behind)))
    where
      from_start : (bytes : Bytes) (n : ℕ) → lines_end (0 + n) bytes ≡ 0 + lines_end n bytes
      from_start bytes n = let same : 0 + n ≡ n = omega arith in ap (λ k. lines_end k bytes) same ∙ omega arith

  pub refuses_wrong : Spellings numbers valid → (m : Data) (start now : State) (fed : Bytes) (place line : ℕ) (s : LogState) → IsReading start now fed place → length fed ≤ log_limit → (so_far : Reached refutes numbers valid m fed place line s) → IsWrong refutes numbers valid m so_far.version s (drop place fed) → (after : S) → Falls m (Refused line place) after start now
  refuses_wrong laws m start now fed place line s reading few so_far wrong =
      bars m line start now fed place reading (omega (arith, few))
      (for_whole start now fed place (λ bs. Barred refutes numbers valid m (log_bytes bs) line) reading (λ behind. wrong_whole refutes numbers valid laws m fed behind place line s few so_far wrong))
      (near_line laws m start now fed place line s reading so_far)
      (begins_line laws m start now fed place line s reading so_far)

  pub refuses_missing : Spellings numbers valid → (m : Data) (start now : State) (fed : Bytes) (place line : ℕ) (s : LogState) → IsReading start now fed place → length fed < log_limit → Reached refutes numbers valid m fed place line s → HasNoWholeLine (drop place fed) → IsAtEnd now → (after : S) → Replays refutes numbers valid noted m (Err (Refused line place)) before after start now
  refuses_missing laws m start now fed place line s reading few so_far open_one ended =
      refuses m line start now fed place reading (omega (arith, few))
      (for_ended start now fed place (λ bs. DueAt refutes numbers valid m (log_bytes bs) line) reading ended (λ behind none. missing_whole refutes numbers valid laws m fed behind place line s few none so_far open_one))
      (near_line laws m start now fed place line s reading so_far)
      (begins_line laws m start now fed place line s reading so_far)

  pub refuses_behind : Spellings numbers valid → (m : Data) (start now : State) (fed more : Bytes) (place to line : ℕ) (s : LogState) → IsReading start now (fed ++ more) to → length fed ≤ log_limit → length (fed ++ more) ≤ log_limit + 1 → Reached refutes numbers valid m fed place line s → IsEntryAt fed place to Finish → to < length (fed ++ more)
      → (after : S) → Falls m (Refused (line + 1) to) after start now
  refuses_behind laws m start now fed more place to line s reading few size so_far at some =
      bars m (line + 1) start now (fed ++ more) to reading size
      (for_whole start now (fed ++ more) to (λ bs. Barred refutes numbers valid m (log_bytes bs) (line + 1)) reading (λ behind. behind_whole refutes numbers valid laws m fed more behind place to line s few size so_far at some))
      (near_end line to start now (fed ++ more) reading ends)
      (begins_end line to start now (fed ++ more) reading ends)
    where
      ends : (behind : Bytes) → LinesEnd refutes numbers valid line ((fed ++ more) ++ behind) to (drop to (fed ++ more) ++ behind)
      ends = λ behind. ended_lines refutes numbers valid laws m (fed ++ more) behind place to line s (reached_longer refutes numbers valid m fed more place line s so_far) (entry_longer refutes numbers valid fed more place to Finish at)

  long : (m : Data) (start now : State) (fed : Bytes) (place line : ℕ) (s : LogState) → IsReading start now fed place → length fed ≡ log_limit → Reached refutes numbers valid m fed place line s → HasNoWholeLine (drop place fed) → (after : S) → Replays refutes numbers valid noted m (Err TooLong) before after start now
  long m start now fed place line s reading is so_far open_one = λ after. record {
    replayed = tt;
    judgement = for_whole start now fed place (λ bs. IsTooLong refutes numbers valid m (log_bytes bs)) reading (λ behind. long_whole refutes numbers valid m fed behind place line s is so_far open_one);
    counts = reading.kept;
    reads = how_far start now fed place reading (omega (arith, is));
    stops = tt;
    place = tt;
    only = reading.moved.only;
    later = reading.moved.later;
  }

  pub is_too_long : (m : Data) (start now : State) (fed : Bytes) (place line : ℕ) (s : LogState) → IsReading start now fed place → length fed ≡ log_limit → Reached refutes numbers valid m fed place line s → HasNoWholeLine (drop place fed) → (after : S) → Falls m TooLong after start now
  is_too_long m start now fed place line s reading is so_far open_one = λ after. let replays = long m start now fed place line s reading is so_far open_one after in (replays, front_too m (Err TooLong) after start now replays.judgement replays)

  -- a log that was cut
  all_of : (fed behind : Bytes) → length fed < log_limit → length behind ≡ 0 → log_bytes (fed ++ behind) ≡ fed
  all_of fed [] few none = ap log_bytes (append-nil fed) ∙ take_all (log_limit + 1) fed (omega (arith, few))
  all_of fed (b ∷ bs) few none = absurd (omega (arith, none))

  cuts : (m : Data) (start now : State) (fed : Bytes) (place line : ℕ) (s : LogState) → IsReading start now fed place → length fed < log_limit → (so_far : Reached refutes numbers valid m fed place line s) → HasNoWholeLine (drop place fed) → IsAtEnd now
      → (after : S) → after ≡ all_noted noted before so_far.lines → ReplaysFront refutes numbers valid noted m (Ok s) before after start now
  cuts m start now fed place line s reading few so_far open_one ended after watched = record {
    replayed = record { lines = so_far.lines; log = so_far.log; watched = watched };
    judgement = for_ended start now fed place (λ bs. JudgesFront refutes numbers valid noted m (log_bytes bs) (Ok s) before after) reading ended (λ behind none.
        let all = all_of fed behind few none in (
          inr (record {
            replayed = record { lines = so_far.lines; log = so_far.log; watched = watched };
            version = so_far.version;
            suits = so_far.may;
            rest = drop place fed;
            text = all ∙ so_far.text;
            open_line = open_one;
          }),
          λ long. absurd (omega (arith, few, long.many, ap length all)),
        ));
    counts = reading.kept;
    reads = how_far start now fed place reading (omega (arith, few));
    stops = tt;
    place = tt;
    only = reading.moved.only;
    later = reading.moved.later;
  }

  pub accepts : Spellings numbers valid → (m : Data) (start now : State) (fed : Bytes) (place line : ℕ) (s : LogState) → IsReading start now fed (length fed) → length fed ≤ log_limit → (so_far : Reached refutes numbers valid m fed place line s) → IsEntryAt fed place (length fed) Finish → IsAtEnd now
      → (after : S) → after ≡ all_noted noted before so_far.lines → Replays refutes numbers valid noted m (Ok s) before after start now
  unfolding accepted_whole accepted accepted_at
  accepts laws m start now fed place line s reading few so_far at ended after watched = record {
    replayed = record { lines = so_far.lines; log = so_far.log; watched = watched };
    judgement = for_ended start now fed (length fed) (λ bs. Judges refutes numbers valid noted m (log_bytes bs) (Ok s) before after) reading ended (λ behind none. (
      record {
        replayed = record { lines = so_far.lines; log = so_far.log; watched = watched };
        version = so_far.version;
        suits = so_far.may;
        text = (accepted_whole refutes numbers valid m fed behind place line s few none so_far at).text;
      },
      (short_whole refutes numbers valid) laws m fed behind place line s few none so_far at,
    ));
    counts = reading.kept;
    reads = how_far start now fed (length fed) reading (omega (arith, few));
    stops = tt;
    place = tt;
    only = reading.moved.only;
    later = reading.moved.later;
  }

  nothing_said : (o : Option Bytes) → IfSome o (λ bs. Unit {0})
  nothing_said None = tt
  nothing_said (Some bs) = tt

  reads_most : (o q : Option Bytes) (k n : ℕ) → k ≤ n → ReadsAtMost k o q → ReadsAtMost n o q
  reads_most o q k n few reads = record { count = reads.count; few = omega (arith, few, reads.few); left = reads.left }

  pub gives_up : (m : Data) (most : ℕ) (e : ReadError) (start now : State) → most ≤ log_limit + 1 → Fails most e start now → (after : S) → Replays refutes numbers valid noted m (Err (fault_of_read e)) before after start now
  gives_up m most Failed start now few fails = λ after. record { replayed = tt; judgement = nothing_said (left_in Log start); counts = (fails.1, fails.2); reads = reads_most (left_in Log start) (left_in Log now) most (log_limit + 1) few fails.0.1; stops = tt; place = tt; only = fails.0.0.only; later = fails.0.0.later }
  gives_up m most Memory start now few fails = λ after. record { replayed = tt; judgement = nothing_said (left_in Log start); counts = fails.1; reads = reads_most (left_in Log start) (left_in Log now) most (log_limit + 1) few fails.0.1; stops = tt; place = tt; only = fails.0.0.only; later = fails.0.0.later }

  no_judgement : (m : Data) (e : ReadError) (start : State) (after : S) → IfSome (left_in Log start) (λ bs. JudgesFront refutes numbers valid noted m (log_bytes bs) (Err (fault_of_read e)) before after)
  no_judgement m Failed start after = nothing_said (left_in Log start)
  no_judgement m Memory start after = nothing_said (left_in Log start)

  pub gives_both_up : (m : Data) (most : ℕ) (e : ReadError) (start now : State) → most ≤ log_limit + 1 → Fails most e start now → (after : S) → Falls m (fault_of_read e) after start now
  gives_both_up m most e start now few fails = λ after. let replays = gives_up m most e start now few fails after in (replays, front_too m (Err (fault_of_read e)) after start now (no_judgement m e start after) replays)

  -- The first line.

  abbrev pub HeadAnswer : State → State → Fed → Option Version → Type 0
  HeadAnswer start now lines o = FindsHead numbers valid start now (Ok o) lines

  pub head_found : Spellings numbers valid → (start now : State) (lines : Fed) (all : Bytes) (to : ℕ) (e : Entry W) → ReadsOn start now [] all 0 → IsEntryAt all 0 to e → Holds lines all to → HeadAnswer start now lines (version_in e)
  head_found laws start now lines all to (Head v) reads at fits = record { fed = all; place = to; reading = reading_taken refutes numbers valid laws start now all 0 to (Head v) reads.reading at; head = at; fits = fits }
  head_found laws start now lines all to (Step l) reads at fits = (all, reads, any_left (left_in Log now) (λ behind. NoHead refutes numbers valid (all ++ behind)) (λ behind v begins. other v (same_entry refutes numbers valid laws all behind 0 to (Step l) (Head v) at begins)))
    where
      other : (v : Version) → Step l ≡ Head v → ⊥
      other v h = cc
  head_found laws start now lines all to Finish reads at fits = (all, reads, any_left (left_in Log now) (λ behind. NoHead refutes numbers valid (all ++ behind)) (λ behind v begins. other v (same_entry refutes numbers valid laws all behind 0 to Finish (Head v) at begins)))
    where
      other : (v : Version) → ◌≡◌ {A = Entry W} Finish (Head v) → ⊥
      other v h = cc

  -- no first line stands in front of a wrong line, or of one that never ends

  pub no_head_wrong : Spellings numbers valid → (now : State) (all : Bytes) → (HasNoWholeLine all → ⊥) → BeginsWithNone numbers valid all → IfSome (left_in Log now) (λ behind. NoHead refutes numbers valid (all ++ behind))
  no_head_wrong laws now all whole none = any_left (left_in Log now) (λ behind. NoHead refutes numbers valid (all ++ behind)) (λ behind v. none_with_more numbers valid laws all behind whole none (Head v))

  pub no_head_missing : Spellings numbers valid → (now : State) (all : Bytes) → HasNoWholeLine all → IsAtEnd now → IfSome (left_in Log now) (λ behind. NoHead refutes numbers valid (all ++ behind))
  no_head_missing laws now all open_one ended = by_left (left_in Log now) ended
    where
      by_end : (behind : Bytes) → length behind ≡ 0 → NoHead refutes numbers valid (all ++ behind)
      by_end [] none = subst (NoHead refutes numbers valid) (sym (append-nil all)) (λ v. open_begins_none numbers valid laws all (Head v) open_one)
      by_end (b ∷ bs) none = absurd (omega (arith, none))

      by_left : (o : Option Bytes) → IfSome o (λ bs. length bs ≡ 0) → IfSome o (λ behind. NoHead refutes numbers valid (all ++ behind))
      by_left None is = tt
      by_left (Some bs) is = by_end bs is

  -- The lines behind the first.

  -- and each line takes bytes
  pub held_place : (lines : Fed) (fed : Bytes) (place : ℕ) → Holds lines fed place → place ≤ length fed → lines.count - length lines.rest ≡ place
  held_place lines fed place fits within =
      let size : lines.count ≡ length fed = ap (λ f. f.count) fits in
      let rest : length lines.rest ≡ length (drop place fed) = ap (λ f. length f.rest) fits in
      omega (arith, size, rest, length-drop place fed, within)

  -- What is known between two lines.

  pub judging_first : (m : Data) (version : Version) (start now : State) (lines : Fed) (s : LogState) → s ≡ opening m → IsBehindHead numbers valid version start now lines → Judging refutes numbers valid noted before m version start now lines 2 s before
  unfolding reached_head
  judging_first m version start now lines s is begun = subst (λ t. Judging refutes numbers valid noted before m version start now lines 2 t before) (sym is) (record {
    fed = begun.fed;
    place = begun.place;
    reading = begun.reading;
    reached = reached_head refutes numbers valid m begun.fed begun.place version begun.head;
    of_version = refl;
    fits = begun.fits;
    watched = refl;
  })

  -- what was reached of what was read, where more is read; the lines are the same
  pub reached_on : (m : Data) (start now : State) (fed all : Bytes) (place line : ℕ) (s : LogState) → Reached refutes numbers valid m fed place line s → ReadsOn start now fed all place → Reached refutes numbers valid m all place line s
  reached_on m start now fed all place line s so_far reads =
      let longer = reached_longer refutes numbers valid m fed reads.more place line s so_far in record {
        version = longer.version;
        lines = longer.lines;
        may = longer.may;
        log = longer.log;
        text = reads.longer ∙ longer.text ∙ ap (λ r. head_text longer.version ++ (lines_text numbers longer.lines ++ drop place r)) (sym reads.longer);
        number = longer.number;
        within = subst (λ bs. place ≤ length bs) (sym reads.longer) longer.within;
        few = longer.few;
        nodes = longer.nodes;
      }

  pub same_version : (m : Data) (start now : State) (fed all : Bytes) (place line : ℕ) (s : LogState) (so_far : Reached refutes numbers valid m fed place line s) (reads : ReadsOn start now fed all place)
      → (reached_on m start now fed all place line s so_far reads).version ≡ so_far.version
  unfolding reached_on reached_longer
  same_version m start now fed all place line s so_far reads = refl

  noted_more : (s : S) (ls : List (Line W)) (l : Line W) → all_noted noted s (ls ++ l ∷ []) ≡ noted (all_noted noted s ls) l
  noted_more s [] l = refl
  noted_more s (k ∷ ks) l = noted_more (noted s k) ks l

  pub judging_more : Spellings numbers valid → (m : Data) (version : Version) (start earlier now : State) (old new : Fed) (all : Bytes) (to line : ℕ) (l : Line W) (s t : LogState) (mid after : S) (judging : Judging refutes numbers valid noted before m version start earlier old line s mid) → ReadsOn start now judging.fed all judging.place → IsEntryAt all judging.place to (Step l)
      → may_hold version l ≡ true → plain_step refutes numbers valid m l s ≡ Ok t → after ≡ noted mid l → Holds new all to → Judging refutes numbers valid noted before m version start now new (line + 1) t after
  unfolding reached_more reached_on reached_longer
  judging_more laws m version start earlier now old new all to line l s t mid after judging reads at holds goes notes fits = record {
    fed = all;
    place = to;
    reading = reading_taken refutes numbers valid laws start now all judging.place to (Step l) reads.reading at;
    reached = reached_more refutes numbers valid m all judging.place to line s t l (reached_on m start now judging.fed all judging.place line s judging.reached reads) at (subst (λ v. may_hold v l ≡ true) (sym judging.of_version) holds) goes;
    of_version = judging.of_version;
    fits = fits;
    watched = notes ∙ ap (λ x. noted x l) judging.watched ∙ sym (noted_more before judging.reached.lines l);
  }

  -- the last line, and nothing behind it
  pub ends_well : Spellings numbers valid → (m : Data) (version : Version) (start earlier now last : State) (old : Fed) (all : Bytes) (to line : ℕ) (s : LogState) (mid : S) (judging : Judging refutes numbers valid noted before m version start earlier old line s mid) → ReadsOn start now judging.fed all judging.place → IsEntryAt all judging.place to Finish
      → GoesOn start last all to (Ok false) → Ends refutes numbers valid noted m (Ok Whole) s before mid start last
  unfolding reached_on reached_longer
  ends_well laws m version start earlier now last old all to line s mid judging reads at goes =
      let replays = accepts laws m start last all judging.place line s (subst (IsReading start last all) goes.1 goes.0) reads.few (reached_on m start now judging.fed all judging.place line s judging.reached reads)
      (subst (λ n. IsEntryAt all judging.place n Finish) goes.1 at) goes.2 mid judging.watched in
      (replays, front_too m (Ok s) mid start last (each (left_in Log start) _ _ (λ bs whole. (inl whole.0, whole.1)) replays.judgement) replays)

  -- no further line that is whole
  pub cut_well : Spellings numbers valid → (m : Data) (version : Version) (start earlier now : State) (old : Fed) (all : Bytes) (line : ℕ) (s : LogState) (mid : S) (judging : Judging refutes numbers valid noted before m version start earlier old line s mid) → ReadsOn start now judging.fed all judging.place
      → HasNoWholeLine (drop judging.place all) → IsAtEnd now → length all < log_limit → Ends refutes numbers valid noted m (Ok (Cut line judging.place)) s before mid start now
  unfolding reached_on reached_longer
  cut_well laws m version start earlier now old all line s mid judging reads open_one ended few =
      let so_far = reached_on m start now judging.fed all judging.place line s judging.reached reads in (
        refuses_missing laws m start now all judging.place line s reads.reading few so_far open_one ended mid,
        cuts m start now all judging.place line s reads.reading few so_far open_one ended mid judging.watched,
      )

  -- however the lines end, for whoever takes a log that was cut
  pub front_of : (m : Data) (ending : Ending) (s : LogState) (after : S) (old new : State) → Ends refutes numbers valid noted m (Ok ending) s before after old new → ReplaysFront refutes numbers valid noted m (Ok s) before after old new
  front_of m Whole s after old new ends = ends.1
  front_of m (Cut k at) s after old new ends = ends.1

  -- the counts are small
  pub room : (m : Data) (version : Version) (start now : State) (lines : Fed) (line : ℕ) (s : LogState) (after : S) → Judging refutes numbers valid noted before m version start now lines line s after → lines.count ≤ log_limit → (s.nodes ≤ log_limit) × (line ≤ log_limit + 2)
  room m version start now lines line s after judging few =
      let size : lines.count ≡ length judging.fed = ap (λ f. f.count) judging.fits in
      (omega (arith, few, size, judging.reached.nodes, judging.reached.few, judging.reached.within), omega (arith, few, size, judging.reached.number, judging.reached.few, judging.reached.within))
