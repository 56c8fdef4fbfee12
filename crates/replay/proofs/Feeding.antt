-- How reading goes on piece by piece.
use Rattle.std.proofs.Common.{◌≡◌, ℕ, zero, suc, ◌+◌, ◌-◌, ◌<◌, ◌≤◌, true, false, [], ◌∷◌, ◌++◌, length, take, drop, Option, Some, None, option_map, Ok, Err, refl, sym, ap, subst, ◌∙◌, arith, append_assoc, length-append, length-drop}
use Rattle.std.specs.Prelude.{IfSome}
use Rattle.std.proofs.lemmas.Bool.{and_parts, and_from}
use Rattle.std.proofs.lemmas.List.{append-nil, drop-drop, drop_all, drop-append-le}
use Rattle.std.proofs.Math.Seq.{take-add, take-append_seam}
use Rattle.sched_base.specs.declared.desk.Inlet.TheVariants.{Log}
use Rattle.sched_base.specs.declared.reading.ReadError.{ReadError}
use Rattle.sched_base.specs.declared.reading.ReadError.TheVariants.{Failed, NoMemory}
use Rattle.sched_base.specs.State.{State, with_place, with_faults, left_in}
use Rattle.sched_base.specs.Calls.{Rose, Moved, Took, ReadsAtMost}
use Rattle.textline.specs.Lines.{Bytes}
use Rattle.logtext.specs.declared.entry.Entry.{Entry}
use Rattle.log_lines.specs.declared.fault.LineFault.TheVariants.{Bad}
use Rattle.logtext.specs.Entries.{Spells}
use Rattle.logtext.specs.Reading.{HasNoWholeLine, BeginsWithNone, IsLineAt}
use Rattle.log_lines.specs.code.Pieces.{Fed, ReadsNext, fed_more}
use Rattle.replay.specs.declared.reading.NextLine.{NextLine}
use Rattle.replay.specs.declared.reading.NextLine.TheVariants.{Line, Wrong, Missing, Beyond}
use Rattle.logtext.specs.Judgement.{log_limit}
use Rattle.replay.specs.Replaying.{piece_limit}
use Rattle.replay.specs.code.Pieces.{FeedsPiece, FindsLine, GoesOn, IsNear, IsReading, ReadsOn, Fails, holds, Holds, FallsShort}
use Rattle.replay.proofs.Feeds.{has_no_feed, feed_within}
use Rattle.replay.proofs.Spelt.{Spellings, ends_once, true_false}
use Rattle.region.specs.Looks.{Refuting}
use Rattle.std.specs.Prelude.{ℤ, Bool, List}

pub record Stands (start now : State) (fed : Bytes) (place : ℕ) (lines : Fed) : Type 0 where
  pub all : Bytes
  pub more : Bytes
  pub longer : all ≡ fed ++ more
  pub reading : IsReading start now all place
  pub fits : Holds lines all place

module _ {W : Type 0} (refutes : Refuting W) (numbers : W → List ℤ) (valid : W → Bool) where
  abbrev IsEntryAt : Bytes → ℕ → ℕ → Entry W → Type 0
  IsEntryAt bytes from to e = IsLineAt numbers valid bytes from to e

  -- Calls one after another.

  pub moved_failed : (old new : State) → new ≡ with_faults new.faults old → old.faults ≤ new.faults → Moved Log old new
  moved_failed old new is later = record { only = is ∙ ap (λ p. with_faults new.faults (with_place Log p old)) (sym (ap (λ s. s.log) is)); opened = ap (λ s. s.log.opened) is; later = later }

  moved_none : (s : State) → Moved Log s s
  moved_none s = moved_failed s s refl (omega arith)

  moved_on : (a b c : State) → Moved Log a b → Moved Log b c → Moved Log a c
  moved_on a b c m n = record { only = n.only ∙ ap (λ s. with_faults c.faults (with_place Log c.log s)) m.only; opened = n.opened ∙ m.opened; later = omega (arith, m.later, n.later) }

  told_on : (o : Option Bytes) (k n : ℕ) (fed piece : Bytes) → IfSome o (λ bs. fed ≡ [] ++ take k bs) → IfSome (option_map (drop k) o) (λ bs. piece ≡ [] ++ take n bs) → IfSome o (λ bs. fed ++ piece ≡ [] ++ take (k + n) bs)
  told_on None k n fed piece a b = tt
  told_on (Some bs) k n fed piece a b = ap (λ w. w ++ piece) a ∙ ap (λ w. take k bs ++ w) b ∙ sym (take-add k n bs)

  left_on : (o : Option Bytes) (k n : ℕ) → option_map (drop n) (option_map (drop k) o) ≡ option_map (drop (k + n)) o
  left_on None k n = refl
  left_on (Some bs) k n = ap (λ x. Some x) (drop-drop n k bs)

  took_on : (k n : ℕ) (fed piece : Bytes) (s t u : State) → Took Log k [] fed s t → Took Log n [] piece t u → Took Log (length (fed ++ piece)) [] (fed ++ piece) s u
  took_on k n fed piece s t u a b =
      let size : k + n ≡ length (fed ++ piece) = omega (arith, a.size, b.size, length-append fed piece) in
      subst (λ l. Took Log l [] (fed ++ piece) s u) size (record {
        size = omega (arith, a.size, b.size, length-append fed piece);
        told = told_on (left_in Log s) k n fed piece a.told (subst (λ o. IfSome o (λ bs. piece ≡ [] ++ take n bs)) a.left b.told);
        left = b.left ∙ ap (option_map (drop n)) a.left ∙ left_on (left_in Log s) k n;
      })

  pub at_end : (o : Option Bytes) (n : ℕ) → IfSome o (λ bs. length bs ≡ 0) → IfSome (option_map (drop n) o) (λ bs. length bs ≡ 0)
  at_end None n is = tt
  at_end (Some bs) n is = omega (arith, is, length-drop n bs)

  calm_kept : (start old : State) → Moved Log start old → start.calm ≡ true → old.calm ≡ true
  calm_kept start old moved calm = ap (λ s. s.calm) moved.only ∙ calm

  -- what was read so far, and then at most so many bytes more
  reads_on_most : (o p q : Option Bytes) (k most limit : ℕ) → p ≡ option_map (drop k) o → k + most ≤ limit → ReadsAtMost most p q → ReadsAtMost limit o q
  reads_on_most o p q k most limit so_far few more = record {
    count = k + more.count;
    few = omega (arith, few, more.few);
    left = more.left ∙ ap (option_map (drop more.count)) so_far ∙ left_on o k more.count;
  }

  falls_short : (start old new : State) (k most limit : ℕ) → Moved Log start old → left_in Log old ≡ option_map (drop k) (left_in Log start) → k + most ≤ limit → FallsShort most old new → FallsShort limit start new
  falls_short start old new k most limit moved left few short = (moved_on start old new moved short.0, reads_on_most (left_in Log start) (left_in Log old) (left_in Log new) k most limit left few short.1)

  pub fails_on : (e : ReadError) (start old new : State) (k most limit : ℕ) → Moved Log start old → left_in Log old ≡ option_map (drop k) (left_in Log start) → k + most ≤ limit → old.faults ≡ start.faults → Fails most e old new → Fails limit e start new
  fails_on Failed start old new k most limit moved left few kept fails = (
    falls_short start old new k most limit moved left few fails.0,
    subst (λ n. Rose n new.faults) kept fails.1,
    λ calm. fails.2 (calm_kept start old moved calm),
  )
  fails_on NoMemory start old new k most limit moved left few kept fails = (falls_short start old new k most limit moved left few fails.0, fails.1 ∙ kept)

  -- what was read so far is no more than this
  pub short_of : (start now : State) (fed : Bytes) (place most : ℕ) → IsReading start now fed place → length fed ≤ most → FallsShort most start now
  short_of start now fed place most reading few = (reading.moved, record { count = length fed; few = few; left = reading.took.left })

  -- What is near.

  no_front : (rest : Bytes) → HasNoWholeLine rest → (piece : Bytes) → length piece ≤ piece_limit → IsNear (rest ++ piece)
  no_front rest open_one piece short = record {
    front = length rest;
    within = omega (arith, length-append rest piece);
    plain = ap has_no_feed (take-append_seam rest piece) ∙ open_one.open_line;
    short = open_one.short;
    near = omega (arith, short, length-append rest piece);
  }

  front_plain : (xs : Bytes) (n m : ℕ) → n ≤ m → has_no_feed (take m xs) ≡ true → has_no_feed (take n xs) ≡ true
  front_plain xs zero m less h = refl
  front_plain [] (suc n) m less h = refl
  front_plain (x ∷ xs) (suc n) zero less h = absurd (omega (arith, less))
  front_plain (x ∷ xs) (suc n) (suc m) less h = let two = and_parts _ (has_no_feed (take m xs)) h in and_from _ (has_no_feed (take n xs)) two.0 (front_plain xs n m (omega (arith, less)) two.1)

  -- a line ends behind a front without a line feed
  front_before : Spellings numbers valid → (rest text : Bytes) (n front : ℕ) (e : Entry W) → take n rest ≡ text → Spells numbers valid text e → has_no_feed (take front rest) ≡ true → n ≤ front → ⊥
  front_before laws rest text n front e is spells plain less =
      let once = ends_once numbers valid laws text e spells in
      (true_false numbers valid) (has_no_feed (take n rest)) (front_plain rest n front less plain) (ap has_no_feed (is ∙ once.text_is) ∙ feed_within once.body [])

  pub near_taken : Spellings numbers valid → (all : Bytes) (place to : ℕ) (e : Entry W) → place ≤ length all → IsEntryAt all place to e → IsNear (drop place all) → IsNear (drop to all)
  near_taken laws all place to e within at near = record {
    front = 0;
    within = omega arith;
    plain = refl;
    short = omega arith;
    near = by_front (λ less. front_before laws (drop place all) _ (to - place) near.front e refl at.spells near.plain less);
  }
    where
      by_front : (to - place ≤ near.front → ⊥) → length (drop to all) ≤ 0 + piece_limit
      by_front further = let before : near.front < to - place = omega (arith, further) in omega (arith, before, near.near, length-drop place all, length-drop to all, at.further, at.within, within)

  -- What was read.

  no_bytes : (o : Option Bytes) → IfSome o (λ bs. [] ≡ take 0 bs)
  no_bytes None = tt
  no_bytes (Some bs) = refl

  none_dropped : (o : Option Bytes) → o ≡ option_map (drop 0) o
  none_dropped None = refl
  none_dropped (Some bs) = refl

  pub reading_none : (s : State) → IsReading s s [] 0
  reading_none s = record {
    took = record { size = refl; told = no_bytes (left_in Log s); left = none_dropped (left_in Log s) };
    moved = moved_none s;
    kept = refl;
    within = omega arith;
    near = record { front = 0; within = omega arith; plain = refl; short = omega arith; near = omega arith };
  }

  pub reading_taken : Spellings numbers valid → (start now : State) (all : Bytes) (place to : ℕ) (e : Entry W) → IsReading start now all place → IsEntryAt all place to e → IsReading start now all to
  reading_taken laws start now all place to e reading at = record {
    took = reading.took;
    moved = reading.moved;
    kept = reading.kept;
    within = at.within;
    near = near_taken laws all place to e reading.within at reading.near;
  }

  pub reading_more : (start old new : State) (fed piece : Bytes) (place n : ℕ) → IsReading start old fed place → HasNoWholeLine (drop place fed) → Took Log n [] piece old new → length piece ≤ piece_limit → new.faults ≡ old.faults → Moved Log old new → IsReading start new (fed ++ piece) place
  reading_more start old new fed piece place n reading open_one took short kept moved = record {
    took = took_on (length fed) n fed piece start old new reading.took took;
    moved = moved_on start old new reading.moved moved;
    kept = kept ∙ reading.kept;
    within = omega (arith, reading.within, length-append fed piece);
    near = subst IsNear (sym (drop-append-le place fed piece reading.within)) (no_front (drop place fed) open_one piece short);
  }

  -- who holds bytes of them that were taken
  pub held : (lines : Fed) (taken : ℕ) (fed : Bytes) (place : ℕ) → lines ≡ holds taken fed place → Holds lines fed place
  held lines taken fed place is = is ∙ ap (λ n. holds n fed place) (sym (ap (λ (f : Fed). f.taken) is))

  pub fits_more : (fed piece : Bytes) (place : ℕ) (before after : Fed) → place ≤ length fed → Holds before fed place → after ≡ fed_more piece before → Holds after (fed ++ piece) place
  fits_more fed piece place before after within fits is = held after before.taken (fed ++ piece) place
      (is ∙ ap (fed_more piece) fits ∙ ap (λ n. record { count = n; taken = before.taken; rest = drop place fed ++ piece; is_bad = false }) (sym (length-append fed piece))
      ∙ ap (λ bs. record { count = length (fed ++ piece); taken = before.taken; rest = bs; is_bad = false }) (sym (drop-append-le place fed piece within)))

  -- What stands where the lines taken end, while pieces are fed.

  pub stands_first : (start now : State) (fed : Bytes) (place : ℕ) (lines : Fed) → IsReading start now fed place → Holds lines fed place → Stands start now fed place lines
  stands_first start now fed place lines reading fits = record { all = fed; more = []; longer = sym (append-nil fed); reading = reading; fits = fits }

  pub stands_more : (start old new : State) (fed : Bytes) (place n : ℕ) (before after : Fed) → Stands start old fed place before → HasNoWholeLine before.rest → FeedsPiece n old new before after → Moved Log old new → Stands start new fed place after
  stands_more start old new fed place n before after stands open_one feeds moved = record {
    all = stands.all ++ feeds.piece;
    more = stands.more ++ feeds.piece;
    longer = ap (λ bs. bs ++ feeds.piece) stands.longer ∙ append_assoc fed stands.more feeds.piece;
    reading = reading_more start old new stands.all feeds.piece place n stands.reading (subst (λ f. HasNoWholeLine f.rest) stands.fits open_one) feeds.took feeds.short feeds.kept moved;
    fits = fits_more stands.all feeds.piece place before after stands.reading.within stands.fits feeds.fed;
  }

  pub reads_on : (start now : State) (fed : Bytes) (place : ℕ) (lines : Fed) (stands : Stands start now fed place lines) → lines.count ≤ log_limit → ReadsOn start now fed stands.all place
  reads_on start now fed place lines stands few = record {
    more = stands.more;
    longer = stands.longer;
    few = subst (λ n. n ≤ log_limit) (ap (λ f. f.count) stands.fits) few;
    reading = stands.reading;
  }

  -- the first line of what is held stands at the place
  pub line_at : (all : Bytes) (place n : ℕ) (e : Entry W) → place ≤ length all → IsEntryAt (drop place all) 0 n e → IsEntryAt all place (place + n) e
  line_at all place n e within at = record {
    further = omega (arith, at.further);
    within = omega (arith, at.within, length-drop place all, within);
    spells = let same : n - 0 ≡ place + n - place = omega arith in subst (λ k. Spells numbers valid (take k (drop place all)) e) same at.spells;
  }

  pub line_fits : (all : Bytes) (place n : ℕ) (old new : Fed) → Holds old all place → new ≡ record old { taken = old.taken + 1; rest = drop n old.rest } → Holds new all (place + n)
  line_fits all place n old new fits is = held new (old.taken + 1) all (place + n)
      (is ∙ ap (λ (f : Fed). record f { taken = f.taken + 1; rest = drop n f.rest }) fits ∙ ap (λ bs. record { count = length all; taken = old.taken + 1; rest = bs; is_bad = false }) (drop-drop n place all))

  -- What is found there.

  pub finds_line : (start now : State) (fed : Bytes) (place : ℕ) (old new : Fed) (e : Entry W) → Stands start now fed place old → old.count ≤ log_limit → ReadsNext numbers valid (Ok (Some e)) old new → FindsLine numbers valid start now fed place (Ok (Line e)) new
  finds_line start now fed place old new e stands few read = (
    stands.all,
    reads_on start now fed place old stands few,
    (
      place + read.1.0,
      line_at stands.all place read.1.0 e stands.reading.within (subst (λ (f : Fed). IsEntryAt f.rest 0 read.1.0 e) stands.fits read.1.1),
      line_fits stands.all place read.1.0 old new stands.fits read.1.2,
    ),
  )

  pub finds_wrong : (start now : State) (fed : Bytes) (place : ℕ) (old new : Fed) (line at : ℕ) → Stands start now fed place old → old.count ≤ log_limit → ReadsNext numbers valid (Err (Bad line at)) old new → FindsLine numbers valid start now fed place (Ok Wrong) new
  finds_wrong start now fed place old new line at stands few read =
      let IsBad : Fed → Type 0 = λ f. (HasNoWholeLine f.rest → ⊥) × BeginsWithNone numbers valid f.rest in
      let bad = subst IsBad stands.fits (read.0 (ap (λ f. f.is_bad) stands.fits)) in
      (stands.all, reads_on start now fed place old stands few, bad.0, bad.1)

  open_at : (start now : State) (fed : Bytes) (place : ℕ) (lines : Fed) (stands : Stands start now fed place lines) → HasNoWholeLine lines.rest → HasNoWholeLine (drop place stands.all)
  open_at start now fed place lines stands open_one = subst (λ (f : Fed). HasNoWholeLine f.rest) stands.fits open_one

  size_at : (start now : State) (fed : Bytes) (place : ℕ) (lines : Fed) (stands : Stands start now fed place lines) → lines.count ≡ length stands.all
  size_at start now fed place lines stands = ap (λ f. f.count) stands.fits

  pub finds_beyond : (start now : State) (fed : Bytes) (place : ℕ) (old new : Fed) → Stands start now fed place old → old.count ≤ log_limit → HasNoWholeLine old.rest → log_limit ≤ old.count → FindsLine numbers valid start now fed place (Ok Beyond) new
  finds_beyond start now fed place old new stands few open_one many =
      (stands.all, reads_on start now fed place old stands few, open_at start now fed place old stands open_one, omega (arith, few, many, size_at start now fed place old stands))

  no_piece : (piece : Bytes) → length piece ≡ 0 → piece ≡ []
  no_piece [] none = refl
  no_piece (b ∷ bs) none = absurd (omega (arith, none))

  reading_ended : (start old new : State) (all : Bytes) (place n : ℕ) (before after : Fed) → IsReading start old all place → HasNoWholeLine (drop place all) → FeedsPiece n old new before after → Moved Log old new → n ≡ 0 → IsReading start new all place
  reading_ended start old new all place n before after reading open_one feeds moved none =
      let nothing : feeds.piece ≡ [] = no_piece feeds.piece (omega (arith, feeds.took.size, none)) in
      subst (λ bs. IsReading start new bs place) (ap (λ bs. all ++ bs) nothing ∙ append-nil all) (reading_more start old new all feeds.piece place n reading open_one feeds.took feeds.short feeds.kept moved)

  pub finds_missing : (start now next : State) (fed : Bytes) (place n : ℕ) (old mid new : Fed) → Stands start now fed place old → old.count < log_limit → HasNoWholeLine old.rest → FeedsPiece n now next mid new → Moved Log now next → n ≡ 0 → FindsLine numbers valid start next fed place (Ok Missing) new
  finds_missing start now next fed place n old mid new stands few open_one feeds moved none =
      let size : length stands.all < log_limit = omega (arith, few, size_at start now fed place old stands) in
      let open_here = open_at start now fed place old stands open_one in (
        stands.all,
        record { more = stands.more; longer = stands.longer; few = omega (arith, size); reading = reading_ended start now next stands.all place n mid new stands.reading open_here feeds moved none },
        open_here,
        feeds.end none,
        size,
      )

  -- Whether more stands behind a place.

  pub holds_more : (start now : State) (fed : Bytes) (place : ℕ) (lines : Fed) → IsReading start now fed place → Holds lines fed place → lines.count ≤ log_limit → (lines.rest ≡ [] → ⊥) → GoesOn start now fed place (Ok true)
  holds_more start now fed place lines reading fits few some =
      let size : lines.count ≡ length fed = ap (λ f. f.count) fits in
      let whole : fed ≡ fed ++ [] = sym (append-nil fed) in
      let behind : length fed ≤ place → ⊥ = λ all. some (ap (λ f. f.rest) fits ∙ drop_all place fed all) in
      ([], subst (λ bs. IsReading start now bs place) whole reading, omega (arith, few, size, ap length whole), omega (arith, behind, ap length whole))

  at_place : (fed : Bytes) (place : ℕ) → place ≤ length fed → drop place fed ≡ [] → place ≡ length fed
  at_place fed place within none = omega (arith, within, length-drop place fed, ap length none)

  empty_open : (rest : Bytes) → rest ≡ [] → HasNoWholeLine rest
  empty_open rest none = subst HasNoWholeLine (sym none) (record { open_line = refl; short = omega arith })

  pub reads_more : (start old new : State) (fed : Bytes) (place n : ℕ) (before after : Fed) → IsReading start old fed place → Holds before fed place → before.count ≤ log_limit → before.rest ≡ [] → FeedsPiece n old new before after → Moved Log old new → n ≤ 1 → 0 < n → GoesOn start new fed place (Ok true)
  reads_more start old new fed place n before after reading fits few none feeds moved most some =
      let size : before.count ≡ length fed = ap (λ f. f.count) fits in
      let nothing : drop place fed ≡ [] = sym (ap (λ f. f.rest) fits) ∙ none in
      let reads = reading_more start old new fed feeds.piece place n reading (empty_open (drop place fed) nothing) feeds.took feeds.short feeds.kept moved in
      (feeds.piece, reads, omega (arith, few, size, most, feeds.took.size, length-append fed feeds.piece), omega (arith, some, reading.within, feeds.took.size, length-append fed feeds.piece))

  pub reads_none : (start old new : State) (fed : Bytes) (place n : ℕ) (before after : Fed) → IsReading start old fed place → Holds before fed place → before.rest ≡ [] → FeedsPiece n old new before after → Moved Log old new → n ≡ 0 → GoesOn start new fed place (Ok false)
  reads_none start old new fed place n before after reading fits none feeds moved is =
      let nothing : drop place fed ≡ [] = sym (ap (λ f. f.rest) fits) ∙ none in
      (reading_ended start old new fed place n before after reading (empty_open (drop place fed) nothing) feeds moved is, at_place fed place reading.within nothing, feeds.end is)

  -- the line that is found
  pub found_entry : (start now : State) (fed : Bytes) (place : ℕ) (lines : Fed) (found : NextLine W) (e d : Entry W) → FindsLine numbers valid start now fed place (Ok found) lines → found ≡ Line e → e ≡ d → FindsLine numbers valid start now fed place (Ok (Line d)) lines
  found_entry start now fed place lines found e d finds is same = subst (λ f. FindsLine numbers valid start now fed place (Ok f) lines) (is ∙ ap (λ x. Line x) same) finds
