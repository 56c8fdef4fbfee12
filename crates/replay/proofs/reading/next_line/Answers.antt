use Rattle.std.proofs.Common.{◌≡◌, ◌≤◌, length, Some, None, Ok, Err, sym, ap, subst, ◌∙◌, arith, rules}
use Rattle.log_lines.specs.declared.fault.LineFault.TheVariants.{Bad}
use Rattle.log_lines.specs.code.Pieces.{Fed, ReadsNext}
use Rattle.logtext.specs.Reading.{HasNoWholeLine}
use Rattle.logtext.specs.Judgement.{log_limit}
use Rattle.replay.specs.code.Pieces.{FindsLine}
use Rattle.replay.proofs.Feeding.{Stands, finds_line, finds_wrong, finds_beyond, finds_missing, fails_on, stands_more, short_of}
use Rattle.replay.proofs.reading.next_line.Goals as goal

pub returns-in-Ok-Some-clause-finds : goal.returns-in-Ok-Some-clause-finds
returns-in-Ok-Some-clause-finds g c = λ start fed place reading fits.
    let read : ReadsNext g.X.Witness.Numbers.numbers g.X.Witness.Numbers.is_valid (Ok (Some c.in-Ok-Some.entry)) c.pieces.lines c.next.new.self = rw c.in-Ok-Some.field-0-is at c.in-Ok-Some.ensures in
    finds_line g.X.Refuter.refuting g.X.Witness.Numbers.numbers g.X.Witness.Numbers.is_valid start (g.D.Desk.state c.pieces.desk) fed place c.pieces.lines c.next.new.self c.in-Ok-Some.entry (c.pieces.invariant.stands start fed place reading fits) c.pieces.invariant.limit read

pub returns-in-Err-Bad-clause-finds : goal.returns-in-Err-Bad-clause-finds
returns-in-Err-Bad-clause-finds g c = λ start fed place reading fits.
    let read : ReadsNext g.X.Witness.Numbers.numbers g.X.Witness.Numbers.is_valid (Err (Bad c.in-Err-Bad.field-0-0 c.in-Err-Bad.field-0-1)) c.pieces.lines c.next.new.self = rw c.in-Err-Bad.field-0-is at c.in-Err-Bad.ensures in
    finds_wrong g.X.Refuter.refuting g.X.Witness.Numbers.numbers g.X.Witness.Numbers.is_valid start (g.D.Desk.state c.pieces.desk) fed place c.pieces.lines c.next.new.self c.in-Err-Bad.field-0-0 c.in-Err-Bad.field-0-1 (c.pieces.invariant.stands start fed place reading fits) c.pieces.invariant.limit read

pub returns-in-Err-NoMemory-clause-finds : goal.returns-in-Err-NoMemory-clause-finds
returns-in-Err-NoMemory-clause-finds g c = λ start fed place reading fits.
    let stands = c.pieces.invariant.stands start fed place reading fits in (short_of g.X.Refuter.refuting g.X.Witness.Numbers.numbers g.X.Witness.Numbers.is_valid start (g.D.Desk.state c.pieces.desk) stands.all place log_limit stands.reading (omega (arith, c.pieces.invariant.limit, ap (λ (f : Fed). f.count) stands.fits)), stands.reading.kept)

pub returns-then-count-ge-LOG_BYTES-clause-finds : goal.returns-then-count-ge-LOG_BYTES-clause-finds
returns-then-count-ge-LOG_BYTES-clause-finds g c = λ start fed place reading fits.
    let read : ReadsNext g.X.Witness.Numbers.numbers g.X.Witness.Numbers.is_valid (Ok None) c.pieces.lines c.next.new.self = rw c.in-Ok-None.field-0-is at c.in-Ok-None.ensures in
    let count : c.count-count.result ≡ c.pieces.lines.count = c.count-count.ensures ∙ ap (λ f. f.count) read.2 in
    finds_beyond g.X.Refuter.refuting g.X.Witness.Numbers.numbers g.X.Witness.Numbers.is_valid start (g.D.Desk.state c.pieces.desk) fed place c.pieces.lines c.next.new.self (c.pieces.invariant.stands start fed place reading fits) c.pieces.invariant.limit read.1 (omega (arith, count, c.if-count-ge-LOG_BYTES.true))

pub returns-in_err-n-clause-finds : goal.returns-in_err-n-clause-finds
returns-in_err-n-clause-finds g c = λ start fed place reading fits.
    let is : c.from_residual.result ≡ Err c.in_err-n.field-0.0 = search rules in
    let stands = c.pieces.invariant.stands start fed place reading fits in
    let read : ReadsNext g.X.Witness.Numbers.numbers g.X.Witness.Numbers.is_valid (Ok None) c.pieces.lines c.next.new.self = rw c.in-Ok-None.field-0-is at c.in-Ok-None.ensures in
    let count : c.count-count.result ≡ c.pieces.lines.count = c.count-count.ensures ∙ ap (λ f. f.count) read.2 in
    let size : c.pieces.lines.count ≡ length stands.all = ap (λ (f : Fed). f.count) stands.fits in
    subst (λ r. FindsLine g.X.Witness.Numbers.numbers g.X.Witness.Numbers.is_valid start (g.D.Desk.state c.feed_piece.new.desk) fed place r c.feed_piece.new.lines) (sym is)
    (fails_on g.X.Refuter.refuting g.X.Witness.Numbers.numbers g.X.Witness.Numbers.is_valid c.in_err-n.field-0.0 start (g.D.Desk.state c.pieces.desk) (g.D.Desk.state c.feed_piece.new.desk) (length stands.all) _ log_limit stands.reading.moved stands.reading.took.left (omega (arith, size, count, c.if-count-ge-LOG_BYTES.false)) stands.reading.kept c.in_err-n.ensures.fails)

pub returns-then-n-eq0-clause-finds : goal.returns-then-n-eq0-clause-finds
returns-then-n-eq0-clause-finds g c = λ start fed place reading fits.
    let read : ReadsNext g.X.Witness.Numbers.numbers g.X.Witness.Numbers.is_valid (Ok None) c.pieces.lines c.next.new.self = rw c.in-Ok-None.field-0-is at c.in-Ok-None.ensures in
    let count : c.count-count.result ≡ c.pieces.lines.count = c.count-count.ensures ∙ ap (λ f. f.count) read.2 in
    finds_missing g.X.Refuter.refuting g.X.Witness.Numbers.numbers g.X.Witness.Numbers.is_valid start (g.D.Desk.state c.pieces.desk) (g.D.Desk.state c.feed_piece.new.desk) fed place c.in_ok-n.n c.pieces.lines c.next.new.self c.feed_piece.new.lines (c.pieces.invariant.stands start fed place reading fits) (omega (arith, count, c.if-count-ge-LOG_BYTES.false)) read.1 c.in_ok-n.ensures.fed c.in_ok-n.ensures.moved c.if-n-eq0.true

pub pieces-preserved : goal.pieces-preserved
pieces-preserved g c =
    let read : ReadsNext g.X.Witness.Numbers.numbers g.X.Witness.Numbers.is_valid (Ok None) c.pieces.lines c.next.new.self = rw c.in-Ok-None.field-0-is at c.in-Ok-None.ensures in
    let few : c.feed_piece.new.lines.count ≤ log_limit = omega (arith, c.in_ok-n.ensures.count, c.in_ok-n.ensures.few, c.count-count.ensures, c.if-count-ge-LOG_BYTES.false) in
    record {
      stands = λ start fed place reading fits.
          stands_more g.X.Refuter.refuting g.X.Witness.Numbers.numbers g.X.Witness.Numbers.is_valid start (g.D.Desk.state c.pieces.desk) (g.D.Desk.state c.feed_piece.new.desk) fed place c.in_ok-n.n c.next.new.self c.feed_piece.new.lines
          (subst (λ f. Stands start (g.D.Desk.state c.pieces.desk) fed place f) (sym read.2) (c.pieces.invariant.stands start fed place reading fits)) (subst (λ (f : Fed). HasNoWholeLine f.rest) (sym read.2) read.1) c.in_ok-n.ensures.fed c.in_ok-n.ensures.moved;
      opened = c.in_ok-n.ensures.moved.opened ∙ c.pieces.invariant.opened;
      limit = few;
    }
