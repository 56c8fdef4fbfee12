use Rattle.std.proofs.Common.{◌≡◌, ◌+◌, ◌<◌, [], length, true, Err, arith, rules, sym, ap, subst}
use Rattle.log_lines.specs.code.Pieces.{Fed}
use Rattle.logtext.specs.Judgement.{log_limit}
use Rattle.replay.specs.code.Pieces.{GoesOn}
use Rattle.replay.proofs.Feeding.{fails_on, holds_more, reads_more, reads_none}
use Rattle.replay.proofs.reading.goes_on.Goals as goal

pub returns-then-not-is_empty : goal.returns-then-not-is_empty
returns-then-not-is_empty g c = λ start fed place reading fits.
    holds_more g.X.Refuter.refuting g.X.Witness.Numbers.numbers g.X.Witness.Numbers.is_valid start (g.D.Desk.state c.args.desk.now) fed place c.args.lines.now reading fits c.requires.limit (λ none. let full : c.is_empty.result ≡ true = c.is_empty.ensures.1 none in cc (c.if-not-is_empty.true))

pub returns-in_err-n : goal.returns-in_err-n
returns-in_err-n g c = λ start fed place reading fits.
    let is : c.from_residual.result ≡ Err c.in_err-n.field-0.0 = search rules in
    let size : c.args.lines.now.count ≡ length fed = ap (λ (f : Fed). f.count) fits in
    subst (GoesOn start (g.D.Desk.state c.feed_piece.new.desk) fed place) (sym is)
    (fails_on g.X.Refuter.refuting g.X.Witness.Numbers.numbers g.X.Witness.Numbers.is_valid c.in_err-n.field-0.0 start (g.D.Desk.state c.args.desk.now) (g.D.Desk.state c.feed_piece.new.desk) (length fed) 1 (log_limit + 1) reading.moved reading.took.left (omega (arith, size, c.requires.limit)) reading.kept c.in_err-n.ensures.fails)

pub returns-then-n-eq0 : goal.returns-then-n-eq0
returns-then-n-eq0 g c = λ start fed place reading fits.
    let none : c.args.lines.now.rest ≡ [] = search rules in
    reads_none g.X.Refuter.refuting g.X.Witness.Numbers.numbers g.X.Witness.Numbers.is_valid start (g.D.Desk.state c.args.desk.now) (g.D.Desk.state c.feed_piece.new.desk) fed place c.in_ok-n.n c.args.lines.now c.feed_piece.new.lines reading fits none c.in_ok-n.ensures.fed c.in_ok-n.ensures.moved c.if-n-eq0.true

pub returns : goal.returns
returns g c = λ start fed place reading fits.
    let some : 0 < c.in_ok-n.n = omega (arith, c.if-n-eq0.false) in
    let none : c.args.lines.now.rest ≡ [] = search rules in
    reads_more g.X.Refuter.refuting g.X.Witness.Numbers.numbers g.X.Witness.Numbers.is_valid start (g.D.Desk.state c.args.desk.now) (g.D.Desk.state c.feed_piece.new.desk) fed place c.in_ok-n.n c.args.lines.now c.feed_piece.new.lines reading fits c.requires.limit none c.in_ok-n.ensures.fed c.in_ok-n.ensures.moved c.in_ok-n.ensures.few some
