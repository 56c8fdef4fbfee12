use Rattle.std.proofs.Common.{sym, ap, ◌∙◌, arith}
use Rattle.textline.specs.Lines.{words_of}
use Rattle.logtext.proofs.Texts.{open_front, long_front, no_near, has_feed, line_here, front_fails}
use Rattle.logtext.proofs.reader.read_front.Goals as goal

pub returns-then-rest-lt-LINE_LIMIT : goal.returns-then-rest-lt-LINE_LIMIT
returns-then-rest-lt-LINE_LIMIT g c = open_front c.args.rest.now (no_near c.args.rest.now c.nearest.result.now c.nearest.ensures c.in_default.ensures) c.if-rest-lt-LINE_LIMIT.true

pub returns-in_default : goal.returns-in_default
returns-in_default g c =
    long_front g.W.Numbers.numbers g.W.Numbers.is_valid c.args.rest.now (no_near c.args.rest.now c.nearest.result.now c.nearest.ensures c.in_default.ensures) c.if-rest-lt-LINE_LIMIT.false

pub split_at-requires : goal.split_at-requires
split_at-requires g c = let feed = has_feed c.args.rest.now c.nearest.result.now c.in-Some.end c.nearest.ensures c.in-Some.ensures in omega (arith, feed.within)

pub returns-in-Ok : goal.returns-in-Ok
returns-in-Ok g c =
    let feed = has_feed c.args.rest.now c.nearest.result.now c.in-Some.end c.nearest.ensures c.in-Some.ensures in
    line_here g.W.Numbers.numbers g.W.Numbers.is_valid c.args.rest.now c.in-Some.end c.in-Ok.entry feed c.in-Ok.ensures.0 (ap words_of (sym c.split_at.ensures.front) ∙ sym c.of-words.ensures ∙ c.in-Ok.ensures.1)

pub returns-in-Err : goal.returns-in-Err
returns-in-Err g c =
    let laws = g.met.W.Numbers in
    let feed = has_feed c.args.rest.now c.nearest.result.now c.in-Some.end c.nearest.ensures c.in-Some.ensures in
    front_fails g.W.Numbers.numbers g.W.Numbers.is_valid (record { few = laws.few; small = laws.small; apart = laws.told_apart }) c.args.rest.now c.in-Some.end c.of-words.result c.in-Err.fault feed (c.of-words.ensures ∙ ap words_of c.split_at.ensures.front) c.in-Err.ensures
