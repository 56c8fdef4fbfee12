use Rattle.std.proofs.Common.{◌∙◌, subst, Ok, Err}
use Rattle.logtext.specs.code.Reads.{ReadsValue}
use Rattle.logtext.proofs.Witnesses.{no_count, extra_fails, other_count}
use Rattle.logtext.proofs.step.read_extra.Goals as goal

pub returns-in_default : goal.returns-in_default
returns-in_default g c =
    let laws = g.met.W.Numbers in no_count g.W.Numbers.numbers g.W.Numbers.is_valid (record { few = laws.few; small = laws.small; apart = laws.told_apart }) c.args.words.now c.in_default.ensures

pub returns-in-Err : goal.returns-in-Err
returns-in-Err g c =
    extra_fails g.W.Numbers.numbers g.W.Numbers.is_valid c.args.words.now c.take_count.new.words c.in-Some.count c.in-Err.fault c.in-Some.ensures.1 (subst (λ front. ReadsValue g.W.Numbers.numbers g.W.Numbers.is_valid front c.take_count.new.words (Err c.in-Err.fault)) c.clear.ensures.items c.in-Err.ensures)

pub returns-then-count : goal.returns-then-count
returns-then-count g c =
    let laws = g.met.W.Numbers in
    other_count g.W.Numbers.numbers g.W.Numbers.is_valid (record { few = laws.few; small = laws.small; apart = laws.told_apart }) c.args.words.now c.take_count.new.words c.in-Some.count c.in-Ok.w c.in-Some.ensures.0 c.in-Some.ensures.1 (subst (λ front. ReadsValue g.W.Numbers.numbers g.W.Numbers.is_valid front c.take_count.new.words (Ok c.in-Ok.w)) c.clear.ensures.items c.in-Ok.ensures)
    (λ many. c.if-count.true (c.count.ensures ∙ many))
