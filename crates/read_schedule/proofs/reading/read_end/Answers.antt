use Rattle.std.proofs.Common.{refl, inl, inr, sym, ◌∙◌}
use Rattle.read_schedule.specs.code.Rows.{end_row}
use Rattle.read_schedule.proofs.whole.Ends.{other_line, end_here, only_end, is_so, not_so}
use Rattle.read_schedule.proofs.reading.read_end.Goals as goal

pub returns-in_default : goal.returns-in_default
returns-in_default c = inl (refl, c.in_default.ensures.1 end_row)

pub returns-then-not-is : goal.returns-then-not-is
returns-then-not-is c = inl (refl, other_line c.args.lines.now c.in-Some.line.now c.next.new.self c.in-Some.ensures (not_so c.is.result c.is.ensures c.if-not-is.true))

pub returns-then-is_empty : goal.returns-then-is_empty
returns-then-is_empty c = only_end c.args.lines.now c.in-Some.line.now c.next.new.self c.in-Some.ensures (is_so c.is.result c.is.ensures c.if-not-is.false) (sym c.rest.ensures ∙ is_so c.is_empty.result c.is_empty.ensures c.if-is_empty.true)

pub returns : goal.returns
returns c = inr (refl, (c.next.new.self, end_here c.args.lines.now c.in-Some.line.now c.next.new.self c.in-Some.ensures (is_so c.is.result c.is.ensures c.if-not-is.false), λ none. not_so c.is_empty.result c.is_empty.ensures c.if-is_empty.false (c.rest.ensures ∙ none)))
