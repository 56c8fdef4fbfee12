use Rattle.std.proofs.Common.{◌∙◌}
use Rattle.read_schedule.proofs.whole.Heads.{no_first, no_verdict, no_second, no_count, both_taken}
use Rattle.read_schedule.proofs.header.take_header.Goals as goal

pub returns-in_default : goal.returns-in_default
returns-in_default c = no_first c.args.lines.now c.next.new.self c.in_default.ensures

pub returns-then-not-is_verdict : goal.returns-then-not-is_verdict
returns-then-not-is_verdict c = no_verdict c.args.lines.now c.in-Some.first.now c.next.new.self _ c.in-Some.ensures c.if-not-is_verdict.ensures (c.of.ensures ∙ c.rest-before.ensures)

pub returns-in_default-next : goal.returns-in_default-next
returns-in_default-next c = no_second c.args.lines.now c.in-Some.first.now c.next.new.self c.next-2.new.self c.in-Some.ensures c.if-not-is_verdict.ensures c.in_default-next.ensures

pub returns-then-not-is_count : goal.returns-then-not-is_count
returns-then-not-is_count c = no_count c.args.lines.now c.in-Some.first.now c.next.new.self c.in-Some-next.second.now c.next-2.new.self c.in-Some.ensures c.if-not-is_verdict.ensures c.in-Some-next.ensures c.if-not-is_count.ensures

pub returns : goal.returns
returns c = both_taken c.args.lines.now c.in-Some.first.now c.next.new.self c.in-Some-next.second.now c.next-2.new.self c.in-Some.ensures c.if-not-is_verdict.ensures c.in-Some-next.ensures c.if-not-is_count.ensures
