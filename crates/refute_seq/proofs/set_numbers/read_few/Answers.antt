use Rattle.std.proofs.Common.{rules}
use Rattle.refute_seq.proofs.SetReading.{no_member, read_next, named_next}
use Rattle.refute_seq.proofs.set_numbers.read_few.Goals as goal

pub returns-in_default-clause-none : goal.returns-in_default-clause-none
returns-in_default-clause-none c = λ s all same. no_member s c.args.members.now c.loop-member.member-index _ c.loop-member-test.true (search rules) c.in_default.ensures.none all same

pub loop-member-preserved : goal.loop-member-preserved
loop-member-preserved c = record {
  whole = read_next c.loop-member.set c.push.new.self c.args.members.now c.loop-member.member-index c.in-Some.n _ c.in_ok-push.ensures.ok c.loop-member.invariant.whole c.loop-member-test.true (search rules) c.in-Some.ensures.some;
  small = named_next c.loop-member.set c.push.new.self c.in-Some.n c.in_ok-push.ensures.ok c.loop-member.invariant.small (search rules);
}
