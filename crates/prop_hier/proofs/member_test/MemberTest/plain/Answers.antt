use Rattle.std.proofs.Common.{ap, ◌∙◌}
use Rattle.region.specs.Cells.{bounds_of}
use Rattle.prop_hier.proofs.Counting.{plain_told}
use Rattle.prop_hier.proofs.member_test.MemberTest.plain.Goals as goal

pub returns : goal.returns
returns c =
    plain_told c.args.self.now.family.now.kind c.args.self.now.region.now.region c.args.self.now.family.now.a c.args.self.now.family.now.parts.now c.args.self.now.counts c.known-whole.result.presence c.counts_refute.result c.requires.counts
    (ap (λ b. b.presence) (c.known-whole.ensures.value ∙ ap (λ l. bounds_of l.region c.args.self.now.family.now.a) c.look.ensures.value)) c.counts_refute.ensures
