use Rattle.std.proofs.Common.{ap}
use Rattle.prop_hier.proofs.Counting.{plain_told}
use Rattle.prop_hier.proofs.counts.numbers_refute.Goals as goal

pub returns : goal.returns
returns c =
    plain_told c.args.family.now.kind c.args.look.now.region c.args.family.now.a c.args.family.now.parts.now c.count_parts.result c.known-whole.result.presence c.counts_refute.result c.count_parts.ensures
    (ap (λ b. b.presence) c.known-whole.ensures.value) c.counts_refute.ensures
