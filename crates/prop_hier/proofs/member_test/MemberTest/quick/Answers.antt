use Rattle.std.proofs.Common.{ap, ◌∙◌, refl}
use Rattle.region.specs.Cells.{bounds_of}
use Rattle.region.specs.Guesses.{topic, with_guess}
use Rattle.prop_hier.specs.code.Counts.{counts_refute}
use Rattle.prop_hier.proofs.Counting.{part_told, quick_parts}
use Rattle.prop_hier.proofs.member_test.MemberTest.quick.Goals as goal

pub returns : goal.returns
returns c =
    let r = c.args.self.now.region.now.region in
    let a = c.args.self.now.family.now.a in
    let x = c.args.self.now.x in
    let two = quick_parts a x (topic c.args.g) c.requires.quick in
    part_told c.args.self.now.family.now.kind r (with_guess c.args.g r) a x c.args.self.now.family.now.parts.now c.args.self.now.counts c.known.result c.known-2.result c.known-3.result (topic c.args.g) c.counts_refute.result c.requires.ready refl two.1 two.0
    (c.known.ensures.value ∙ ap (λ l. bounds_of l.region a) c.look-plain.ensures.value) (c.known-2.ensures.value ∙ ap (λ l. bounds_of l.region x) c.look-plain.ensures.value)
    (c.known-3.ensures.value ∙ ap (λ l. bounds_of l.region x) c.look-guessed.ensures.value)
    (c.counts_refute.ensures ∙ ap (counts_refute c.args.self.now.family.now.kind c.known.result.presence) c.counts_after-counts.ensures)
