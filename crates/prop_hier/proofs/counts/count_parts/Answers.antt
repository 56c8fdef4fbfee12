use Rattle.std.proofs.Common.{◌≡◌, ◌^◌, ◌<◌, ◌≤◌, ◌∙◌, ap, length, get_or, arith, rules}
use Rattle.std.proofs.lemmas.List.{get_or_default}
use Rattle.sched_base.specs.declared.ids.Itv.{Itv}
use Rattle.region.specs.Cells.{bounds_of}
use Rattle.prop_hier.specs.code.Counts.{counts_with}
use Rattle.prop_hier.proofs.OneMore.{counts_below, counted_more}
use Rattle.prop_hier.proofs.counts.count_parts.Goals as goal

pub counts_with-counts-requires-clause-few : goal.counts_with-counts-requires-clause-few
counts_with-counts-requires-clause-few c =
    let bs = c.args.family.now.parts.now in
    let k = c.loop-b.b-index in
    let within : k ≤ length bs = omega (arith, c.loop-b-test.true, c.loop-b.auto.b-index-end) in
    let few : k < 2 ^ 63 = search rules in
    counts_below c.args.family.now.kind c.args.look.now.region c.args.family.now.a bs k (2 ^ 63) c.loop-b.counts within few c.loop-b.invariant

pub loop-b-preserved : goal.loop-b-preserved
loop-b-preserved c =
    let r = c.args.look.now.region in
    let kind = c.args.family.now.kind in
    let a = c.args.family.now.a in
    let bs = c.args.family.now.parts.now in
    let k = c.loop-b.b-index in
    let x : Itv = get_or bs k (record { 0 = 0 }) in
    let within : k < length bs = omega (arith, c.loop-b-test.true, c.loop-b.auto.b-index-end) in
    let known : c.known.result ≡ bounds_of r x = search rules in
    c.counts_with-counts.ensures ∙ ap (λ w. counts_with kind w c.known.result c.loop-b.counts) c.known-whole.ensures.value ∙ ap (λ d. counts_with kind (bounds_of r a) d c.loop-b.counts) known
    ∙ counted_more kind r a x bs k c.loop-b.counts within (get_or_default bs k (record { 0 = 0 }) x within) c.loop-b.invariant
