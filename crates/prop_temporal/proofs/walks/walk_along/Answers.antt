use Rattle.std.proofs.Common.{◌≡◌, ℕ, List, true, length, map, sym, subst, ap, ◌∙◌, arith}
use Rattle.refute_basic.specs.declared.edge.Arc.{Arc}
use Rattle.refute_basic.specs.declared.arc_name.ArcName.{ArcName}
use Rattle.refute_basic.specs.declared.witness.BasicWitness.TheVariants.{Cycle}
use Rattle.refute_basic.specs.Basic.{refutes}
use Rattle.cycles.specs.code.Walks.{IsGain, HasHeights}
use Rattle.prop_temporal.specs.code.Shown.{name_at}
use Rattle.prop_temporal.specs.laws.Collecting.{few_bounds, heights_refute_none, gain_refutes}
use Rattle.prop_temporal.proofs.walks.walk_along.Goals as goal

pub returns-in_default-clause-none : goal.returns-in_default-clause-none
returns-in_default-clause-none c is =
    let has = rw c.in_default.is at c.in_ok-places.ensures.none in
    heights_refute_none c.args.model.now c.args.look.now c.args.shown.now c.requires.tried (subst HasHeights c.arcs.ensures has) is

pub returns-clause-some : goal.returns-clause-some
returns-clause-some c =
    let gain = rw c.in-Some.is at c.in_ok-places.ensures.some in
    let few = few_bounds c.args.model.now c.args.look.now.region c.intervals.ensures.valid c.requires.of in
    let first : length c.deref.result.now ≡ length c.args.heights.now.items = ap (λ (zs : List _). length zs) c.deref.ensures.value in
    let walk : c.in_ok-names_of.field-0 ≡ map (name_at c.args.shown.now.names) c.in-Some.places =
    c.in_ok-names_of.ensures ∙ ap (λ (is : List ArcName). map (name_at is) c.as_slice.result.now) c.names.ensures ∙ ap (λ (js : List ℕ). map (name_at c.args.shown.now.names) js) c.as_slice.ensures in
    subst (λ (is : List ArcName). refutes c.args.model.now c.args.look.now (Cycle is) ≡ true) (sym walk)
    (gain_refutes c.args.model.now c.args.look.now (length c.deref.result.now) c.args.shown.now c.in-Some.places c.requires.shown (omega (arith, few, first, c.requires.size))
    (subst (λ (es : List Arc). IsGain es (length c.deref.result.now) c.in-Some.places) c.arcs.ensures gain))
