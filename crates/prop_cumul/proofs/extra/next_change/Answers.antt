use Rattle.std.proofs.Common.{◌≡◌, subst, rules, to_z, of_z, w64, get_or}
use Rattle.std.proofs.Common.{false}
use Rattle.std.proofs.lemmas.List.{get_or_default}
use Rattle.sched_model.specs.declared.types.Part.{Part}
use Rattle.refute_cumul.specs.code.Loads.{nothing}
use Rattle.prop_cumul.specs.code.Extra.{extra, IsStill, AreStill}
use Rattle.prop_cumul.proofs.Raising.{more_still, all_still}
use Rattle.prop_cumul.proofs.extra.next_change.Goals as goal

pub loop-part-preserved : goal.loop-part-preserved
loop-part-preserved c =
    let r = c.args.plain.now.region in
    let q = c.args.under.now.region in
    let d : Part = record { minus = false; shape = nothing } in
    let one : AreStill r q c.args.below (get_or c.args.parts.now c.loop-part.part-index d) (to_z w64 (of_z w64 c.args.a)) (to_z w64 c.loop-part.n-bits) (to_z w64 (of_z w64 c.next_part-n.result)) = search rules in
    more_still r q c.args.below c.args.parts.now c.loop-part.part-index (get_or c.args.parts.now c.loop-part.part-index d) (to_z w64 (of_z w64 c.args.a)) (to_z w64 (of_z w64 c.args.to)) (to_z w64 c.loop-part.n-bits) (to_z w64 (of_z w64 c.next_part-n.result)) c.loop-part.invariant c.loop-part-test.true
    (get_or_default c.args.parts.now c.loop-part.part-index d (get_or c.args.parts.now c.loop-part.part-index d) c.loop-part-test.true) one

pub returns : goal.returns
returns c =
    let first : to_z w64 (of_z w64 c.args.a) ≡ c.args.a = search rules in
    let last : to_z w64 (of_z w64 c.args.to) ≡ c.args.to = search rules in
    let still = all_still c.args.plain.now.region c.args.under.now.region c.args.below c.args.parts.now c.loop-part.part-index _ _ _ c.loop-part.invariant c.loop-part-test.false in
    subst (λ a. IsStill (extra c.args.plain.now.region c.args.under.now.region c.args.below c.args.parts.now) a c.args.to (to_z w64 c.loop-part.n-bits)) first
    (subst (λ to. IsStill (extra c.args.plain.now.region c.args.under.now.region c.args.below c.args.parts.now) (to_z w64 (of_z w64 c.args.a)) to (to_z w64 c.loop-part.n-bits)) last still)
