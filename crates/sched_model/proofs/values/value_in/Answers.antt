use Rattle.std.proofs.Common.{◌≡◌, ◌∙◌, rules, to_z, of_z, w64}
use Rattle.sched_model.proofs.rows.Saturating.{value_by_saturation}
use Rattle.sched_model.proofs.values.value_in.Goals as goal

pub returns : goal.returns
returns g c =
    let back : to_z w64 (of_z w64 c.value_of.result) ≡ c.value_of.result = search rules in
    back ∙ c.value_of.ensures ∙ value_by_saturation c.args.model.now (g.S.Slots.meaning c.args.slots.now) c.args.e.now c.requires.fits c.requires.hull
