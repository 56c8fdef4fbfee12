use Rattle.std.proofs.Common.{◌∙◌, ap, rules, w64, SFits}
use Rattle.std.proofs.lemmas.Int.{to_z-of_z}
use Rattle.sched_model.specs.Words.{is_between}
use Rattle.refute_basic.proofs.Slots.{present_size}
use Rattle.refute_basic.proofs.leaf.has_size.Goals as goal

pub returns-in-Present : goal.returns-in-Present
returns-in-Present c =
    let lo : SFits w64 c.args.c.pmin = search rules in
    let hi : SFits w64 c.args.c.pmax = search rules in
    let size : SFits w64 c.size_of.result = search rules in
    let start : SFits w64 c.args.c.smin = search rules in
    let end : SFits w64 c.args.c.emin = search rules in
    present_size c.args.c c.is_between.result c.in-Present.is ((simp to_z-of_z at c.is_between.ensures) ∙ ap (is_between c.args.c.pmin c.args.c.pmax) (simp to_z-of_z at c.size_of.ensures))
