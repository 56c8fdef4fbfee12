use Rattle.std.proofs.Common.{rules, w64, SFits}
use Rattle.std.proofs.lemmas.Int.{to_z-of_z}
use Rattle.refute_basic.proofs.Numbered.{within_names, told_at}
use Rattle.refute_basic.proofs.names.number_at.Goals as goal

pub name_at-requires : goal.name_at-requires
name_at-requires c = within_names c.args.arcs.now c.args.i c.requires

pub returns : goal.returns
returns c =
    let small : SFits w64 c.number_in.result = search rules in
    simp to_z-of_z (told_at c.args.arcs.now c.args.i c.name_at.result c.number_in.result c.requires c.name_at.ensures c.number_in.ensures)
