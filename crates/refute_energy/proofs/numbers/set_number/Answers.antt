use Rattle.std.proofs.Common.{rules, w64, SFits}
use Rattle.std.proofs.lemmas.Int.{to_z-of_z}
use Rattle.refute_energy.proofs.Reading.{member_number}
use Rattle.refute_energy.proofs.numbers.set_number.Goals as goal

pub returns : goal.returns
returns c =
    let small : SFits w64 c.from.result = search rules in
    simp to_z-of_z (member_number c.args.set.now c.args.n c.from.result c.if-n-eq0.false c.requires c.from.ensures)
