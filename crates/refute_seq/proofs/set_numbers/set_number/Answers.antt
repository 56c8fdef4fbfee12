use Rattle.std.proofs.Common.{rules, w64, SFits}
use Rattle.std.proofs.lemmas.Int.{to_z-of_z}
use Rattle.refute_seq.proofs.SetReading.{number_read}
use Rattle.refute_seq.proofs.set_numbers.set_number.Goals as goal

pub returns : goal.returns
returns c =
    let small : SFits w64 c.from.result = search rules in
    simp to_z-of_z (number_read c.args.set.now c.args.n c.from.result c.requires c.if-n-eq0.false c.from.ensures)
