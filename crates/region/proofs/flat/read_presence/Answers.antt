use Rattle.std.proofs.Common.{◌≡◌, ap, ◌∙◌, arith, w64, to_z, of_z}
use Rattle.std.proofs.lemmas.Int.{to_z-of_z, ints}
use Rattle.region.specs.code.Flat.{presence_from}
use Rattle.region.proofs.Places.{presence_read}
use Rattle.region.proofs.flat.read_presence.Goals as goal

pub returns : goal.returns
returns c =
    let own : to_z w64 (of_z w64 c.read_number.result) ≡ c.read_number.result = grind (arith, ints, to_z-of_z, c.read_number.ensures.moment) in
    c.presence_from.ensures ∙ ap presence_from (own ∙ c.read_number.ensures.value) ∙ presence_read c.args.frame.now.sizes c.args.cells.now c.args.n c.requires.within
