use Rattle.std.proofs.Common.{◌≡◌, ◌∙◌, length, arith, w64, to_z, of_z}
use Rattle.std.proofs.lemmas.Int.{to_z-of_z}
use Rattle.region.specs.code.Flat.{region_from}
use Rattle.region.proofs.Places.{look_length, length-bounds_from, looked_pmax}
use Rattle.region.proofs.look.Look.pmax.Goals as goal

pub read_greatest-requires-clause-within : goal.read_greatest-requires-clause-within
read_greatest-requires-clause-within c =
    let size : length c.args.self.now.region.bounds ≡ length c.self.inside.frame.now.sizes = rw (← c.self.view_is) (look_length c.self.inside.frame.now c.self.inside.cells.now c.self.inside.guess) in
    omega (arith, size, c.requires)

pub returns-clause-value : goal.returns-clause-value
returns-clause-value c =
    let size : length c.args.self.now.region.bounds ≡ length c.self.inside.frame.now.sizes = rw (← c.self.view_is) (look_length c.self.inside.frame.now c.self.inside.cells.now c.self.inside.guess) in
    let own : to_z w64 (of_z w64 c.read_greatest.result) ≡ c.read_greatest.result = grind (arith, to_z-of_z) in
    rw (← c.self.view_is) (own ∙ c.read_greatest.ensures.value ∙ looked_pmax c.self.inside.guess (region_from c.self.inside.frame.now c.self.inside.cells.now) c.args.x.0 (omega (arith, size, c.requires, length-bounds_from c.self.inside.frame.now.sizes c.self.inside.cells.now)))
