use Rattle.std.proofs.Common.{◌≡◌, sym, length, arith, get_or}
use Rattle.region.specs.Cells.{unknown}
use Rattle.region.specs.code.Flat.{bounds_from}
use Rattle.region.proofs.Places.{look_length}
use Rattle.region.proofs.Shown.{shown_field}
use Rattle.region.proofs.look.Look.presence.Goals as goal

pub read_presence-presence-requires-clause-within : goal.read_presence-presence-requires-clause-within
read_presence-presence-requires-clause-within c =
    let size : length c.args.self.now.region.bounds ≡ length c.self.inside.frame.now.sizes = rw (← c.self.view_is) (look_length c.self.inside.frame.now c.self.inside.cells.now c.self.inside.guess) in
    omega (arith, size, c.requires)

pub returns-in-Some : goal.returns-in-Some
returns-in-Some c =
    let size : length c.args.self.now.region.bounds ≡ length c.self.inside.frame.now.sizes = rw (← c.self.view_is) (look_length c.self.inside.frame.now c.self.inside.cells.now c.self.inside.guess) in
    rw (← c.self.view_is) (shown_field (λ b. b.presence) c.self.inside.frame.now c.self.inside.cells.now c.self.inside.guess c.in-Some.g c.topic.result c.args.x.0 c.presence_under.result c.in-Some.is c.topic.ensures (omega (arith, size, c.requires))
    (c.presence_under.ensures (get_or (bounds_from c.self.inside.frame.now.sizes c.self.inside.cells.now) c.args.x.0 unknown) (sym c.read_presence-presence.ensures)))
