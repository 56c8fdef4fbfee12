use Rattle.std.proofs.Common.{◌≡◌, arith, rules}
use Rattle.region.specs.Orders.{place_of}
use Rattle.region.proofs.Frames.{place_le}
use Rattle.region.proofs.frame.Row.place.Goals as goal

pub returns-in-Some-clause-within : goal.returns-in-Some-clause-within
returns-in-Some-clause-within c =
    let at : c.in-Some.k.now ≡ place_of c.args.self.now.members c.args.x = (search rules) in
    omega (arith, at, place_le c.args.self.now.members c.args.x)
