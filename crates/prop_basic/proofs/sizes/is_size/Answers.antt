use Rattle.std.proofs.Common.{rules, to_z, of_z, w64, ◌≡◌}
use Rattle.prop_basic.proofs.sizes.is_size.Goals as goal

pub returns : goal.returns
returns c =
    let least : to_z w64 (of_z w64 c.args.c.pmin) ≡ c.args.c.pmin = search rules in
    let greatest : to_z w64 (of_z w64 c.args.c.pmax) ≡ c.args.c.pmax = search rules in
    search rules
