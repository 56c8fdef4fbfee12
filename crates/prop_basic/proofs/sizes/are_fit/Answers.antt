use Rattle.std.proofs.Common.{rules, to_z, of_z, w64, ◌≡◌}
use Rattle.prop_basic.proofs.sizes.are_fit.Goals as goal

pub returns-then-is_size : goal.returns-then-is_size
returns-then-is_size c =
    let smin : to_z w64 (of_z w64 c.args.c.smin) ≡ c.args.c.smin = search rules in
    let smax : to_z w64 (of_z w64 c.args.c.smax) ≡ c.args.c.smax = search rules in
    let emin : to_z w64 (of_z w64 c.args.c.emin) ≡ c.args.c.emin = search rules in
    let emax : to_z w64 (of_z w64 c.args.c.emax) ≡ c.args.c.emax = search rules in
    search rules

pub returns-else-is_size : goal.returns-else-is_size
returns-else-is_size c =
    let smin : to_z w64 (of_z w64 c.args.c.smin) ≡ c.args.c.smin = search rules in
    let smax : to_z w64 (of_z w64 c.args.c.smax) ≡ c.args.c.smax = search rules in
    let emin : to_z w64 (of_z w64 c.args.c.emin) ≡ c.args.c.emin = search rules in
    let emax : to_z w64 (of_z w64 c.args.c.emax) ≡ c.args.c.emax = search rules in
    search rules
