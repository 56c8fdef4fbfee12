use Rattle.std.proofs.Common.{rules, w64, SFits}
use Rattle.std.proofs.lemmas.Int.{to_z-of_z}
use Rattle.refute_hier.proofs.Apart.{starts_apart}
use Rattle.refute_hier.proofs.parts.have_starts_apart.Goals as goal

pub returns : goal.returns
returns c =
    let first : SFits w64 c.args.x.smin = search rules in
    let other : SFits w64 c.args.y.smin = search rules in
    let last : SFits w64 c.lst.result = search rules in
    let more : SFits w64 c.lst-2.result = search rules in
    starts_apart c.args.x c.args.y c.lst.result c.lst-2.result c.are_apart.result (simp to_z-of_z at c.are_apart.ensures) c.lst.ensures c.lst-2.ensures
