use Rattle.std.proofs.Common.{rules, w64, SFits}
use Rattle.std.proofs.lemmas.Int.{to_z-of_z}
use Rattle.refute_hier.proofs.Apart.{ends_apart}
use Rattle.refute_hier.proofs.parts.have_ends_apart.Goals as goal

pub returns : goal.returns
returns c =
    let last : SFits w64 c.args.x.emax = search rules in
    let more : SFits w64 c.args.y.emax = search rules in
    let first : SFits w64 c.ect.result = search rules in
    let other : SFits w64 c.ect-2.result = search rules in
    ends_apart c.args.x c.args.y c.ect.result c.ect-2.result c.are_apart.result (simp to_z-of_z at c.are_apart.ensures) c.ect.ensures c.ect-2.ensures
