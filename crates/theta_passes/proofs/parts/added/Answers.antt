use Rattle.std.proofs.Common.{◌≡◌, ◌+ℤ◌, ap, ◌∙◌, cond, arith, w64, to_z, of_z, rules}
use Rattle.std.proofs.lemmas.Int.{to_z-of_z}
use Rattle.task_sets.specs.laws.Sums.{pick}
use Rattle.theta_passes.specs.code.Parts.{better_top}
use Rattle.theta_passes.proofs.scans.Tops.{scan_of, one_added}
use Rattle.theta_passes.proofs.parts.added.Goals as goal

pub returns : goal.returns
returns c =
    let own : to_z w64 (of_z w64 c.plus-sum.result) ≡ c.plus-sum.result = grind (arith, to_z-of_z) in
    let size : to_z w64 (of_z w64 c.args.row.p) ≡ c.args.row.p = grind (arith, to_z-of_z) in
    let sum : c.plus-sum.result ≡ c.args.scan.sum +ℤ c.taken.result = grind (arith, to_z-of_z) in
    let value : c.plus-value.result ≡ c.args.row.est +ℤ c.plus-sum.result = grind (arith, to_z-of_z) in
    let top : c.top_with.result ≡ cond c.args.is_in (better_top c.args.scan.top c.args.k c.plus-value.result) c.args.scan.top = search rules in
    ap (scan_of c.top_with.result) own ∙ one_added c.args.is_in c.args.scan c.args.row c.args.k c.taken.result c.plus-sum.result c.plus-value.result c.top_with.result (c.taken.ensures.value ∙ ap (pick c.args.is_in) size) sum value top
