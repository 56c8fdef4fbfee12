use Rattle.std.proofs.Common.{rules, refl, ◌≡◌, to_z, of_z, w64, neg_ℤ}
use Rattle.prop_sets.proofs.numbers.backward_row.Goals as goal

pub returns : goal.returns
returns c =
    let est : to_z w64 (of_z w64 c.turned_moment.result) ≡ neg_ℤ c.args.n.lct = search rules in
    let size : to_z w64 (of_z w64 c.args.n.p) ≡ c.args.n.p = search rules in
    let lst : to_z w64 (of_z w64 c.turned.result) ≡ neg_ℤ c.args.n.ect = search rules in
    let ect : to_z w64 (of_z w64 c.turned-2.result) ≡ neg_ℤ c.args.n.lst = search rules in
    let lct : to_z w64 (of_z w64 c.turned_moment-2.result) ≡ neg_ℤ c.args.n.est = search rules in
    let bar : to_z w64 (of_z w64 c.turned-3.result) ≡ neg_ℤ c.args.asked.ect = search rules in
    let reach : to_z w64 (of_z w64 c.turned-4.result) ≡ neg_ℤ c.args.asked.lst = search rules in
    rw (est, size, lst, ect, lct, bar, reach) refl
