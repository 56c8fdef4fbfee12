use Rattle.std.proofs.Common.{SFits, w64, rules}
use Rattle.std.proofs.lemmas.Int.{to_z-of_z}
use Rattle.svg_page.proofs.Rows.{five}
use Rattle.svg_page.proofs.cumuls.push_cumul_names.Goals as goal

pub returns : goal.returns
returns c =
    let fits_high : SFits w64 c.args.r.high = search rules in
    let fits_low : SFits w64 c.args.r.low = search rules in
    five _ _ _ _ _ _ _ _ _ _ _ _ c.in_ok-push_group.ensures c.in_ok-push_cumul_name.ensures (simp to_z-of_z at c.in_ok-push_level_label.ensures) (simp to_z-of_z at c.in_ok-push_level_label-2.ensures) c.push.ensures
