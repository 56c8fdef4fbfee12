use Rattle.std.proofs.Common.{SFits, w64, rules}
use Rattle.std.proofs.lemmas.Int.{to_z-of_z}
use Rattle.svg_page.proofs.Rows.{five}
use Rattle.svg_page.proofs.cumuls.push_profile.Goals as goal

pub returns : goal.returns
returns c =
    let fits_from : SFits w64 c.args.axis.from = search rules in
    let fits_to : SFits w64 c.args.axis.to = search rules in
    five _ _ _ _ _ _ _ _ _ _ _ _ (simp to_z-of_z at c.in_ok-push_number.ensures) c.in_ok-push.ensures c.in_ok-push_step_texts.ensures (simp to_z-of_z at c.in_ok-push_number-2.ensures) c.push-2.ensures
