use Rattle.std.proofs.Common.{SFits, w64}
use Rattle.std.proofs.lemmas.Int.{to_z-of_z}
use Rattle.svg_page.proofs.Rows.{five}
use Rattle.svg_page.proofs.ticks.push_tick_text.Goals as goal

pub returns : goal.returns
returns c =
    let fits_t : SFits w64 c.args.t = c.ranges.t in
    five _ _ _ _ _ _ _ _ _ _ _ _ c.in_ok-push_count.ensures c.in_ok-push_count-2.ensures c.in_ok-push_count-3.ensures (simp to_z-of_z at c.in_ok-push_number.ensures) c.push.ensures
