use Rattle.std.proofs.Common.{◌≡◌, ◌++◌, OnOk, rules, subst, SFits, w64}
use Rattle.std.specs.Int.{w128}
use Rattle.std.proofs.lemmas.Int.{to_z-of_z}
use Rattle.svg_page.specs.Axis.{tick_at}
use Rattle.svg_page.proofs.ticks.push_tick.Goals as goal

pub returns-in-Some : goal.returns-in-Some
returns-in-Some c =
    let fits : SFits w64 c.in-Some.t = search rules in
    let fits_t : SFits w128 c.args.t = c.ranges.t in
    subst (λ o. OnOk c.push_tick_text.result (c.push_tick_text.new.page.items ≡ c.args.page.now.items ++ tick_at c.args.axis c.args.height o)) (simp to_z-of_z at c.in-Some.ensures)
    (simp (to_z-of_z, c.place.ensures) at c.push_tick_text.ensures)
