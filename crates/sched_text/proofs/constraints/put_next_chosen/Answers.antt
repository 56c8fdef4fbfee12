use Rattle.std.proofs.Common.{◌∙◌, sym, SFits, w64}
use Rattle.std.proofs.lemmas.Int.{to_z-of_z}
use Rattle.sched_text.proofs.Lists.{chosen_one, chosen_other}
use Rattle.sched_text.proofs.Printing.{«as», none_yet}
use Rattle.sched_text.proofs.constraints.put_next_chosen.Goals as goal

pub returns-then-is_one : goal.returns-then-is_one
returns-then-is_one g c =
    let fits : SFits w64 c.args.count = c.ranges.count in
    none_yet (chosen_one c.args.count (sym c.if-is_one.true ∙ simp to_z-of_z at c.is_one.ensures))

pub returns : goal.returns
returns g c =
    let fits : SFits w64 c.args.count = c.ranges.count in
    «as» (simp to_z-of_z at c.put_next_number.ensures) (chosen_other c.args.count (sym c.if-is_one.false ∙ simp to_z-of_z at c.is_one.ensures))
