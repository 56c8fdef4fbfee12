use Rattle.std.proofs.Common.{SFits, w64, rules}
use Rattle.std.proofs.lemmas.Int.{to_z-of_z}
use Rattle.sched_text.proofs.Lines.{three_words}
use Rattle.sched_text.proofs.answers.put_segment.Goals as goal

pub returns : goal.returns
returns g c =
    let fits_p : SFits w64 c.args.s.p = search rules in
    let fits_q : SFits w64 c.args.s.q = search rules in
    let fits_v : SFits w64 c.args.s.v = search rules in
    three_words (simp to_z-of_z at c.put_spaced.ensures) (simp to_z-of_z at c.put_spaced-2.ensures) (simp to_z-of_z at c.put_spaced-3.ensures)
