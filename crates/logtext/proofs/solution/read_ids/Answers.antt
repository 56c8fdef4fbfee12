use Rattle.std.proofs.Common.{◌==◌, length, sym, ◌∙◌, arith}
use Rattle.std.specs.List.{list_all}
use Rattle.kernel.specs.Fit.{is_id}
use Rattle.textline.specs.laws.Lines.{both_true}
use Rattle.logtext.specs.code.Reads.{id_words}
use Rattle.logtext.specs.laws.Leads.{counted_more}
use Rattle.logtext.specs.laws.Told.{member_told}
use Rattle.logtext.proofs.Values.{length_same}
use Rattle.logtext.proofs.solution.read_ids.Goals as goal

pub returns-in_default : goal.returns-in_default
returns-in_default c = λ xs rest fit e.
    let two = both_true (length xs == c.args.count) (list_all is_id xs) fit in
    counted_more id_words is_id member_told c.loop-i.ids xs c.loop-i.words rest c.loop-i.invariant.fit two.1 (omega (arith, length_same xs c.args.count two.0, c.loop-i.invariant.many, c.loop-i-test.true)) c.in_default.ensures (sym c.loop-i.invariant.same ∙ e)
