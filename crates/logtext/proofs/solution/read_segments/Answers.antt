use Rattle.std.proofs.Common.{◌==◌, length, sym, ◌∙◌, arith}
use Rattle.std.specs.List.{list_all}
use Rattle.kernel.specs.Fit.{is_fit_segment}
use Rattle.textline.specs.laws.Lines.{both_true}
use Rattle.logtext.specs.Spelling.{segment_words}
use Rattle.logtext.specs.laws.Leads.{counted_more}
use Rattle.logtext.specs.laws.Told.{segment_told}
use Rattle.logtext.proofs.Values.{length_same}
use Rattle.logtext.proofs.solution.read_segments.Goals as goal

pub returns-in_default : goal.returns-in_default
returns-in_default c = λ ss rest fit e.
    let two = both_true (length ss == c.args.count) (list_all is_fit_segment ss) fit in
    counted_more segment_words is_fit_segment segment_told c.loop-i.segments ss c.loop-i.words rest c.loop-i.invariant.fit two.1 (omega (arith, length_same ss c.args.count two.0, c.loop-i.invariant.many, c.loop-i-test.true)) c.in_default.ensures (sym c.loop-i.invariant.same ∙ e)
