use Rattle.std.proofs.Common.{◌≡◌, ◌++◌, ◌∙◌, ℤ, ap, arith, to_z, of_z, SFits, w64}
use Rattle.std.proofs.lemmas.Int.{to_z-of_z}
use Rattle.sched_text.specs.Answers.{values_word}
use Rattle.sched_text.proofs.Pushed.{values_end}
use Rattle.sched_text.proofs.values.push_values.Goals as goal

pub returns : goal.returns
returns c =
    let v : ℤ = to_z w64 (of_z w64 c.args.v) in
    let fits : SFits w64 c.args.v = c.ranges.v in
    let same : v ≡ c.args.v = simp to_z-of_z in
    values_end c.args.model.now v c.loop-i.i c.loop-i.is_first c.args.bytes.now.items c.loop-i.bytes.items c.intervals.ensures.valid (omega (arith, c.criteria_count-i-end.ensures, c.loop-i-test.false)) c.loop-i.invariant
    ∙ ap (λ z. c.args.bytes.now.items ++ values_word c.args.model.now z) same
