use Rattle.std.proofs.Common.{◌≡◌, ◌<◌, ℤ, refl, codes, length, pos, ◌∙◌, ap, arith, rules, to_z, of_z, SFits, w64}
use Rattle.std.specs.Fmt.{signed_decimal}
use Rattle.std.proofs.lemmas.Int.{to_z-of_z}
use Rattle.sched_model.specs.Rank.{unranked_in}
use Rattle.sched_text.specs.Answers.{values_word}
use Rattle.sched_text.specs.laws.Values.{values_counted}
use Rattle.sched_text.proofs.Printing.{none_yet, «as»}
use Rattle.sched_text.proofs.Lists.{item_more, items_end, index_is}
use Rattle.sched_text.proofs.answers.put_values.Goals as goal

pub loop-i-init : goal.loop-i-init
loop-i-init g c = none_yet refl

pub loop-i-preserved : goal.loop-i-preserved
loop-i-preserved g c =
    let v : ℤ = to_z w64 (of_z w64 c.args.v) in
    let fits : SFits w64 c.unrank.result = search rules in
    let count = values_counted c.args.model.now v c.intervals.ensures.valid in
    let within : c.loop-i.i < length (unranked_in c.args.model.now v) = omega (arith, count, c.criteria_count-i-end.ensures, c.loop-i-test.true) in
    item_more signed_decimal (codes ",") (unranked_in c.args.model.now v) c.loop-i.i _ (pos 0) c.loop-i.is_first within (c.unrank.ensures ∙ index_is (unranked_in c.args.model.now v) c.loop-i.i (pos 0)) c.loop-i.invariant c.put_comma.ensures (simp to_z-of_z at c.put_number.ensures)

pub returns : goal.returns
returns g c =
    let v : ℤ = to_z w64 (of_z w64 c.args.v) in
    let fits : SFits w64 c.args.v = c.ranges.v in
    let same : v ≡ c.args.v = simp to_z-of_z in
    let count = values_counted c.args.model.now v c.intervals.ensures.valid in
    «as» (items_end signed_decimal (codes ",") (unranked_in c.args.model.now v) c.loop-i.i c.loop-i.is_first (omega (arith, count, c.criteria_count-i-end.ensures, c.loop-i-test.false)) c.loop-i.invariant) (ap (values_word c.args.model.now) same)
