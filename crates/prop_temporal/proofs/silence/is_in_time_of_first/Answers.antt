use Rattle.std.proofs.Common.{◌≡◌, ◌+ℤ◌, int_le, ap, ◌∙◌, rules}
use Rattle.region.specs.Cells.{says_present}
use Rattle.prop_temporal.specs.code.Silence.{highest_in}
use Rattle.prop_temporal.specs.laws.Silence.{here, gone, not_present}
use Rattle.prop_temporal.proofs.silence.is_in_time_of_first.Goals as goal

pub returns-in-Present : goal.returns-in-Present
returns-in-Present c =
    let at : c.is_at_most.result ≡ int_le (c.highest_in.result +ℤ c.args.z) c.latest_in.result = search rules in
    here (says_present c.args.d.presence) _ c.is_at_most.result (ap says_present c.in-Present.is)
    (at ∙ ap (λ v. int_le (v +ℤ c.args.z) c.latest_in.result) c.highest_in.ensures.value ∙ ap (λ v. int_le (highest_in c.args.from c.args.c +ℤ c.args.z) v) c.latest_in.ensures.value)

pub returns-in_default : goal.returns-in_default
returns-in_default c = gone (says_present c.args.d.presence) _ (not_present c.args.d.presence c.in_default.not-Present)
