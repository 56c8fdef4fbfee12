use Rattle.std.proofs.Common.{◌≡◌, ◌∙◌, false, sym, ap, rules}
use Rattle.prop_cumul.specs.code.Calm.{pulse_stretch}
use Rattle.prop_cumul.proofs.Calming.{stretch_is}
use Rattle.prop_cumul.proofs.calm.pulse_stretch.Goals as goal

pub returns : goal.returns
returns c =
    let is : c.args.minus ≡ false = search rules in
    stretch_is _ _ _ _ _ _ _ _ (search rules) (search rules) (search rules) (search rules) ∙ sym (ap (λ b. pulse_stretch b c.args.c) is)
