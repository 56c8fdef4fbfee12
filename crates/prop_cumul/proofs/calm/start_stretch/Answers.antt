use Rattle.std.proofs.Common.{◌≡◌, ◌∙◌, false, sym, ap, rules}
use Rattle.prop_cumul.specs.code.Calm.{start_stretch}
use Rattle.prop_cumul.proofs.Calming.{stretch_is}
use Rattle.prop_cumul.proofs.calm.start_stretch.Goals as goal

pub returns : goal.returns
returns c =
    let is : c.args.minus ≡ false = search rules in
    stretch_is _ _ _ _ _ _ _ _ (search rules) (search rules) (search rules) (search rules) ∙ sym (ap (λ b. start_stretch b c.args.c c.args.end) is)
