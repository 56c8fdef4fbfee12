use Rattle.std.proofs.Common.{◌≡◌, ◌∙◌, true, sym, ap, rules}
use Rattle.prop_cumul.specs.code.Calm.{end_stretch}
use Rattle.prop_cumul.proofs.Calming.{stretch_is}
use Rattle.prop_cumul.proofs.calm.end_stretch.Goals as goal

pub returns-then-minus : goal.returns-then-minus
returns-then-minus c =
    let is : c.args.minus ≡ true = search rules in
    stretch_is _ _ _ _ _ _ _ _ (search rules) (search rules) (search rules) (search rules) ∙ sym (ap (λ b. end_stretch b c.args.c c.args.end) is)
