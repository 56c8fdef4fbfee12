use Rattle.std.proofs.Common.{◌≡◌, ◌∙◌, subst}
use Rattle.cpo_elab.specs.Answers.Answer.{Accepted}
use Rattle.cpo_elab.specs.Deserves.{Deserves}
use Rattle.commands.specs.Runs.{shop_text}
use Rattle.commands.proofs.generating.generated_model.Goals as goal

pub returns : goal.returns
returns c =
    let is : c.as_slice.result.now ≡ shop_text c.args.shop = c.as_slice.ensures.value ∙ c.in_ok-text.ensures in
    subst (λ t. Deserves t (Accepted c.in_ok-model.model)) is c.in_ok-model.ensures
