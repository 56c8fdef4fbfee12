use Rattle.generated_models.proofs.deserving.Judged.{shops_are_judged}
use Rattle.generated_models.proofs.laws.shops_are_judged.Goals as goal

pub returns : goal.returns
returns c = shops_are_judged
