use Rattle.generated_models.proofs.text.ShopSaid.{shops_are_said}
use Rattle.generated_models.proofs.laws.shops_are_said.Goals as goal

pub returns : goal.returns
returns c = shops_are_said
