use Rattle.generated_models.proofs.shop.ShopWritten.{shops_are_written}
use Rattle.generated_models.proofs.laws.shops_are_written.Goals as goal

pub returns : goal.returns
returns c = shops_are_written
