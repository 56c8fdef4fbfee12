-- How many lines a run may put still.
use Rattle.std.specs.Prelude.{◌≡◌, ℕ, ◌<◌}
use Rattle.std.proofs.Common.{◌∙◌, arith}
use Rattle.sched_model.specs.Data.{Data}
use Rattle.region.specs.Cells.{Region}
use Rattle.region.specs.Looks.{IsRegionOf}
use Rattle.engine.specs.Runs.{cap_at}
use Rattle.engine.specs.laws.Caps.{same_cap}

pub few_lines : (m : Data) (r q : Region) (n most : ℕ) → IsRegionOf m r → IsRegionOf m q → most ≡ cap_at r → n < most → n < cap_at q
few_lines m r q n most of also is less = omega (arith, same_cap m r q of also, is, less)

pub all_lines : (m : Data) (r q : Region) (n most : ℕ) → IsRegionOf m r → IsRegionOf m q → most ≡ cap_at r → n ≡ most → n ≡ cap_at q
all_lines m r q n most of also is all = all ∙ is ∙ same_cap m r q of also
