-- The open regions stay those of the model while they are gone through.
use Rattle.std.specs.Prelude.{List, [], ◌∷◌, ◌++◌, Option, Some, None, option_to_list, All}
use Rattle.std.proofs.lemmas.List.Elements.{All-nil, All-tail}
use Rattle.sched_model.specs.Data.{Data}
use Rattle.region.specs.Cells.{Region}
use Rattle.region.specs.Looks.{IsRegionOf}
use Rattle.kernel.specs.code.Open.{OpenRegions, AreOpenOf, next_of, rest_of, advanced}

behind_of : (P : Region → Type 0) (front : Option Region) (behind : List Region) → All P (option_to_list front ++ behind) → All P (option_to_list (next_of behind) ++ rest_of behind)
behind_of P front [] each = All-nil P
behind_of P None (r ∷ rs) each = each
behind_of P (Some q) (r ∷ rs) each = All-tail P q (r ∷ rs) each

pub advanced_of : (m : Data) (o : OpenRegions) → AreOpenOf m o → AreOpenOf m (advanced o)
advanced_of m o each = behind_of (IsRegionOf m) o.front o.behind each
