-- Marks of constraints, one for each constraint of a model.
use Rattle.std.specs.Prelude.{ℕ, ◌+◌, Bool, true, false, List, [], ◌∷◌, slice_set, nat_eq}
use Rattle.std.specs.List.{list_any}
use Rattle.sched_base.specs.declared.ids.Con.{Con}
use Rattle.region.specs.Looks.{con}

-- the marks after these constraints were named; a number beyond the marks changes nothing
abbrev pub marked : List Con → List Bool → List Bool
marked [] bs = bs
marked (c ∷ cs) bs = marked cs (slice_set bs c.0 true)

-- the id stands in a list
abbrev pub is_among : List Con → ℕ → Bool
is_among cs c = list_any (λ (d : Con). nat_eq d.0 c) cs

-- the constraints that are marked, the first mark being that of constraint k
abbrev pub listed_from : ℕ → List Bool → List Con
listed_from k [] = []
listed_from k (true ∷ bs) = con k ∷ listed_from (k + 1) bs
listed_from k (false ∷ bs) = listed_from (k + 1) bs
