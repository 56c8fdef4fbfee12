-- Arcs, walks along them, and closed walks of positive weight.
use Rattle.std.specs.Prelude.{◌≡◌, ℕ, ◌<◌, ◌≤◌, ℤ, pos, ◌+ℤ◌, ◌≤ℤ◌, ◌<ℤ◌, Bool, true, false, ◌&&◌, List, [], ◌∷◌, map, get_or, length, nat_eq, nat_lt}
use Rattle.std.specs.List.{list_all}
use Rattle.refute_basic.specs.declared.edge.Arc.{Arc}

abbrev pub no_arc : Arc
no_arc = record { tail = 0; weight = pos 0; head = 0 }

abbrev pub arc_at : List Arc → ℕ → Arc
arc_at arcs i = get_or arcs i no_arc

-- the arcs with these numbers
abbrev pub picked : List Arc → List ℕ → List Arc
picked arcs is = map (arc_at arcs) is

-- the arcs lead from one point to the other
abbrev pub leads : ℕ → List Arc → ℕ → Bool
leads from [] to = nat_eq from to
leads from (a ∷ bs) to = nat_eq from a.tail && leads a.head bs to

abbrev pub is_closed : List Arc → Bool
is_closed [] = false
is_closed (a ∷ bs) = leads a.head bs a.tail

abbrev pub total : List Arc → ℤ
total [] = pos 0
total (a ∷ bs) = a.weight +ℤ total bs

-- each number is that of an arc
abbrev pub are_places : List Arc → List ℕ → Bool
are_places arcs is = list_all (λ i. nat_lt i (length arcs)) is

-- these arcs are a closed walk of positive weight, and they are at most so many
pub record IsGain (arcs : List Arc) (most : ℕ) (is : List ℕ) : Type 0 where
  pub places : are_places arcs is ≡ true
  pub closed : is_closed (picked arcs is) ≡ true
  pub positive : pos 0 <ℤ total (picked arcs is)
  pub few : length is ≤ most

-- heights of the points such that each arc loses its weight at least
pub record HasHeights (arcs : List Arc) : Type 0 where
  pub height : ℕ → ℤ
  pub keeps : (i : ℕ) → i < length arcs → ((arc_at arcs i).weight +ℤ height (arc_at arcs i).head) ≤ℤ height (arc_at arcs i).tail
