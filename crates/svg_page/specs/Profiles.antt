-- The levels of a cumulative function over time.
use Rattle.std.specs.Prelude.{◌≡◌, ℕ, ℤ, pos, ◌+ℤ◌, Bool, false, if◌then◌else◌, List, [], ◌∷◌, ◌++◌, ⊤, unwrap_or, slice_get}
use Rattle.std.specs.List.Sorted.{IsPermutation}
use Rattle.std.specs.Ordering.{int_eq}
use Rattle.sched_model.specs.declared.types.Assignment.{Assignment}
use Rattle.sched_model.specs.declared.types.Part.{Part}
use Rattle.sched_model.specs.declared.types.CumulDef.{CumulDef}
use Rattle.sched_model.specs.declared.changes.Change.{Change}
use Rattle.sched_model.specs.Changes.{IsInOrder, changes_in, rise}
use Rattle.svg_page.specs.declared.profiles.Step.{Step}

-- the next change comes at this moment too
abbrev pub goes_on : ℤ → List Change → Bool
goes_on t [] = false
goes_on t (c ∷ cs) = int_eq c.t t

-- behind the last change of a moment, the level from then on
abbrev pub step_if : Bool → ℤ → ℤ → List Step
step_if more t level = if more then [] else record { t = t; level = level } ∷ []

-- the steps of a level that was this before the changes
abbrev pub steps : ℤ → List Change → List Step
steps level [] = []
steps level (c ∷ cs) = step_if (goes_on c.t cs) c.t (level +ℤ rise c) ++ steps (level +ℤ rise c) cs

-- these are the steps of the function: by its changes in the order of their moments
pub record IsProfile (a : Assignment) (parts : List Part) (profile : List Step) : Type 0 where
  pub changes : List Change
  pub moved : IsPermutation (changes_in a parts) changes
  pub in_order : IsInOrder changes
  pub stepped : profile ≡ steps (pos 0) changes

-- one for each function
abbrev pub AreProfiles : Assignment → List CumulDef → List (List Step) → Type 0
AreProfiles a [] [] = ⊤
AreProfiles a (d ∷ ds) (p ∷ ps) = IsProfile a d.parts p × AreProfiles a ds ps
AreProfiles a [] (p ∷ ps) = ⊥
AreProfiles a (d ∷ ds) [] = ⊥

abbrev pub profile_at : List (List Step) → ℕ → List Step
profile_at profiles k = unwrap_or (slice_get profiles k) []
