-- Which of eight colours a bar has.
use Rattle.std.specs.Prelude.{ℕ, ◌+◌, ◌%◌, ◌==◌, List, [], ◌∷◌, Option, Some, None, if◌then◌else◌, nat_eq, option_and_then, option_map, position, slice_get, unwrap_or}
use Rattle.sched_base.specs.declared.ids.Itv.{Itv}
use Rattle.sched_model.specs.declared.types.Constraint.{Constraint}
use Rattle.sched_model.specs.declared.types.Constraint.TheVariants.{Alternative}
use Rattle.sched_model.specs.declared.types.SequenceDef.{SequenceDef}
use Rattle.sched_model.specs.Data.{Data}
use Rattle.textline.specs.Lines.{Bytes}
use Rattle.svg_page.specs.Lanes.{is_member}

abbrev pub name_at : Data → ℕ → Bytes
name_at m i = unwrap_or (option_map (λ d. d.name) (slice_get m.intervals i)) []

-- the sum of the bytes before the last `_` of a name: names of one job often differ behind it alone
abbrev pub found_at : Option ℕ → ℕ → ℕ → Option ℕ
found_at found total b = if b == 95 then Some total else found

abbrev pub stem_sum : Option ℕ → ℕ → Bytes → Option ℕ
stem_sum found total [] = found
stem_sum found total (b ∷ bs) = stem_sum (found_at found total b) (total + b) bs

-- the interval that an alternative chooses this one for
abbrev pub whole_in : ℕ → Constraint → Option ℕ
whole_in i (Alternative a parts n) = if is_member parts i then Some a.0 else None
whole_in i _ = None

-- that of the first alternative that has it as a part, or else the interval itself
abbrev pub kin : ℕ → List Constraint → ℕ
kin i [] = i
kin i (c ∷ cs) = unwrap_or (whole_in i c) (kin i cs)

-- by the name, or else by the number
abbrev pub shade_of : Bytes → ℕ → ℕ
shade_of name i = unwrap_or (stem_sum None 0 name) i % 8

abbrev pub shade : Data → ℕ → ℕ
shade m i = shade_of (name_at m (kin i m.constraints)) (kin i m.constraints)

-- the type of a member, where the sequence has types
abbrev pub type_of : List Itv → List ℕ → ℕ → Option ℕ
type_of members types i = option_and_then (λ k. slice_get types k) (position (λ x. nat_eq x.0 i) members)

abbrev pub type_in : ℕ → SequenceDef → Option ℕ
type_in i d = option_and_then (λ types. type_of d.members types i) d.types

abbrev pub type_at : Data → ℕ → ℕ → Option ℕ
type_at m p i = option_and_then (type_in i) (slice_get m.sequences p)

-- in the row of a sequence
abbrev pub shade_in : Data → ℕ → ℕ → ℕ
shade_in m p i = unwrap_or (option_map (λ t. t % 8) (type_at m p i)) (shade m i)
