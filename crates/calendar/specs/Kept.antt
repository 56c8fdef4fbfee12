-- The sentences of calendars: that an interval keeps to a step function.
use Rattle.std.specs.Prelude.{◌≡◌, ℤ, pos, ◌≤ℤ◌, ◌<ℤ◌, true, List}
use Rattle.sched_base.specs.declared.ids.Itv.{Itv}
use Rattle.sched_model.specs.declared.types.Assignment.{Assignment}
use Rattle.sched_model.specs.Value.{is_present, start_of, end_of}
use Rattle.calendar.specs.declared.step.Pair.{Pair}
use Rattle.calendar.specs.declared.rules.Demand.{Demand}
use Rattle.calendar.specs.declared.rules.Demand.TheVariants.{Start, Extent}
use Rattle.calendar.specs.Steps.{value_at}

-- where the interval is present, it starts where the function isn't 0
abbrev pub KeepsStart : Assignment → Itv → List Pair → Type 0
KeepsStart a x ps = is_present a x ≡ true → value_at ps (start_of a x) ≡ pos 0 → ⊥

-- where it is present and isn't empty, the function isn't 0 as long as it lasts
abbrev pub KeepsExtent : Assignment → Itv → List Pair → Type 0
KeepsExtent a x ps = is_present a x ≡ true → (start_of a x ≡ end_of a x → ⊥) → (t : ℤ) → start_of a x ≤ℤ t → t <ℤ end_of a x → value_at ps t ≡ pos 0 → ⊥

-- by what is asked
abbrev pub Keeps : Assignment → Demand → Itv → List Pair → Type 0
Keeps a Start x ps = KeepsStart a x ps
Keeps a Extent x ps = KeepsExtent a x ps
