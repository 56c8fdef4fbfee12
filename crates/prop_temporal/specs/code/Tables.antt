-- What propagators are made of for a model: the optional intervals, the sequences without overlap, the two intervals of each
-- precedence, and the constraints of each interval.
use Rattle.std.specs.Prelude.{◌≡◌, ℕ, ◌<◌, ◌&&◌, nat_lt, List, [], length, slice_get, slice_index_or}
use Rattle.std.specs.List.{list_any}
use Rattle.sched_base.specs.declared.ids.Itv.{Itv}
use Rattle.sched_base.specs.declared.ids.Seq.{Seq}
use Rattle.sched_model.specs.declared.types.Constraint.{Constraint}
use Rattle.sched_model.specs.declared.types.IntervalDef.{IntervalDef}
use Rattle.sched_model.specs.Data.{Data, has}
use Rattle.refute_basic.specs.laws.Arc.{ends_of}
use Rattle.refute_basic.specs.Standing.{is_no_overlap}
use Rattle.prop_temporal.specs.code.Tasks.{is_optional, has_sequence}
use Rattle.prop_temporal.specs.code.Heights.{AreTouched}

pub record Table : Type 0 where
  pub optionals : List Itv
  pub sequences : List Seq
  pub ends : List (List Itv)
  pub touching : List (List ℕ)

abbrev pub ends_at : List (List Itv) → ℕ → List Itv
ends_at es c = slice_index_or es c []

pub record FitEach (cs : List Constraint) (es : List (List Itv)) : Type 0 where
  pub size : length es ≡ length cs
  pub each : (c : ℕ) → c < length cs → ends_at es c ≡ ends_of (slice_get cs c)

-- of the first intervals the optional ones are listed, and no other
pub record AreOptional (ds : List IntervalDef) (n : ℕ) (xs : List Itv) : Type 0 where
  pub each : (x : Itv) → has xs x ≡ (nat_lt x.0 n && is_optional ds x)

-- the sequences that these constraints keep from overlapping are listed, and no other
pub record AreDisjunctive (cs : List Constraint) (ps : List Seq) : Type 0 where
  pub each : (p : Seq) → has_sequence ps p ≡ list_any (is_no_overlap p) cs

-- they are made for the model
pub record IsFor (t : Table) (m : Data) : Type 0 where
  pub optionals : AreOptional m.intervals (length m.intervals) t.optionals
  pub sequences : AreDisjunctive m.constraints t.sequences
  pub ends : FitEach m.constraints t.ends
  pub touching : AreTouched m t.touching
