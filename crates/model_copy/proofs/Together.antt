-- The copied things, put together.
use Rattle.std.specs.Prelude.{◌≡◌, List, None, filter_map, slice_get}
use Rattle.std.proofs.Common.{refl, subst}
use Rattle.sched_base.specs.declared.ids.Con.{Con}
use Rattle.sched_model.specs.declared.types.Assignment.{Assignment}
use Rattle.sched_model.specs.declared.types.IntervalDef.{IntervalDef}
use Rattle.sched_model.specs.declared.types.MatrixDef.{MatrixDef}
use Rattle.sched_model.specs.declared.types.SequenceDef.{SequenceDef}
use Rattle.sched_model.specs.declared.types.CumulDef.{CumulDef}
use Rattle.sched_model.specs.declared.types.StateDef.{StateDef}
use Rattle.sched_model.specs.declared.types.Constraint.{Constraint}
use Rattle.sched_model.specs.Data.{Data}
use Rattle.sched_model.specs.Solution.{IsSolution, Meets}
use Rattle.model_copy.specs.code.Reduced.{reduced}
use Rattle.model_copy.specs.laws.Valid.{reduced_meets}

-- they are the reduced model
pub put_together : (m : Data) (keep : List Con) (is : List IntervalDef) (ms : List MatrixDef) (ps : List SequenceDef) (fs : List CumulDef) (gs : List StateDef) (cs : List Constraint)
    → is ≡ m.intervals → ms ≡ m.matrices → ps ≡ m.sequences → fs ≡ m.cumuls → gs ≡ m.states → cs ≡ filter_map (λ c. slice_get m.constraints c.0) keep
    → ◌≡◌ {A = Data} (record { intervals = is; matrices = ms; sequences = ps; cumuls = fs; states = gs; constraints = cs; objective = None }) (reduced m keep)
put_together m keep is ms ps fs gs cs h1 h2 h3 h4 h5 h6 = rw (h1, h2, h3, h4, h5, h6) refl

-- so a solution of what is so is one that meets the constraints kept
pub meets_kept : (m r : Data) (keep : List Con) → r ≡ reduced m keep → (a : Assignment) → IsSolution r a → Meets m keep a
meets_kept m r keep is a solution = reduced_meets m keep a (subst (λ d. IsSolution d a) is solution)
