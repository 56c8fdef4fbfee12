-- The model that a generated text describes, and the statements in which it does.
use Rattle.std.specs.Prelude.{ℕ, ◌+◌, ◌-◌, ◌*◌, ◌%◌, ◌^◌, pos, false, List, [], ◌∷◌, ◌++◌, map, Some, None}
use Rattle.std.specs.List.{flat_map, range_with_len}
use Rattle.sched_base.specs.declared.ids.Itv.{Itv}
use Rattle.sched_model.specs.Data.{Data, horizon}
use Rattle.sched_model.specs.declared.types.IntervalDef.{IntervalDef}
use Rattle.sched_model.specs.declared.types.SequenceDef.{SequenceDef}
use Rattle.sched_model.specs.declared.types.End.TheVariants as point
use Rattle.sched_model.specs.declared.types.Expr.{Expr, roll-Expr}
use Rattle.sched_model.specs.declared.types.Expr.TheOpen.{Expr-F as expr}
use Rattle.sched_model.specs.declared.types.Constraint.{Constraint}
use Rattle.sched_model.specs.declared.types.Constraint.TheVariants as constraint
use Rattle.sched_model.specs.declared.types.Sense.TheVariants as aimed
use Rattle.cpo_text.specs.declared.expression.Measure.TheVariants as measure
use Rattle.cpo_text.specs.declared.expression.Gather.TheVariants as gather
use Rattle.cpo_text.specs.declared.expression.Logic.{Logic, roll-Logic}
use Rattle.cpo_text.specs.declared.expression.Logic.TheOpen.{Logic-F as logic}
use Rattle.cpo_text.specs.declared.tree.Ivarg.TheVariants as ivarg
use Rattle.cpo_text.specs.declared.tree.Definition.TheVariants as definition
use Rattle.cpo_text.specs.declared.tree.Temporal.TheVariants as temporal
use Rattle.cpo_text.specs.declared.tree.Over.TheVariants as over
use Rattle.cpo_text.specs.declared.tree.Constrained.TheVariants as constrained
use Rattle.cpo_text.specs.declared.tree.Sense.TheVariants as sense
use Rattle.cpo_text.specs.declared.tree.Statement.{Statement}
use Rattle.cpo_text.specs.declared.tree.Statement.TheVariants.{Define, Constrain, Aim}
use Rattle.modelgen.specs.Draws.{draw}
use Rattle.modelgen.specs.Generated.{name, operations_on}
use Rattle.read_back.specs.Trees.{int_tree}

-- the same for each job in order
abbrev pub by_jobs : {X : Type 0} → ℕ → (ℕ → List X) → List X
by_jobs jobs f = flat_map f (range_with_len 0 jobs)

-- ---- the model

-- operations have their ids job by job
abbrev pub operation : ℕ → ℕ → ℕ → Itv
operation machines j k = record { 0 = j * machines + k }

abbrev pub interval : ℕ → ℕ → ℕ → ℕ → IntervalDef
interval x machines j k = let size = pos (draw x (j * machines + k)) in
    record { name = name j k; optional = false; start_lo = pos 0; start_hi = horizon; end_lo = pos 0; end_hi = horizon; size_lo = size; size_hi = size }

abbrev pub sequence : ℕ → ℕ → ℕ → SequenceDef
sequence jobs machines q = record { name = None; members = by_jobs jobs (λ j. map (operation machines j) (operations_on machines q j)); types = None }

-- each operation of a job behind the one before it
abbrev pub order : ℕ → ℕ → ℕ → Constraint
order machines j k = constraint.Temporal point.Finish point.Start false (operation machines j (k - 1)) (operation machines j k) (pos 0)

abbrev pub last_end : ℕ → ℕ → Expr
last_end machines j = roll-Expr (expr.EndOf (operation machines j (machines - 1)) (pos 0))

abbrev pub shop_model : ℕ → ℕ → ℕ → Data
shop_model seed jobs machines = record {
  intervals = by_jobs jobs (λ j. map (interval (seed % 2 ^ 31) machines j) (range_with_len 0 machines));
  matrices = [];
  sequences = map (sequence jobs machines) (range_with_len 0 machines);
  cumuls = [];
  states = [];
  constraints = by_jobs jobs (λ j. map (order machines j) (range_with_len 1 (machines - 1))) ++ map (λ q. constraint.NoOverlap (record { 0 = q }) None false) (range_with_len 0 machines);
  objective = Some (record { sense = aimed.Minimize; expr = roll-Expr (expr.Max (map (last_end machines) (range_with_len 0 jobs))); criteria = [] });
}

-- ---- its statements, as the generated text has them: a size that is one number, and no numbers that may be left out

abbrev pub interval_statement : ℕ → ℕ → ℕ → ℕ → Statement
interval_statement x machines j k = Define (name j k) (definition.IntervalVar (ivarg.Size (record { from = int_tree (pos (draw x (j * machines + k))); to = None }) ∷ []))

abbrev pub order_statement : ℕ → ℕ → Statement
order_statement j k = Constrain (constrained.Between temporal.EndBeforeStart (name j (k - 1)) (name j k) None)

abbrev pub machine_statement : ℕ → ℕ → ℕ → Statement
machine_statement jobs machines q = Constrain (constrained.NoOverlap (over.Listed (by_jobs jobs (λ j. map (name j) (operations_on machines q j)))) None)

abbrev pub end_tree : ℕ → ℕ → Logic
end_tree machines j = roll-Logic (logic.Measured measure.EndOf (name j (machines - 1)) None)

abbrev pub objective_statement : ℕ → ℕ → Statement
objective_statement jobs machines = Aim sense.Minimize (roll-Logic (logic.Gathered gather.Max (map (end_tree machines) (range_with_len 0 jobs))))

abbrev pub shop_statements : ℕ → ℕ → ℕ → List Statement
shop_statements seed jobs machines =
    by_jobs jobs (λ j. map (interval_statement (seed % 2 ^ 31) machines j) (range_with_len 0 machines))
    ++ by_jobs jobs (λ j. map (order_statement j) (range_with_len 1 (machines - 1)))
    ++ map (machine_statement jobs machines) (range_with_len 0 machines)
    ++ objective_statement jobs machines ∷ []
