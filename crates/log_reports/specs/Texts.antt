-- What is printed of a log: lines of words, each ended by a line feed.
use Rattle.std.specs.Prelude.{ℕ, ℤ, List, [], ◌∷◌, ◌++◌, codes, length, flat_map, Option, Some, None}
use Rattle.std.specs.Fmt.{decimal}
use Rattle.sched_base.specs.declared.ids.Con.{Con}
use Rattle.sched_model.specs.Data.{Data}
use Rattle.textline.specs.Lines.{Bytes, line}
use Rattle.sched_text.specs.Answers.{values_word, nodes_line, end_line}
use Rattle.bound_report.specs.declared.bounding.Bounded.{Bounded}

-- a value of the objective, told by those of its criteria, or that there is none
abbrev pub value_word : Data → Option ℤ → Bytes
value_word m None = codes "none"
value_word m (Some v) = values_word m v

abbrev pub bound_line : Data → Option ℤ → Bytes
bound_line m bound = line (codes "bound" ∷ value_word m bound ∷ [])

abbrev pub best_line : Data → Option ℤ → Bytes
best_line m best = line (codes "best" ∷ value_word m best ∷ [])

-- what no solution is better than, the value of the solution found last, the count of nodes, and the end
abbrev pub bound_text : Data → Bounded → Bytes
bound_text m b = bound_line m b.bound ++ best_line m b.best ++ nodes_line b.nodes ++ end_line

abbrev pub count_line : ℕ → Bytes
count_line n = line (codes "core" ∷ decimal n ∷ [])

abbrev pub constraint_line : Con → Bytes
constraint_line c = line (codes "constraint" ∷ decimal c.0 ∷ [])

-- how many constraints, each by its number, and the end; or that the log shows something else than that there is no solution
abbrev pub core_text : Option (List Con) → Bytes
core_text None = line (codes "core" ∷ codes "none" ∷ []) ++ end_line
core_text (Some cs) = count_line (length cs) ++ flat_map constraint_line cs ++ end_line
