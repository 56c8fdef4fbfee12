-- What is printed of a log that is whole, or was cut.
use Rattle.std.specs.Prelude.{ℕ, ℤ, Bool, true, false, [], ◌∷◌, ◌++◌, codes, flat_map, Option, Some, None}
use Rattle.std.specs.Fmt.{decimal}
use Rattle.sched_model.specs.Data.{Data}
use Rattle.textline.specs.Lines.{Bytes, line}
use Rattle.sched_text.specs.Answers.{answer_text, values_word, nodes_line, end_line}
use Rattle.last_plan.specs.declared.counts.Counts.{Counts}
use Rattle.last_plan.specs.declared.counts.FoundAt.{FoundAt}
use Rattle.last_plan.specs.declared.plans.Plan.{Plan}

abbrev pub depth_line : ℕ → Bytes
depth_line n = line (codes "depth" ∷ decimal n ∷ [])

-- how many lines begin with this word
abbrev pub kind_line : Bytes → ℕ → Bytes
kind_line word n = line (codes "lines" ∷ word ∷ decimal n ∷ [])

abbrev pub lines_lines : Counts → Bytes
lines_lines c = kind_line (codes "d") c.derived ++ kind_line (codes "f") c.failed ++ kind_line (codes "s") c.split ++ kind_line (codes "v") c.solved ++ kind_line (codes "restart") c.restarted

abbrev pub value_word : Data → Option ℤ → Bytes
value_word m None = codes "none"
value_word m (Some v) = values_word m v

-- a solution: by how many nodes, and its value
abbrev pub found_line : Data → FoundAt → Bytes
found_line m f = line (codes "found" ∷ decimal f.nodes ∷ value_word m f.value ∷ [])

abbrev pub count_text : Data → Plan → Bytes
count_text m p = nodes_line p.solved.nodes ++ depth_line p.counts.depth ++ lines_lines p.counts ++ flat_map (found_line m) p.counts.found ++ end_line

-- what `solve` prints of this answer, or the counts
abbrev pub plan_text : Bool → Data → Plan → Bytes
plan_text false m p = answer_text m p.solved
plan_text true m p = count_text m p
