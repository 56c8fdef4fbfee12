-- What `verify` prints: lines of words, each line ended by a line feed.
use Rattle.std.specs.Prelude.{ℤ, List, [], ◌∷◌, ◌++◌, codes, Option, Some, None, option_map}
use Rattle.sched_model.specs.declared.types.Assignment.{Assignment}
use Rattle.sched_model.specs.Data.{Data}
use Rattle.sched_model.specs.Rank.{values_of}
use Rattle.textline.specs.Lines.{Bytes, line}
use Rattle.sched_text.specs.Answers.{numbers_word, end_line}

-- the values of the criteria of the objective, where there is one
abbrev pub value_line : Option (List ℤ) → Bytes
value_line None = []
value_line (Some vs) = line (codes "value" ∷ numbers_word vs ∷ [])

-- that a schedule is a solution, its values, and the end
abbrev pub valid_text : Option (List ℤ) → Bytes
valid_text values = line (codes "valid" ∷ []) ++ (value_line values ++ end_line)

-- of a schedule of this model
abbrev pub verify_text : Data → Assignment → Bytes
verify_text m a = valid_text (option_map (values_of a) m.objective)
