-- What is printed: the refusal, where its statement stands, the statement, and where it goes wrong.
use Rattle.std.specs.Prelude.{ℕ, ◌-◌, ◌+◌, [], ◌∷◌, ◌++◌, codes, take, drop, Option, Some, None}
use Rattle.std.specs.Fmt.{decimal}
use Rattle.cpo_text.specs.declared.text.Refusal.{Refusal}
use Rattle.textline.specs.Lines.{Bytes, line}
use Rattle.sched_text.specs.Answers.{end_line}
use Rattle.given_files.specs.declared.stop.ScheduleRefusal.{ScheduleRefusal}
use Rattle.given_files.specs.Told.{refusal_line, unfit_line}
use Rattle.reasons.specs.declared.words.Word.{Word}
use Rattle.reasons.specs.declared.sought.Part.{Part}
use Rattle.reasons.specs.Explained.{line_of, column_of, statement_text}

abbrev pub place_line : Bytes → ℕ → Bytes
place_line text at = line (codes "line" ∷ decimal (line_of text at) ∷ codes "column" ∷ decimal (column_of text at) ∷ [])

-- the place of a statement, and the statement as it stands
abbrev pub statement_lines : Bytes → ℕ → Bytes
statement_lines text at = place_line text at ++ statement_text (drop at text) ++ 10 ∷ []

-- the word of a statement that begins there, and its place
abbrev pub word_lines : Bytes → ℕ → Option Word → Bytes
word_lines text at None = []
word_lines text at (Some w) = codes "stuck at " ++ take (w.to - w.from) (drop w.from (drop at text)) ++ 10 ∷ [] ++ place_line text (at + w.from)

abbrev pub model_text : Bytes → Refusal → Option Word → Bytes
model_text text r stuck = refusal_line r ++ statement_lines text r.at ++ word_lines text r.at stuck ++ end_line

abbrev pub part_lines : Bytes → Option Part → Bytes
part_lines text None = []
part_lines text (Some part) = statement_lines text part.from

abbrev pub schedule_text : Bytes → ScheduleRefusal → Option Part → Bytes
schedule_text text r part = unfit_line r ++ part_lines text part ++ end_line

-- nothing is refused
abbrev pub right_text : Bytes
right_text = line (codes "right" ∷ []) ++ end_line
