-- Cumulative expressions: the words of each.
use Rattle.std.specs.Prelude.{List, [], ◌∷◌, ◌++◌, codes, if◌then◌else◌}
use Rattle.cpo_text.specs.Words.{Word, call}
use Rattle.cpo_text.specs.Words.Word.{sign}
use Rattle.cpo_text.specs.Parts.{minus_words, int_words, name_words}
use Rattle.cpo_text.specs.declared.cumul.Cpart.{Cpart}
use Rattle.cpo_text.specs.declared.cumul.Cpart.TheVariants.{Named, Pulse, PulseOf, Step, StepAtStart, StepAtEnd}
use Rattle.cpo_text.specs.declared.cumul.Signed.{Signed}
use Rattle.cpo_text.specs.declared.cumul.Cumul.{Cumul}

abbrev pub cpart_words : Cpart → List Word
cpart_words (Named f) = name_words f
cpart_words (Pulse u v h) = call (codes "pulse") (int_words u ∷ int_words v ∷ int_words h ∷ [])
cpart_words (PulseOf a h) = call (codes "pulse") (name_words a ∷ int_words h ∷ [])
cpart_words (Step u h) = call (codes "step") (int_words u ∷ int_words h ∷ [])
cpart_words (StepAtStart a h) = call (codes "stepAtStart") (name_words a ∷ int_words h ∷ [])
cpart_words (StepAtEnd a h) = call (codes "stepAtEnd") (name_words a ∷ int_words h ∷ [])

-- the parts after the first, each behind its sign
abbrev pub more_words : List Signed → List Word
more_words [] = []
more_words (s ∷ ss) = sign (if s.minus then codes "-" else codes "+") ∷ cpart_words s.part ++ more_words ss

abbrev pub cumul_words : Cumul → List Word
cumul_words c = minus_words c.first.minus ++ (cpart_words c.first.part ++ more_words c.more)
