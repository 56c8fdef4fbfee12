use Rattle.std.specs.Prelude.{[]}
use Rattle.std.proofs.Common.{◌∙◌}
use Rattle.std.proofs.lemmas.List.{append-nil}
use Rattle.refute_seq.specs.Witness.{set_numbers}
use Rattle.refute_seq.proofs.KindReading.{none_of}
use Rattle.refute_seq.proofs.set_numbers.only_set.Goals as goal

pub returns-in_default-clause-none : goal.returns-in_default-clause-none
returns-in_default-clause-none c = λ s set same. none_of c.in_ok-set.field-0 c.in_default.is c.in_ok-set.ensures.none s [] set (append-nil (set_numbers s) ∙ same)
