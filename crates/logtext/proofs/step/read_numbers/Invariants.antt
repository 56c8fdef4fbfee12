use Rattle.std.proofs.Common.{◌≡◌, ◌++◌, ℤ, List, length, map, true}
use Rattle.std.specs.Fmt.{signed_decimal}
use Rattle.std.specs.List.{list_all}
use Rattle.sched_model.specs.Valid.{is_small}
use Rattle.logtext.proofs.step.read_numbers.Given as goal

abbrev pub invariant-loop-words : goal.invariant-loop-words
invariant-loop-words l = (zs : List ℤ) × (list_all is_small zs ≡ true) × (l.numbers.items ≡ l.initial.numbers.items ++ zs) × (l.fn.words ≡ map signed_decimal zs ++ l.words)

abbrev pub decreases-loop-words : goal.decreases-loop-words
decreases-loop-words l = length l.words
