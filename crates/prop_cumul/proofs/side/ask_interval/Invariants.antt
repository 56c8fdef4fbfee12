use Rattle.std.proofs.Common.{◌≡◌, ◌<◌, ℕ, get_or}
use Rattle.region.specs.declared.types.Guess.TheVariants.{Present}
use Rattle.region.specs.Cells.{bounds_of}
use Rattle.prop_cumul.specs.code.Asking.{IsQuietUnder}
use Rattle.findings.specs.laws.EndGuesses.{end_guesses}
use Rattle.prop_cumul.proofs.side.ask_interval.Given as goal

abbrev pub invariant-loop-g : goal.invariant-loop-g
invariant-loop-g l = record {
  items : l.g-items ≡ end_guesses (bounds_of l.at.region.now.region l.x) l.x;
  before : (i : ℕ) → i < l.g-index → IsQuietUnder l.at.model.now l.at.region.now.region l.at.bound l.at.below (get_or l.g-items i (Present l.x));
}
