use Rattle.std.proofs.Common.{◌≡◌, ◌<◌, ◌&&◌, ℕ, false, get_or, Some}
use Rattle.region.specs.declared.types.Guess.TheVariants.{Present}
use Rattle.region.specs.Cells.{bounds_of}
use Rattle.region.specs.Guesses.{admits}
use Rattle.findings.specs.laws.EndGuesses.{end_guesses}
use Rattle.findings.proofs.searching.refuted_on.Given as goal

abbrev pub invariant-loop-g : goal.invariant-loop-g
invariant-loop-g g l = record {
  items : l.g-items ≡ end_guesses (bounds_of l.region.region l.fn.x) l.fn.x;
  before : (i : ℕ) → i < l.g-index → (admits l.region.region (get_or l.g-items i (Present l.fn.x)) && g.T.GuessTest.refuting l.test (Some (get_or l.g-items i (Present l.fn.x)))) ≡ false;
}
