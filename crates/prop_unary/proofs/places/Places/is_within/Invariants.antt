use Rattle.std.proofs.Common.{◌≡◌, ◌<◌, ℕ, true, get_or}
use Rattle.prop_unary.specs.code.Rows.{has_word}
use Rattle.prop_unary.proofs.places.Places.is_within.Given as goal

abbrev pub invariant-loop-w : goal.invariant-loop-w
invariant-loop-w l = l.is_within ≡ true → (i : ℕ) → i < l.w → (b : ℕ) → has_word (get_or l.self.words i 0) b ≡ true → has_word (get_or l.other.words i 0) b ≡ true
