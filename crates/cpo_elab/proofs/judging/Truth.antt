-- Three tests joined, and tests that pass alike.
use Rattle.std.proofs.Common.{◌≡◌, Bool, true, false, not, refl}

pub not_true : (p : Bool) → not p ≡ false → p ≡ true
not_true true h = refl
not_true false h = cc
