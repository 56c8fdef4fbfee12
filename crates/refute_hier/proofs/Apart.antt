-- The ends of two ranges by calls.
use Rattle.std.specs.Prelude.{◌≡◌, ℤ, Bool}
use Rattle.std.proofs.Common.{ap, ◌∙◌}
use Rattle.region.specs.declared.types.Bounds.{Bounds}
use Rattle.region.specs.Looks.{lst_in, ect_in}
use Rattle.refute_hier.specs.Parts.{are_apart, have_starts_apart, have_ends_apart}

pub starts_apart : (x y : Bounds) (last other : ℤ) (b : Bool) → b ≡ are_apart x.smin last y.smin other → last ≡ lst_in x → other ≡ lst_in y → b ≡ have_starts_apart x y
starts_apart x y last other b is first second = is ∙ ap (λ z. are_apart x.smin z y.smin other) first ∙ ap (λ z. are_apart x.smin (lst_in x) y.smin z) second

pub ends_apart : (x y : Bounds) (first other : ℤ) (b : Bool) → b ≡ are_apart first x.emax other y.emax → first ≡ ect_in x → other ≡ ect_in y → b ≡ have_ends_apart x y
ends_apart x y first other b is one two = is ∙ ap (λ z. are_apart z x.emax other y.emax) one ∙ ap (λ z. are_apart (ect_in x) x.emax z y.emax) two
