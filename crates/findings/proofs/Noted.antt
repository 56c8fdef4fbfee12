-- The numbers of an interval, one after the other.
use Rattle.std.specs.Prelude.{◌≡◌, ℤ, ◌+ℤ◌, ◌-ℤ◌}
use Rattle.std.specs.Int.{int_max, int_min}
use Rattle.std.proofs.Common.{refl, ◌∙◌}
use Rattle.region.specs.declared.types.Bounds.{Bounds}
use Rattle.region.specs.Looks.{ect_in, lst_in}
use Rattle.findings.specs.code.Numbers.{ends_of, highest_end, lowest_start}

pub highest_end_is : (c : Bounds) (e s h : ℤ) → e ≡ int_max c.emin c.emax → s ≡ int_max c.smin c.smax → h ≡ int_max e (s +ℤ c.pmin) → h ≡ highest_end c
highest_end_is c e s h first second is = is ∙ rw (first, second) refl

pub lowest_start_is : (c : Bounds) (e s h : ℤ) → e ≡ int_min c.emin c.emax → s ≡ int_min c.smin c.smax → h ≡ int_min s (e -ℤ c.pmin) → h ≡ lowest_start c
lowest_start_is c e s h first second is = is ∙ rw (first, second) refl

pub ends_are : (c : Bounds) (e l h s : ℤ) → e ≡ ect_in c → l ≡ lst_in c → h ≡ highest_end c → s ≡ lowest_start c → record { presence = c.presence; ect = e; lst = l; highest_end = h; lowest_start = s } ≡ ends_of c
ends_are c e l h s first second third fourth = rw (first, second, third, fourth) refl
