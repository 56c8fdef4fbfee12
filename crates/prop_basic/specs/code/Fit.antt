-- Bounds that leave SIZE nothing to find.
use Rattle.std.specs.Prelude.{ℤ, ◌-ℤ◌, Bool, ◌&&◌, int_le}
use Rattle.region.specs.declared.types.Bounds.{Bounds}

-- the distance of two moments is a size
abbrev pub is_size : Bounds → ℤ → ℤ → Bool
is_size c start end = int_le c.pmin (end -ℤ start) && int_le (end -ℤ start) c.pmax

-- there are a start and an end
abbrev pub has_moments : Bounds → Bool
has_moments c = int_le c.smin c.smax && int_le c.emin c.emax

-- and the distances of the two earliest moments and of the two latest are sizes
abbrev pub are_fit : Bounds → Bool
are_fit c = has_moments c && is_size c c.smin c.emin && is_size c c.smax c.emax
