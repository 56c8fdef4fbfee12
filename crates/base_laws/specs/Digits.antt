-- Numbers to several bases, the first digit the heaviest.
use Rattle.std.specs.Prelude.{ℕ, ◌*◌, ◌/◌, ◌%◌, List, [], ◌∷◌}

-- how much the digit before these bases weighs
abbrev pub size_of : List ℕ → ℕ
size_of [] = 1
size_of (w ∷ ws) = w * size_of ws

-- the digits of a number
abbrev pub digits : List ℕ → ℕ → List ℕ
digits [] n = []
digits (w ∷ ws) n = (n / size_of ws) % w ∷ digits ws n
