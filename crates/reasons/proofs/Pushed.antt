-- Pieces put one behind the other.
use Rattle.std.proofs.Common.{◌≡◌, ◌++◌, append_assoc}
use Rattle.textline.specs.Lines.{Bytes}

pub seven : (v0 v1 v2 v3 v4 a x b y c z e : Bytes) → v1 ≡ v0 ++ (a ++ x) → v2 ≡ v1 ++ (b ++ y) → v3 ≡ v2 ++ (c ++ z) → v4 ≡ v3 ++ e → v4 ≡ v0 ++ (a ++ (x ++ (b ++ (y ++ (c ++ (z ++ e))))))
seven v0 v1 v2 v3 v4 a x b y c z e first second third last = rw (last, third, second, first) (simp append_assoc)
