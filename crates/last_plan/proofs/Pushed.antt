-- Lines put one behind the other.
use Rattle.std.proofs.Common.{◌≡◌, ◌++◌, append_assoc}
use Rattle.textline.specs.Lines.{Bytes}

pub five : (v0 v1 v2 v3 v4 v5 a b c d e : Bytes) → v1 ≡ v0 ++ a → v2 ≡ v1 ++ b → v3 ≡ v2 ++ c → v4 ≡ v3 ++ d → v5 ≡ v4 ++ e → v5 ≡ v0 ++ (a ++ b ++ c ++ d ++ e)
five v0 v1 v2 v3 v4 v5 a b c d e first second third fourth last = rw (last, fourth, third, second, first) (simp append_assoc)
