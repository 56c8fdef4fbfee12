-- A node is told by its parts.
use Rattle.std.proofs.Common.{◌≡◌, ℤ, Option, refl}
use Rattle.thetatree.specs.declared.node.Best.{Best}
use Rattle.thetatree.specs.declared.node.Node.{Node}

abbrev pub node_of : ℤ → Option ℤ → Best → Option Best → Node
node_of s z g b = record { sum = s; ect = z; gray_sum = g; gray_ect = b }

pub made : (s s' : ℤ) (z z' : Option ℤ) (g g' : Best) (b b' : Option Best) → s ≡ s' → z ≡ z' → g ≡ g' → b ≡ b' → node_of s z g b ≡ node_of s' z' g' b'
made s s' z z' g g' b b' sum ect gray_sum gray_ect = rw (sum, ect, gray_sum, gray_ect) refl
