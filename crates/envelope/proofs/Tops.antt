-- What the top of a tree says of the sets of its places.
use Rattle.std.proofs.Common.{◌≡◌, ℕ, ◌<◌, ◌≤◌, ℤ, ◌≤ℤ◌, Bool, true, false, List, length, get_or, Option, None, Some, IfSome, refl, sym, subst, arith}
use Rattle.std.proofs.lemmas.List.{get_or_read_under}
use Rattle.std.proofs.lemmas.Int.{ints}
use Rattle.envelope.specs.declared.node.Node.{Node}
use Rattle.envelope.specs.code.Bars.{Bars, is_on, reach_of, GivesEnvelope}
use Rattle.envelope.specs.code.Nodes.{no_node}
use Rattle.envelope.specs.code.Trees.{node_at, IsTree}
use Rattle.envelope.proofs.Parts.{IsAtMost, reach_from, Reaches, HoldsPart}
use Rattle.envelope.proofs.Climb.{energy_from, count_is, count_some, top_holds}
use Rattle.envelope.proofs.Sets.{IsWide, ReachesBy, on_there, set_reaches, row_reached}

wide_of : (t : Bars) (width : ℕ) (ns : List Node) → IsTree t width ns → IsWide t width
wide_of t width ns tree = record { capacity = tree.capacity; bars = tree.bars; energies = energy_from t.bars tree.bars; same = tree.same; room = tree.room }

pub width_some : (t : Bars) (width : ℕ) (ns : List Node) → IsTree t width ns → 0 < width
width_some t width ns tree = omega (arith, tree.power.1, count_is tree.power.0, count_some tree.power.0)

-- the bound of a row is the bound of a set
below_row : (t : Bars) (width : ℕ) (z a : ℤ) → ReachesBy t width z → ((j : ℕ) → j < width → is_on t j ≡ true → reach_from t j width ≤ℤ a) → z ≤ℤ a
below_row t width z a ends bound = omega (arith, ints, ends.by, bound ends.first ends.within ends.on)

none_on : (t : Bars) (width : ℕ) → IsWide t width → ((j : ℕ) → j < width → is_on t j ≡ true → ⊥) → (k : ℕ) → is_on t k ≡ false
none_on t width wide none k = switched (is_on t k) refl
  where
    switched : (on : Bool) → is_on t k ≡ on → on ≡ false
    switched false is = refl
    switched true is = absurd (none k (omega (arith, on_there t k is, wide.same, wide.room)) is)

of_part : (t : Bars) (width : ℕ) → IsWide t width → (o : Option ℤ) → IfSome o (Reaches t 0 width)
    → ((j : ℕ) → 0 ≤ j → j < width → is_on t j ≡ true → IsAtMost (reach_from t j width) o) → GivesEnvelope t o
of_part t width wide None reached greatest = none_on t width wide (λ j within on. greatest j (omega arith) within on)
of_part t width wide (Some z) reached greatest =
    let set = row_reached t width wide z reached in
    record {
      reached = (set.first, set.others, set.chosen, set.is);
      greatest = λ k ks chosen. below_row t width (reach_of t k ks) z (set_reaches t width wide k ks chosen) (λ j within on. greatest j (omega arith) within on);
    }

top_is : (t : Bars) (width : ℕ) (ns : List Node) → IsTree t width ns → (n : Node) → n ≡ get_or ns 1 n → n ≡ node_at ns 1
top_is t width ns tree n read = get_or_read_under ns 1 (length ns) n no_node read (omega (arith, tree.size, width_some t width ns tree)) refl

pub top_gives : (t : Bars) (width : ℕ) (ns : List Node) → IsTree t width ns → (n : Node) → n ≡ get_or ns 1 n → GivesEnvelope t n.env
top_gives t width ns tree n read =
    let top : HoldsPart t 0 width n = subst (HoldsPart t 0 width) (sym (top_is t width ns tree n read)) (top_holds t width ns tree) in
    of_part t width (wide_of t width ns tree) n.env top.reached top.greatest
