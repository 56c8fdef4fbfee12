-- What the top of a tree says of the sets of its places.
use Rattle.std.proofs.Common.{◌≡◌, ℕ, ◌<◌, ◌≤◌, ℤ, ◌≤ℤ◌, List, length, get_or, Option, None, Some, IfSome, refl, sym, subst, inr, arith}
use Rattle.std.specs.Option.{option_map}
use Rattle.std.proofs.lemmas.List.{get_or_read_under}
use Rattle.std.proofs.lemmas.Int.{ints}
use Rattle.thetatree.specs.declared.leaves.Colour.{Colour}
use Rattle.thetatree.specs.declared.leaves.Colour.TheVariants.{Out, White, Gray}
use Rattle.thetatree.specs.declared.node.Best.{Best}
use Rattle.thetatree.specs.declared.node.Node.{Node}
use Rattle.thetatree.specs.code.Leaves.{Leaves, colour_at, end_of, GivesEct, GivesEctGray}
use Rattle.thetatree.specs.code.Nodes.{no_node}
use Rattle.thetatree.specs.code.Trees.{node_at, IsTree}
use Rattle.thetatree.proofs.Parts.{IsAtMost, Begins, end_from, Reaches, AtMostBest, HoldsPart}
use Rattle.thetatree.proofs.Climb.{size_from, count_is, count_some, top_holds}
use Rattle.thetatree.proofs.Sets.{IsWide, EndsBy, white_there, gray_there, set_ends, row_ends}

wide_of : (t : Leaves) (width : ℕ) (ns : List Node) → IsTree t width ns → IsWide t width
wide_of t width ns tree = record { tasks = tree.tasks; sizes = size_from t.tasks tree.tasks; same = tree.same; room = tree.room }

pub width_some : (t : Leaves) (width : ℕ) (ns : List Node) → IsTree t width ns → 0 < width
width_some t width ns tree = omega (arith, tree.power.1, count_is tree.power.0, count_some tree.power.0)

-- the bound of a row is the bound of a set
below_row : (t : Leaves) (width : ℕ) (gray : Option ℕ) (z a : ℤ) → EndsBy t width gray z → ((j : ℕ) → j < width → Begins t j width gray → end_from t j width gray ≤ℤ a) → z ≤ℤ a
below_row t width gray z a ends bound = omega (arith, ints, ends.by, bound ends.first ends.within ends.begins)

ect_of_part : (t : Leaves) (width : ℕ) → IsWide t width → (o : Option ℤ) → IfSome o (λ z. Reaches t 0 width z None)
    → ((j : ℕ) → 0 ≤ j → j < width → Begins t j width None → IsAtMost (end_from t j width None) o) → GivesEct t o
ect_of_part t width wide None reached greatest = λ k white. greatest k (omega arith) (omega (arith, white_there t k white, wide.same, wide.room)) white
ect_of_part t width wide (Some z) reached greatest =
    let set = row_ends t width wide None z reached in
    record {
      reached = (set.first, set.others, set.chosen, set.is);
      greatest = λ k ks chosen. below_row t width None (end_of t k ks) z (set_ends t width wide None k ks chosen) (λ j within begins. greatest j (omega arith) within begins);
    }

-- no place has a colour
all_out : (t : Leaves) (width : ℕ) → IsWide t width → ((gray : Option ℕ) (j : ℕ) → 0 ≤ j → j < width → Begins t j width gray → ⊥) → (k : ℕ) → colour_at t k ≡ Out
all_out t width wide none k = coloured (colour_at t k) refl
  where
    coloured : (c : Colour) → colour_at t k ≡ c → c ≡ Out
    coloured Out is = refl
    coloured White is = absurd (none None k (omega arith) (omega (arith, white_there t k is, wide.same, wide.room)) is)
    coloured Gray is =
        let within : k < width = omega (arith, gray_there t k is, wide.same, wide.room) in
        absurd (none (Some k) k (omega arith) within (omega arith, within, is, inr refl))

abbrev pub answer_of : Best → ℤ × Option ℕ
answer_of b = (b.value, b.leaf)

gray_of_part : (t : Leaves) (width : ℕ) → IsWide t width → (o : Option Best) → IfSome o (λ b. Reaches t 0 width b.value b.leaf)
    → ((gray : Option ℕ) (j : ℕ) → 0 ≤ j → j < width → Begins t j width gray → AtMostBest (end_from t j width gray) o) → GivesEctGray t (option_map answer_of o)
gray_of_part t width wide None reached greatest = all_out t width wide greatest
gray_of_part t width wide (Some b) reached greatest =
    let set = row_ends t width wide b.leaf b.value reached in
    record {
      reached = (set.first, set.others, set.chosen, set.is);
      greatest = λ any k ks chosen. below_row t width any (end_of t k ks) b.value (set_ends t width wide any k ks chosen) (λ j within begins. greatest any j (omega arith) within begins);
    }

top_is : (t : Leaves) (width : ℕ) (ns : List Node) → IsTree t width ns → (n : Node) → n ≡ get_or ns 1 n → n ≡ node_at ns 1
top_is t width ns tree n read = get_or_read_under ns 1 (length ns) n no_node read (omega (arith, tree.size, width_some t width ns tree)) refl

pub top_gives_ect : (t : Leaves) (width : ℕ) (ns : List Node) → IsTree t width ns → (n : Node) → n ≡ get_or ns 1 n → GivesEct t n.ect
top_gives_ect t width ns tree n read =
    let top : HoldsPart t 0 width n = subst (HoldsPart t 0 width) (sym (top_is t width ns tree n read)) (top_holds t width ns tree) in
    ect_of_part t width (wide_of t width ns tree) n.ect top.ect_reached top.ect_greatest

pub top_gives_gray : (t : Leaves) (width : ℕ) (ns : List Node) → IsTree t width ns → (n : Node) → n ≡ get_or ns 1 n → GivesEctGray t (option_map answer_of n.gray_ect)
top_gives_gray t width ns tree n read =
    let top : HoldsPart t 0 width n = subst (HoldsPart t 0 width) (sym (top_is t width ns tree n read)) (top_holds t width ns tree) in
    gray_of_part t width (wide_of t width ns tree) n.gray_ect top.gray_ect_reached top.gray_ect_greatest
