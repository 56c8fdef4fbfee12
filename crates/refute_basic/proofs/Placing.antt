-- The place of a member in a region is its place among the members of the model.
use Rattle.std.specs.Prelude.{◌≡◌, ◌≤◌, ℕ, Bool, true, false, not, List, Some, None, length, unwrap_or, nat_lt, cond}
use Rattle.std.specs.List.{position, position_or_len}
use Rattle.std.proofs.Common.{refl, ap, ◌∙◌, arith}
use Rattle.std.proofs.lemmas.Bool.Decides.{nat_tests}
use Rattle.std.proofs.lemmas.List.Sums.{prefix_len-le-length}
use Rattle.sched_base.specs.declared.ids.Itv.{Itv}
use Rattle.sched_base.specs.declared.ids.Seq.{Seq}
use Rattle.sched_model.specs.Data.{Data, same, members_of}
use Rattle.region.specs.Cells.{Region, cells_of}
use Rattle.region.specs.Looks.{IsRegionOf}
use Rattle.region.specs.laws.Narrowing.{members_are}

or_length : (b : Bool) (i n : ℕ) → nat_lt i n ≡ b → i ≤ n → unwrap_or (cond b (Some i) None) n ≡ i
or_length true i n is h = refl
or_length false i n is h = grind (arith, nat_tests, is, h)

position_or_length : {X : Type 0} (test : X → Bool) (xs : List X) → unwrap_or (position test xs) (length xs) ≡ position_or_len test xs
position_or_length test xs = or_length (nat_lt (position_or_len test xs) (length xs)) (position_or_len test xs) (length xs) refl (prefix_len-le-length (λ x. not (test x)) xs)

pub place_is : (m : Data) (r : Region) (p : Seq) (x : Itv) → IsRegionOf m r → unwrap_or (position (same x) (cells_of r p).members) (length (members_of m p)) ≡ position_or_len (same x) (members_of m p)
place_is m r p x of = ap (λ ms. unwrap_or (position (same x) ms) (length (members_of m p))) (members_are m r p of) ∙ position_or_length (same x) (members_of m p)
