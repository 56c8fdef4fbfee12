-- Two parts that are present are more than one, which is the count of most alternatives.
use Rattle.std.specs.Prelude.{◌≡◌, ℕ, ℤ, pos, false, List, Option, IfSome, IfNone, nat_lt, int_lt}
use Rattle.std.proofs.lemmas.Int.{ints}
use Rattle.std.proofs.lemmas.Bool.Decides.{nat_tests}
use Rattle.std.proofs.Common.{sym, subst, arith}
use Rattle.sched_base.specs.declared.ids.Itv.{Itv}
use Rattle.region.specs.Cells.{Region}
use Rattle.refute_hier.specs.declared.parts.Role.TheVariants.{IsThere}
use Rattle.refute_hier.specs.Parts.{part_count}
use Rattle.refute_hier.specs.Alt.{is_crowded}
use Rattle.refute_hier.specs.declared.witness.HierWitness.{HierWitness}
use Rattle.refute_hier.specs.declared.family.Kind.TheVariants.{Alternative}
use Rattle.refute_hier.specs.code.Rows.{two_parts, IsWitness}

above_one : (k : ℕ) → nat_lt 1 k ≡ false → int_lt (pos 1) (pos k) ≡ false
above_one k h = grind (arith, ints, nat_tests)

pub one_too_many : (r : Region) (a : Itv) (bs : List Itv) → two_parts r a bs ≡ false → is_crowded r (pos 1) a bs ≡ false
one_too_many r a bs none = above_one (part_count r IsThere a bs) none

-- what is found where the count is 1 is found of a count that is 1
pub found_once : (n : ℤ) (r : Region) (a : Itv) (bs : List Itv) (c : ℕ) (o : Option HierWitness) → n ≡ pos 1 → IfSome o (IsWitness (Alternative (pos 1)) r a bs c) → IfSome o (IsWitness (Alternative n) r a bs c)
found_once n r a bs c o once h = subst (λ k. IfSome o (IsWitness (Alternative k) r a bs c)) (sym once) h

pub none_once : (n : ℤ) (r : Region) (a : Itv) (bs : List Itv) (o : Option HierWitness) → n ≡ pos 1 → IfNone o (is_crowded r (pos 1) a bs ≡ false) → IfNone o (is_crowded r n a bs ≡ false)
none_once n r a bs o once h = subst (λ k. IfNone o (is_crowded r k a bs ≡ false)) (sym once) h
