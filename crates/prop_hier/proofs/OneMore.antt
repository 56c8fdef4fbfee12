-- The numbers of parts, where these are counted one after another.
use Rattle.std.specs.Prelude.{◌≡◌, ℕ, ◌+◌, ◌<◌, ◌≤◌, Bool, true, false, if◌then◌else◌, List, length, get_or}
use Rattle.std.specs.List.{count_by}
use Rattle.std.proofs.Common.{refl, sym, ap, subst, ◌∙◌, arith, take}
use Rattle.std.proofs.lemmas.List.{length-take-le, take_all}
use Rattle.std.proofs.lemmas.List.Sums.{count_by-le-length, count_by_more_no, count_by_more_yes}
use Rattle.sched_base.specs.declared.ids.Itv.{Itv}
use Rattle.region.specs.Cells.{Region, bounds_of}
use Rattle.refute_hier.specs.declared.parts.Role.{Role}
use Rattle.refute_hier.specs.declared.parts.Role.TheVariants.{IsThere, StartsBefore, EndsAfter, Clashes, MayStart, MayEnd, MayMatch}
use Rattle.refute_hier.specs.Parts.{plays, plays_in}
use Rattle.refute_hier.specs.declared.family.Kind.{Kind}
use Rattle.prop_hier.specs.declared.counts.Counts.{Counts}
use Rattle.prop_hier.specs.code.Counts.{asks, counted, counts_of, one_if, counted_with, counts_with}
use Rattle.prop_hier.specs.code.Few.{AreBelow}

nothing_more : (n : ℕ) → n + 0 ≡ n
nothing_more n = omega arith

some_more : (p : Itv → Bool) (xs : List Itv) (k : ℕ) (x : Itv) → k < length xs → x ≡ get_or xs k x → (b : Bool) → p x ≡ b → count_by p (take k xs) + one_if b ≡ count_by p (take (k + 1) xs)
some_more p xs k x within at true h = sym (count_by_more_yes p xs k x within (ap p (sym at) ∙ h))
some_more p xs k x within at false h = nothing_more (count_by p (take k xs)) ∙ sym (count_by_more_no p xs k x within (ap p (sym at) ∙ h))

role_more : (kind : Kind) (role : Role) (r : Region) (a x : Itv) (bs : List Itv) (k : ℕ) → k < length bs → x ≡ get_or bs k x → counted_with kind role (bounds_of r a) (bounds_of r x) (counted kind role r a (take k bs)) ≡ counted kind role r a (take (k + 1) bs)
role_more kind role r a x bs k within at = by_case (asks kind role)
  where
    by_case : (b : Bool) → (if b then (if b then count_by (plays_in r role a) (take k bs) else 0) + one_if (plays role (bounds_of r a) (bounds_of r x)) else 0) ≡ (if b then count_by (plays_in r role a) (take (k + 1) bs) else 0)
    by_case true = some_more (plays_in r role a) bs k x within at (plays_in r role a x) refl
    by_case false = refl

pub counted_more : (kind : Kind) (r : Region) (a x : Itv) (bs : List Itv) (k : ℕ) (n : Counts) → k < length bs → x ≡ get_or bs k x → n ≡ counts_of kind r a (take k bs) → counts_with kind (bounds_of r a) (bounds_of r x) n ≡ counts_of kind r a (take (k + 1) bs)
counted_more kind r a x bs k n within at so_far = ap (counts_with kind (bounds_of r a) (bounds_of r x)) so_far ∙ rw (
  role_more kind IsThere r a x bs k within at,
  role_more kind StartsBefore r a x bs k within at,
  role_more kind EndsAfter r a x bs k within at,
  role_more kind Clashes r a x bs k within at,
  role_more kind MayStart r a x bs k within at,
  role_more kind MayEnd r a x bs k within at,
  role_more kind MayMatch r a x bs k within at,
) refl

pub counted_all : (kind : Kind) (r : Region) (a : Itv) (bs : List Itv) (k : ℕ) (n : Counts) → length bs ≤ k → n ≡ counts_of kind r a (take k bs) → n ≡ counts_of kind r a bs
counted_all kind r a bs k n past so_far = so_far ∙ ap (counts_of kind r a) (take_all k bs past)

-- no more than there are parts
role_below : (kind : Kind) (role : Role) (r : Region) (a : Itv) (bs : List Itv) (k most : ℕ) → k ≤ length bs → k < most → counted kind role r a (take k bs) < most
role_below kind role r a bs k most within few = by_case (asks kind role)
  where
    by_case : (b : Bool) → (if b then count_by (plays_in r role a) (take k bs) else 0) < most
    by_case true = let n = count_by-le-length (plays_in r role a) (take k bs) in let m = length-take-le k bs within in omega (arith, n, m, few)
    by_case false = omega (arith, few)

pub counts_below : (kind : Kind) (r : Region) (a : Itv) (bs : List Itv) (k most : ℕ) (n : Counts) → k ≤ length bs → k < most → n ≡ counts_of kind r a (take k bs) → AreBelow most n
counts_below kind r a bs k most n within few so_far = subst (AreBelow most) (sym so_far) (record {
  there = role_below kind IsThere r a bs k most within few;
  starts_before = role_below kind StartsBefore r a bs k most within few;
  ends_after = role_below kind EndsAfter r a bs k most within few;
  clashes = role_below kind Clashes r a bs k most within few;
  may_start = role_below kind MayStart r a bs k most within few;
  may_end = role_below kind MayEnd r a bs k most within few;
  may_match = role_below kind MayMatch r a bs k most within few;
})
