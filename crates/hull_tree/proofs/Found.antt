-- Atoms, found node by node.
use Rattle.std.specs.Prelude.{◌≡◌, ℕ, zero, suc, ◌+◌, ◌<◌, ◌≤◌, Bool, true, false, not, ◌||◌, List, [], ◌∷◌, ◌++◌, length, Some, None, IsTrue, nat_lt, nat_le}
use Rattle.std.specs.List.{Contains}
use Rattle.std.specs.List.Sorted.{IsNonDecreasingBy, IsPartitionPoint, IsPermutation}
use Rattle.std.proofs.Common.{◌≢◌, refl, sym, ap, subst, ◌∙◌, arith, get_or, take, inl, inr}
use Rattle.std.proofs.lemmas.Bool.{cases_eq, true≢false}
use Rattle.std.proofs.lemmas.Bool.Decides.{nat_tests}
use Rattle.std.proofs.lemmas.List.Elements.{Contains-push, Contains-append_left}
use Rattle.std.proofs.lemmas.List.Sorted.{Contains-permutation, length_permutation}
use Rattle.std.proofs.Math.Seq.{take-append_seam}
use Rattle.sched_base.specs.declared.ids.Itv.{Itv}
use Rattle.sched_model.specs.Data.{has, same}
use Rattle.hull_tree.specs.declared.atoms.Atom.{Atom}
use Rattle.hull_tree.specs.declared.nodes.Node.{Node}
use Rattle.hull_tree.specs.declared.nodes.Span.{Span}
use Rattle.hull_tree.specs.code.Nodes.{node_at, named}
use Rattle.hull_tree.specs.code.Atoms.{atom_at, key_at, key_of, HasAtomsBelow, AreAtoms, HasIntervals, IsClear}

lower : (i n : ℕ) → i < n + 1 → (i ≡ n → ⊥) → i < n
lower i n h ne = let k : i ≢ n = ne in omega (arith, h, k)

pub none_yet : (ns : List Node) → HasAtomsBelow ns 0 []
none_yet ns i x below told = absurd (omega (arith, below))

pub one_more : (ns : List Node) (n : ℕ) (x : Itv) (ats : List Atom) → HasAtomsBelow ns n ats → named (node_at ns n) ≡ Some x → HasAtomsBelow ns (n + 1) (ats ++ atom_at x n ∷ [])
one_more ns n x ats before is i z below told = elim (cases_eq i n) [
  | inl last ↦ (let same_one : x ≡ z = some_same x z (sym is ∙ ap (λ j. named (node_at ns j)) (sym last) ∙ told) in
      subst (Contains (ats ++ atom_at x n ∷ [])) (ap (λ w. atom_at w n) same_one ∙ ap (atom_at z) (sym last)) (Contains-push ats (atom_at x n)))
  | inr other ↦ Contains-append_left ats (atom_at x n ∷ []) (atom_at z i) (before i z (lower i n below other) told)
]
  where
    some_same : (x z : Itv) → Some x ≡ Some z → x ≡ z
    some_same x z h = cc

pub no_more : (ns : List Node) (n : ℕ) (ats : List Atom) → HasAtomsBelow ns n ats → named (node_at ns n) ≡ None → HasAtomsBelow ns (n + 1) ats
no_more ns n ats before is i z below told = elim (cases_eq i n) [
  | inl last ↦ (let wrong : None ≡ Some z = sym is ∙ ap (λ j. named (node_at ns j)) (sym last) ∙ told in cc)
  | inr other ↦ before i z (lower i n below other) told
]

pub sorted_atoms : (ns : List Node) (ats bs : List Atom) → HasAtomsBelow ns (length ns) ats → IsPermutation ats bs → IsNonDecreasingBy key_of bs → AreAtoms ns bs
sorted_atoms ns ats bs all moved rising = record { rising = rising; all = λ i x below told. Contains-permutation ats bs (atom_at x i) moved (all i x below told) }

pub sorted_taken : (ns : List Node) (ats bs rest : List Atom) (n : ℕ) → n ≡ length ats → HasAtomsBelow ns (length ns) ats → IsPermutation ats bs → IsNonDecreasingBy key_of bs → AreAtoms ns (take n (bs ++ rest))
sorted_taken ns ats bs rest n size all moved rising =
    let same : n ≡ length bs = size ∙ sym (length_permutation ats bs moved) in
    subst (AreAtoms ns) (sym (ap (λ k. take k (bs ++ rest)) same ∙ take-append_seam bs rest)) (sorted_atoms ns ats bs all moved rising)

-- a list of intervals
pub has_still : (xs : List Itv) (x z : Itv) → has xs z ≡ true → has (xs ++ x ∷ []) z ≡ true
has_still [] x z h = absurd (true≢false (sym h))
has_still (w ∷ ws) x z h = by_case (same z w) (has_still ws x z) h
  where
    by_case : (b : Bool) → (has ws z ≡ true → has (ws ++ x ∷ []) z ≡ true) → (b || has ws z) ≡ true → (b || has (ws ++ x ∷ []) z) ≡ true
    by_case true f h = refl
    by_case false f h = f h

pub default : (ats : List Atom) (n : ℕ) (d e : Atom) → n < length ats → get_or ats n d ≡ get_or ats n e
default [] n d e h = absurd (omega (arith, h))
default (z ∷ zs) zero d e h = refl
default (z ∷ zs) (suc n) d e h = default zs n d e (omega (arith, h))

pub intervals_none : (ats : List Atom) → HasIntervals 0 ats []
intervals_none ats i a below is = absurd (omega (arith, below))

pub intervals_more : (n : ℕ) (ats : List Atom) (xs ys : List Itv) (a : Atom) → HasIntervals n ats xs → ((z : Itv) → IsTrue (has xs z) → IsTrue (has ys z)) → a ≡ get_or ats n a → n < length ats → IsTrue (has ys a.interval) → HasIntervals (n + 1) ats ys
intervals_more n ats xs ys a before kept at within noted i b below is = elim (cases_eq i n) [
  | inl last ↦ (let here : b ≡ a = sym is ∙ ap (λ j. get_or ats j b) last ∙ default ats n b a within ∙ sym at in subst (λ c. IsTrue (has ys c.interval)) (sym here) noted)
  | inr other ↦ kept b.interval (before i b (lower i n below other) is)
]

-- the atoms before a point have lower keys than those of an interval from one place on
abbrev pub IsPoint : List Atom → ℕ → ℕ → Type 0
IsPoint ats f k = IsPartitionPoint (λ a. nat_lt (key_of a) f ≡ true) (λ a. nat_lt (key_of a) f ≡ false) ats k

pub not_before : (ats : List Atom) (x : Itv) (first f k i j : ℕ) → f ≡ key_at x first → IsPoint ats f k → first ≤ i → get_or ats j (atom_at x i) ≡ atom_at x i → k ≤ j
not_before ats x first f k i j f_is point from is = decided (nat_lt j k) refl
  where
    below : (a b : ℕ) → nat_lt a b ≡ true → a < b
    below a b h = grind (arith, nat_tests)

    not_below : (a b : ℕ) → nat_lt a b ≡ false → b ≤ a
    not_below a b h = grind (arith, nat_tests)

    decided : (b : Bool) → nat_lt j k ≡ b → k ≤ j
    decided false h = not_below j k h
    decided true h =
        let less : key_at x i < f = below (key_at x i) f (subst (λ a. nat_lt (key_of a) f ≡ true) is (point.0 j (atom_at x i) (omega arith) (below j k h))) in
        absurd (omega (arith, less, from, f_is))

pub clear_end : (ats : List Atom) (x : Itv) (s : Span) (f k : ℕ) → f ≡ key_at x s.first → IsPoint ats f k → length ats ≤ k → IsClear ats x s
clear_end ats x s f k f_is point end i from to there = let late = not_before ats x s.first f k i there.0 f_is point from there.2 in let within = there.1 in absurd (omega (arith, late, within, end))

pub clear_past : (ats : List Atom) (x : Itv) (s : Span) (f k p q : ℕ) (d : Atom) → IsNonDecreasingBy key_of ats → f ≡ key_at x s.first → IsPoint ats f k
    → p ≡ key_of (get_or ats k d) → q ≡ key_at x s.last → nat_le p q ≡ false → IsClear ats x s
clear_past ats x s f k p q d rising f_is point p_is q_is past i from to there =
    let late = not_before ats x s.first f k i there.0 f_is point from there.2 in
    let rises : key_of (get_or ats k d) ≤ key_of (get_or ats there.0 d) = rising k there.0 d late there.1 in
    let same : get_or ats there.0 d ≡ atom_at x i = default ats there.0 d (atom_at x i) there.1 ∙ there.2 in
    let between : key_of (get_or ats k d) ≤ key_at x i = subst (λ b. key_of (get_or ats k d) ≤ key_of b) same rises in
    let above : q < p = more p q past in
    absurd (omega (arith, between, above, to, p_is, q_is))
  where
    more : (p q : ℕ) → nat_le p q ≡ false → q < p
    more p q h = grind (arith, nat_tests)

pub denied : (b : Bool) → not b ≡ true → b ≡ false
denied true h = absurd (true≢false (sym h))
denied false h = refl

pub clear_of_same : (ats : List Atom) (x y : Itv) (s : Span) → x.0 ≡ y.0 → IsClear ats x s → IsClear ats x s × IsClear ats y s
clear_of_same ats x y s same clear = (clear, subst (λ n. IsClear ats (record { 0 = n }) s) same clear)
