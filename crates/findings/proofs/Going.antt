-- One interval after another, and one pair after another.
use Rattle.std.specs.Prelude.{◌≡◌, ◌⊎◌, ℕ, suc, ◌+◌, ◌<◌, Bool, true, List, [], length, Option}
use Rattle.std.proofs.Common.{inl, inr, subst, arith, take, get_or}
use Rattle.sched_base.specs.declared.ids.Itv.{Itv}
use Rattle.sched_model.specs.Data.{same, has}
use Rattle.region.specs.declared.types.Topic.{Topic}
use Rattle.region.specs.declared.types.Topic.TheVariants.{One, Two}
use Rattle.region.specs.declared.types.Guess.{Guess}
use Rattle.region.specs.Cells.{Region}
use Rattle.region.specs.Guesses.{topic}
use Rattle.findings.specs.declared.finding.Pair.{Pair}
use Rattle.findings.specs.code.Reads.{is_pair, has_pair, is_among}
use Rattle.findings.specs.code.Search.{is_on, is_of_pair, IsRefutedEnd, NoEndRefuted}
use Rattle.findings.specs.laws.Members.{any_more, any_at}

next : (n : ℕ) → n + 1 ≡ suc n
next n = omega arith

among_cases : (xs : List Itv) (n : ℕ) (x : Itv) (t : Topic) → n < length xs → x ≡ get_or xs n x → is_among (take (n + 1) xs) [] t ≡ true → (is_on x t ≡ true) ⊎ (is_among (take n xs) [] t ≡ true)
among_cases xs n x (One z c) within is h = any_more (same z) xs n x within is (subst (λ (i : ℕ). has (take i xs) z ≡ true) (next n) h)
among_cases xs n x (Two p y z) within is h = cc

among_pairs : (qs : List Pair) (n : ℕ) (q : Pair) (t : Topic) → n < length qs → q ≡ get_or qs n q → is_among [] (take (n + 1) qs) t ≡ true → (is_of_pair q t ≡ true) ⊎ (is_among [] (take n qs) t ≡ true)
among_pairs qs n q (One z c) within is h = cc
among_pairs qs n q (Two p y z) within is h = any_more (is_pair p y z) qs n q within is (subst (λ (i : ℕ). has_pair (take i qs) p y z ≡ true) (next n) h)

pub none_more : (refuted : Option Guess → Bool) (r : Region) (xs : List Itv) (n : ℕ) (x : Itv) → NoEndRefuted refuted r (is_among (take n xs) []) → n < length xs → x ≡ get_or xs n x → NoEndRefuted refuted r (is_on x) → NoEndRefuted refuted r (is_among (take (n + 1) xs) [])
none_more refuted r xs n x before within is here g wanted open_end = elim (among_cases xs n x (topic g) within is wanted) [ inl e ↦ here g e open_end | inr e ↦ before g e open_end ]

pub none_more_pairs : (refuted : Option Guess → Bool) (r : Region) (qs : List Pair) (n : ℕ) (q : Pair) → NoEndRefuted refuted r (is_among [] (take n qs)) → n < length qs → q ≡ get_or qs n q → NoEndRefuted refuted r (is_of_pair q) → NoEndRefuted refuted r (is_among [] (take (n + 1) qs))
none_more_pairs refuted r qs n q before within is here g wanted open_end = elim (among_pairs qs n q (topic g) within is wanted) [ inl e ↦ here g e open_end | inr e ↦ before g e open_end ]

on_among : (xs : List Itv) (n : ℕ) (x : Itv) (t : Topic) → n < length xs → x ≡ get_or xs n x → is_on x t ≡ true → is_among xs [] t ≡ true
on_among xs n x (One z c) within is h = any_at (same z) xs n x within is h
on_among xs n x (Two p y z) within is h = cc

pair_among : (qs : List Pair) (n : ℕ) (q : Pair) (t : Topic) → n < length qs → q ≡ get_or qs n q → is_of_pair q t ≡ true → is_among [] qs t ≡ true
pair_among qs n q (One z c) within is h = cc
pair_among qs n q (Two p y z) within is h = any_at (is_pair p y z) qs n q within is h

pub one_of_all : (refuted : Option Guess → Bool) (r : Region) (xs : List Itv) (n : ℕ) (x : Itv) (g : Guess) → n < length xs → x ≡ get_or xs n x → IsRefutedEnd refuted r (is_on x) g → IsRefutedEnd refuted r (is_among xs []) g
one_of_all refuted r xs n x g within is one = record { wanted = on_among xs n x (topic g) within is one.wanted; open_end = one.open_end; refuted = one.refuted }

pub one_of_pairs : (refuted : Option Guess → Bool) (r : Region) (qs : List Pair) (n : ℕ) (q : Pair) (g : Guess) → n < length qs → q ≡ get_or qs n q → IsRefutedEnd refuted r (is_of_pair q) g → IsRefutedEnd refuted r (is_among [] qs) g
one_of_pairs refuted r qs n q g within is one = record { wanted = pair_among qs n q (topic g) within is one.wanted; open_end = one.open_end; refuted = one.refuted }
