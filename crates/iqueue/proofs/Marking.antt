-- What a wake, and what taking a number out, do to the marks.
use Rattle.std.proofs.Common.{◌≡◌, ℕ, zero, suc, ◌<◌, Bool, true, false, List, [], ◌∷◌, ◌++◌, length, replicate, set, get_or, nat_eq, refl, sym, ap, ◌∙◌, arith}
use Rattle.std.proofs.lemmas.Bool.{eqb-true, eqb-false}
use Rattle.std.proofs.lemmas.List.{get_or-set_same, get_or-set_other, length-set}
use Rattle.iqueue.specs.code.Queue.{Queue, AreDistinctBelow, is_in, without, woken}
use Rattle.iqueue.specs.code.Marks.{AreMarks}
use Rattle.iqueue.specs.laws.Ends.{in_end}
use Rattle.iqueue.proofs.Links.{without_absent}
use Rattle.iqueue.proofs.Members.{in_front, in_less, absent_less, cut}

none_marked : (n k : ℕ) → get_or (replicate n false) k false ≡ false
none_marked zero k = refl
none_marked (suc n) zero = refl
none_marked (suc n) (suc k) = none_marked n k

marks_of : (n : ℕ) → length (replicate n false) ≡ n
marks_of zero = refl
marks_of (suc n) = ap suc (marks_of n)

pub none_are : (n : ℕ) → AreMarks (record { below = n; list = [] }) (replicate n false)
none_are n = record { count = marks_of n; tell = none_marked n }

-- a mark is set, where the others of the list stay
marked : (q : Queue) (marks : List Bool) (k : ℕ) (b : Bool) (ks : List ℕ) → AreMarks q marks → k < q.below → b ≡ is_in k ks → ((j : ℕ) → (j ≡ k → ⊥) → is_in j ks ≡ is_in j q.list) → AreMarks (record q { list = ks }) (set marks k b)
marked q marks k b ks are below here others = record {
  count = length-set marks k b ∙ are.count;
  tell = λ j. decided j (nat_eq j k) refl;
}
  where
    decided : (j : ℕ) (t : Bool) → nat_eq j k ≡ t → get_or (set marks k b) j false ≡ is_in j ks
    decided j true is = let same : j ≡ k = eqb-true j k is in rw same (get_or-set_same marks k b false (omega (arith, below, are.count)) ∙ here)
    decided j false is = get_or-set_other marks k j b false (eqb-false j k is) ∙ are.tell j ∙ sym (others j (eqb-false j k is))

pub woken_marked : (q : Queue) (marks : List Bool) (k : ℕ) → AreMarks q marks → k < q.below → is_in k q.list ≡ false → AreMarks (record q { list = woken k q.list }) (set marks k true)
woken_marked q marks k are below absent = rw absent (marked q marks k true (q.list ++ k ∷ []) are below (sym (in_end k q.list)) (λ j other. in_front j k q.list other))

pub unwoken_marked : (q : Queue) (marks : List Bool) (k : ℕ) → AreMarks q marks → k < q.below → AreDistinctBelow q.below q.list → is_in k q.list ≡ true → AreMarks (record q { list = without k q.list }) (set marks k false)
unwoken_marked q marks k are below distinct found =
    let c = cut k q.list found in
    marked q marks k false (without k q.list) are below
    (sym (ap (is_in k) c.rest ∙ absent_less q.below k c.front c.back (rw (sym c.whole) distinct)))
    (λ j other. ap (is_in j) c.rest ∙ sym (ap (is_in j) c.whole ∙ in_less j k c.front c.back other))

-- nothing changes
pub still_woken : (q : Queue) (k : ℕ) → is_in k q.list ≡ true → q ≡ record q { list = woken k q.list }
still_woken q k found = rw found refl

pub still_without : (q : Queue) (k : ℕ) → is_in k q.list ≡ false → q ≡ record q { list = without k q.list }
still_without q k absent = rw (without_absent k q.list absent) refl
