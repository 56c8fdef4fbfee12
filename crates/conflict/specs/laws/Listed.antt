-- The constraints that are marked are those that were named, each once, in rising order.
use Rattle.std.specs.Prelude.{◌≡◌, ◌⊎◌, ℕ, zero, suc, ◌+◌, ◌<◌, ◌≤◌, Bool, true, false, ◌||◌, List, [], ◌∷◌, length, replicate, slice_set, nat_eq, All, Contains}
use Rattle.std.specs.List.{AllPairs}
use Rattle.std.proofs.Common.{refl, sym, ap, subst, ◌∙◌, inl, inr, arith, get_or}
use Rattle.std.proofs.lemmas.Bool.Decides.{nat_tests}
use Rattle.std.proofs.lemmas.List.{length-replicate, length-set}
use Rattle.std.proofs.lemmas.List.Kept.{AllPairs-cons}
use Rattle.std.proofs.lemmas.List.Elements.{All-nil, All-cons, All-replicate, Contains-append_right}
use Rattle.sched_base.specs.declared.ids.Con.{Con}
use Rattle.sched_model.specs.Data.{Data}
use Rattle.region.specs.Looks.{con}
use Rattle.kernel.specs.Used.{IsUsed}
use Rattle.conflict.specs.code.Marks.{marked, is_among, listed_from}
use Rattle.conflict.specs.laws.Marks.{marked_is}

head_in : (c : Con) (cs : List Con) → Contains (c ∷ cs) c
head_in c cs = (0, omega arith, refl)

tail_in : (d : Con) (ds : List Con) (c : Con) → Contains ds c → Contains (d ∷ ds) c
tail_in d ds c has = Contains-append_right (d ∷ []) ds c has

none_in : (c : Con) → Contains [] c → ⊥
none_in c has = omega (arith, has.1)

split_in : (d : Con) (ds : List Con) (c : Con) → Contains (d ∷ ds) c → (d ≡ c) ⊎ Contains ds c
split_in d ds c (zero, within, is) = inl is
split_in d ds c (suc n, within, is) = inr (n, omega (arith, within), is)

-- the mark of this constraint stands, the first mark being that of constraint k
record IsMarked (k : ℕ) (bs : List Bool) (c : Con) : Type 0 where
  place : ℕ
  within : place < length bs
  stands : get_or bs place false ≡ true
  is : c.0 ≡ k + place

marked_first : (k : ℕ) (bs : List Bool) (c : Con) → con k ≡ c → IsMarked k (true ∷ bs) c
marked_first k bs c is = record { place = 0; within = omega arith; stands = refl; is = first c.0 k (sym (ap (λ (d : Con). d.0) is)) }
  where
    first : (n k : ℕ) → n ≡ k → n ≡ k + 0
    first n k h = omega (arith, h)

marked_later : (k : ℕ) (b : Bool) (bs : List Bool) (c : Con) → IsMarked (k + 1) bs c → IsMarked k (b ∷ bs) c
marked_later k b bs c h = record { place = suc h.place; within = omega (arith, h.within); stands = h.stands; is = later c.0 k h.place h.is }
  where
    later : (n k i : ℕ) → n ≡ k + 1 + i → n ≡ k + suc i
    later n k i h = omega (arith, h)

first_or_later : (k : ℕ) (bs : List Bool) (c : Con) → (con k ≡ c) ⊎ Contains (listed_from (k + 1) bs) c → (Contains (listed_from (k + 1) bs) c → IsMarked (k + 1) bs c) → IsMarked k (true ∷ bs) c
first_or_later k bs c (inl is) rest = marked_first k bs c is
first_or_later k bs c (inr has) rest = marked_later k true bs c (rest has)

listed_marked : (k : ℕ) (bs : List Bool) (c : Con) → Contains (listed_from k bs) c → IsMarked k bs c
listed_marked k [] c has = absurd (none_in c has)
listed_marked k (false ∷ bs) c has = marked_later k false bs c (listed_marked (k + 1) bs c has)
listed_marked k (true ∷ bs) c has = first_or_later k bs c (split_in (con k) (listed_from (k + 1) bs) c has) (listed_marked (k + 1) bs c)

earlier : (n k i : ℕ) → n ≡ k + suc i → n ≡ k + 1 + i
earlier n k i h = omega (arith, h)

no_more : (n k : ℕ) → n ≡ k + 0 → k ≡ n
no_more n k h = omega (arith, h)

listed_at : (k : ℕ) (bs : List Bool) (c : Con) (i : ℕ) → i < length bs → get_or bs i false ≡ true → c.0 ≡ k + i → Contains (listed_from k bs) c
listed_at k [] c i within stands is = absurd (omega (arith, within))
listed_at k (true ∷ bs) c zero within stands is = subst (λ n. Contains (listed_from k (true ∷ bs)) (con n)) (no_more c.0 k is) (head_in (con k) (listed_from (k + 1) bs))
listed_at k (true ∷ bs) c (suc i) within stands is = tail_in (con k) (listed_from (k + 1) bs) c (listed_at (k + 1) bs c i (omega (arith, within)) stands (earlier c.0 k i is))
listed_at k (false ∷ bs) c zero within stands is = absurd (never stands)
  where
    never : false ≡ true → ⊥
    never h = cc
listed_at k (false ∷ bs) c (suc i) within stands is = listed_at (k + 1) bs c i (omega (arith, within)) stands (earlier c.0 k i is)

behind : (k : ℕ) (bs : List Bool) → All (λ (c : Con). k ≤ c.0) (listed_from k bs)
behind k [] = All-nil (λ (c : Con). k ≤ c.0)
behind k (true ∷ bs) = All-cons (λ (c : Con). k ≤ c.0) (con k) (listed_from (k + 1) bs) (omega arith) (λ n c within. omega (arith, behind (k + 1) bs n c within))
behind k (false ∷ bs) = λ n c within. omega (arith, behind (k + 1) bs n c within)

rises : (k : ℕ) (bs : List Bool) → AllPairs (λ (c d : Con). c.0 < d.0) (listed_from k bs)
rises k [] = λ i j c less within. absurd (omega (arith, within))
rises k (true ∷ bs) = AllPairs-cons (λ (c d : Con). c.0 < d.0) (con k) (listed_from (k + 1) bs) (λ n c within. omega (arith, behind (k + 1) bs n c within)) (rises (k + 1) bs)
rises k (false ∷ bs) = rises (k + 1) bs

-- who stands among the names is one of them
same_number : (n k : ℕ) → nat_eq n k ≡ true → n ≡ k
same_number n k h = grind (arith, nat_tests)

is_itself : (n : ℕ) → nat_eq n n ≡ true
is_itself n = grind (arith, nat_tests)

among_either : (d : Con) (ds : List Con) (c : Con) (b : Bool) → nat_eq d.0 c.0 ≡ b → (b || is_among ds c.0) ≡ true → (is_among ds c.0 ≡ true → Contains ds c) → Contains (d ∷ ds) c
among_either d ds c true same is rest = subst (λ n. Contains (d ∷ ds) (con n)) (same_number d.0 c.0 same) (head_in d ds)
among_either d ds c false same is rest = tail_in d ds c (rest is)

among_in : (cs : List Con) (c : Con) → is_among cs c.0 ≡ true → Contains cs c
among_in [] c is = cc
among_in (d ∷ ds) c is = among_either d ds c (nat_eq d.0 c.0) refl is (among_in ds c)

or_true : (b : Bool) → (b || true) ≡ true
or_true true = refl
or_true false = refl

either_among : (d : Con) (ds : List Con) (c : Con) → (d ≡ c) ⊎ Contains ds c → (Contains ds c → is_among ds c.0 ≡ true) → is_among (d ∷ ds) c.0 ≡ true
either_among d ds c (inl is) rest = subst (λ (e : Con). (nat_eq d.0 e.0 || is_among ds e.0) ≡ true) is (ap (λ b. b || is_among ds d.0) (is_itself d.0))
either_among d ds c (inr has) rest = ap (λ b. nat_eq d.0 c.0 || b) (rest has) ∙ or_true (nat_eq d.0 c.0)

in_among : (cs : List Con) (c : Con) → Contains cs c → is_among cs c.0 ≡ true
in_among [] c has = absurd (none_in c has)
in_among (d ∷ ds) c has = either_among d ds c (split_in d ds c has) (in_among ds c)

marked_length : (cs : List Con) (bs : List Bool) → length (marked cs bs) ≡ length bs
marked_length [] bs = refl
marked_length (c ∷ cs) bs = marked_length cs (slice_set bs c.0 true) ∙ length-set bs c.0 true

or_false : (b : Bool) → (b || false) ≡ b
or_false true = refl
or_false false = refl

-- the marks after these names
abbrev marks : ℕ → List Con → List Bool
marks n used = marked used (replicate n false)

marks_length : (n : ℕ) (used : List Con) → length (marks n used) ≡ n
marks_length n used = marked_length used (replicate n false) ∙ length-replicate n false

mark_at : (n : ℕ) (used : List Con) (c : ℕ) → c < n → get_or (marks n used) c false ≡ is_among used c
mark_at n used c within =
    let there : c < length (replicate n false) = subst (λ k. c < k) (sym (length-replicate n false)) within in
    marked_is used (replicate n false) c there
    ∙ ap (λ b. is_among used c || b) (All-replicate (λ b. b ≡ false) n false refl c false there)
    ∙ or_false (is_among used c)

from_zero : (n i : ℕ) → n ≡ 0 + i → n ≡ i
from_zero n i h = omega (arith, h)

less : (i n k : ℕ) → i < k → k ≡ n → i < n
less i n k h is = omega (arith, h, is)

pub listed_is_used : (m : Data) (used : List Con) → IsUsed m used (listed_from 0 (marked used (replicate (length m.constraints) false)))
listed_is_used m used =
    let n : ℕ = length m.constraints in
    record {
      rises = rises 0 (marks n used);
      each = λ c. (
        (λ has.
            let at = listed_marked 0 (marks n used) c has in
            let within : at.place < n = less at.place n (length (marks n used)) at.within (marks_length n used) in
            let is : c.0 ≡ at.place = from_zero c.0 at.place at.is in (
              subst (λ k. k < n) (sym is) within,
              among_in used c (subst (λ k. is_among used k ≡ true) (sym is) (sym (mark_at n used at.place within) ∙ at.stands)),
            )),
        (λ both. listed_at 0 (marks n used) c c.0 (subst (λ k. c.0 < k) (sym (marks_length n used)) both.0) (mark_at n used c.0 both.0 ∙ in_among used c both.1) (omega arith)),
      );
    }

-- as many marks stand there as constraints
pub marks_kept : (used : List Con) (bs cs : List Bool) (n : ℕ) → bs ≡ replicate n false → cs ≡ marked used bs → length cs ≡ n
marks_kept used bs cs n none is = ap length is ∙ marked_length used bs ∙ ap length none ∙ length-replicate n false
