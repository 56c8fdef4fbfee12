-- Which items without a name the constraints still have to write, in the order of their numbers.
use Rattle.std.proofs.Common.{◌≡◌, ℕ, zero, suc, ◌+◌, ◌<◌, Bool, true, false, not, cond, List, [], ◌∷◌, ◌++◌, length, slice_get, Some, nat_le, refl, sym, ap, ◌∙◌, arith}
use Rattle.std.specs.List.{filter, count_by, list_all}
use Rattle.std.proofs.lemmas.List.{append_assoc, append-nil, length-append, length_push}
use Rattle.std.proofs.lemmas.List.Sums.{length-filter}
use Rattle.std.proofs.lemmas.Bool.Decides.{nat_tests}
use Rattle.std.proofs.lemmas.Bool.{not-true}
use Rattle.base_laws.specs.laws.Places.{at_left}
use Rattle.base_laws.specs.laws.Items.{all_at}
use Rattle.cpo_elab.specs.NamedFirst.{parted}
use Rattle.read_back.specs.Written.{places, from_place}
use Rattle.read_back.proofs.Items.{kept_pass}
use Rattle.read_back.proofs.Truth.{all_from}
use Rattle.read_back.proofs.judge.Limits.{Front}

abbrev pub named : {X : Type 0} → (X → Bool) → List X → List X
named p all = filter p all

abbrev pub unnamed : {X : Type 0} → (X → Bool) → List X → List X
unnamed p all = filter (λ x. not (p x)) all

-- these without a name are written, and the rest are written by these uses
pub record Left {X : Type 0} (p : X → Bool) (all : List X) (uses : List ℕ) (us : List X) : Type 0 where
  pub rest : List X
  pub split : us ++ rest ≡ unnamed p all
  pub are : from_place (count_by p all) uses ≡ places (count_by p all + length us) rest

pub all_left : {X : Type 0} (p : X → Bool) (all : List X) (uses : List ℕ) → from_place (count_by p all) uses ≡ places (count_by p all) (unnamed p all) → Left p all uses []
all_left p all uses are = record { rest = unnamed p all; split = refl; are = are ∙ ap (λ k. places k (unnamed p all)) (none_more (count_by p all)) } where
  none_more : (n : ℕ) → n ≡ n + 0
  none_more n = omega arith

pub front_left : {X : Type 0} (p : X → Bool) (all us rest : List X) → parted p all ≡ all → us ++ rest ≡ unnamed p all → (named p all ++ us) ++ rest ≡ all
front_left p all us rest parts split = append_assoc (named p all) us rest ∙ ap (λ l. named p all ++ l) split ∙ parts

pub none_left : {X : Type 0} (p : X → Bool) (all us : List X) → parted p all ≡ all → Left p all [] us → named p all ++ us ≡ all
none_left {X} p all us parts left = by left.rest left.split left.are where
  by : (rest : List X) → us ++ rest ≡ unnamed p all → [] ≡ places (count_by p all + length us) rest → named p all ++ us ≡ all
  by [] split are = ap (λ l. named p all ++ l) (sym (append-nil us) ∙ split) ∙ parts
  by (d ∷ rest) split are = cc

-- what is at a place

in_front : {X : Type 0} (p : X → Bool) (xs ys : List X) (i : ℕ) (x : X) → slice_get (xs ++ ys) i ≡ Some x → list_all (λ x. not (p x)) ys ≡ true → p x ≡ true → slice_get xs i ≡ Some x
in_front p [] ys i x at all holds = let no = not-true (p x) (all_at (λ x. not (p x)) ys i x all at) in let none : false ≡ true = sym no ∙ holds in cc
in_front p (y ∷ xs) ys zero x at all holds = at
in_front p (y ∷ xs) ys (suc i) x at all holds = in_front p xs ys i x at all holds

outside : (i : ℕ) → i < 0 → ⊥
outside i h = omega arith

within_front : {X : Type 0} (xs ys : List X) (i : ℕ) (x : X) → slice_get (xs ++ ys) i ≡ Some x → i < length xs → slice_get xs i ≡ Some x
within_front [] ys i x at h = absurd (outside i h)
within_front (y ∷ xs) ys zero x at h = at
within_front (y ∷ xs) ys (suc i) x at h = within_front xs ys i x at (back i (length xs) h) where
  back : (i n : ℕ) → suc i < suc n → i < n
  back i n h = omega arith

at_end : {X : Type 0} (xs ys : List X) (x : X) → slice_get (xs ++ x ∷ ys) (length xs) ≡ Some x
at_end [] ys x = refl
at_end (y ∷ xs) ys x = at_end xs ys x

-- the named ones are in front
pub named_there : {X : Type 0} (p : X → Bool) (all us : List X) → parted p all ≡ all → (i : ℕ) (d : X) → slice_get all i ≡ Some d → p d ≡ true → slice_get (named p all ++ us) i ≡ Some d
named_there p all us parts i d at holds =
    at_left (named p all) us i d (in_front p (named p all) (unnamed p all) i d (ap (λ l. slice_get l i) parts ∙ at) (kept_pass (λ x. not (p x)) all) holds)

below : (n i : ℕ) → nat_le n i ≡ false → i < n
below n i h = grind (arith, nat_tests)

-- a number below the first without a name is that of one with a name
pub is_named : {X : Type 0} (p : X → Bool) (all : List X) → parted p all ≡ all → (i : ℕ) (d : X) → slice_get all i ≡ Some d → nat_le (count_by p all) i ≡ false → p d ≡ true
is_named p all parts i d at h =
    let few : i < length (named p all) = omega (arith, length-filter p all, below (count_by p all) i h) in
    all_at p (named p all) i d (kept_pass p all) (within_front (named p all) (unnamed p all) i d (ap (λ l. slice_get l i) parts ∙ at) few)

-- a use of one with a name leaves the same
pub same_left : {X : Type 0} (p : X → Bool) (all : List X) (i : ℕ) (uses : List ℕ) (us : List X) → nat_le (count_by p all) i ≡ false → Left p all (i ∷ uses) us → Left p all uses us
same_left p all i uses us h left = record {
  rest = left.rest;
  split = left.split;
  are = sym (ap (λ b. cond b (i ∷ from_place (count_by p all) uses) (from_place (count_by p all) uses)) h) ∙ left.are;
}

-- a use of one without
pub record Used {X : Type 0} (p : X → Bool) (all : List X) (i : ℕ) (uses : List ℕ) (us : List X) : Type 0 where
  pub def : X
  pub at : slice_get all i ≡ Some def
  pub fails : p def ≡ false
  pub place : length (named p all ++ us) ≡ i
  pub more : Front ((named p all ++ us) ++ def ∷ []) all
  pub left : Left p all uses (us ++ def ∷ [])

head_is : (i : ℕ) (is : List ℕ) (k : ℕ) (ks : List ℕ) → i ∷ is ≡ k ∷ ks → (i ≡ k) × (is ≡ ks)
head_is i is k ks h = (cc, cc)

pub used : {X : Type 0} (p : X → Bool) (all : List X) (i : ℕ) (uses : List ℕ) (us : List X) → parted p all ≡ all → nat_le (count_by p all) i ≡ true → Left p all (i ∷ uses) us → Used p all i uses us
used {X} p all i uses us parts h left = by left.rest left.split (sym (ap (λ b. cond b (i ∷ from_place (count_by p all) uses) (from_place (count_by p all) uses)) h) ∙ left.are) where
  one_more : (n k : ℕ) → n + k + 1 ≡ n + (k + 1)
  one_more n k = omega arith

  place_is : (n k j i : ℕ) → j ≡ n + k → i ≡ n + k → j ≡ i
  place_is n k j i one other = one ∙ sym other

  by : (rest : List X) → us ++ rest ≡ unnamed p all → i ∷ from_place (count_by p all) uses ≡ places (count_by p all + length us) rest → Used p all i uses us
  by [] split are = cc
  by (d ∷ rest) split are =
      let n = count_by p all in
      let heads = head_is i (from_place n uses) (n + length us) (places (n + length us + 1) rest) are in
      let long = length-append (named p all) us ∙ ap (λ k. k + length us) (length-filter p all) in
      let place : length (named p all ++ us) ≡ i = long ∙ sym heads.0 in
      let whole = front_left p all us (d ∷ rest) parts split in
      record {
        def = d;
        at = (λ k. slice_get (sym whole k) (sym place k)) ∙ at_end (named p all ++ us) rest d;
        fails = not-true (p d) (all_from (λ x. not (p x)) us rest d (ap (list_all (λ x. not (p x))) split ∙ kept_pass (λ x. not (p x)) all));
        place = place;
        more = record { rest = rest; is = append_assoc (named p all ++ us) (d ∷ []) rest ∙ whole };
        left = record {
          rest = rest;
          split = append_assoc us (d ∷ []) rest ∙ split;
          are = heads.1 ∙ ap (λ k. places k rest) (one_more n (length us) ∙ ap (λ k. n + k) (sym (length_push us d)));
        };
      }
