-- The names of a valid model are words, and each is one interval's.
use Rattle.std.specs.Prelude.{◌≡◌, ℕ, zero, suc, ◌<◌, Bool, true, not, ◌&&◌, nat_lt, List, [], ◌∷◌, ◌++◌, length, map, filter_map, slice_get, option_map, unwrap_or}
use Rattle.std.proofs.Common.{refl, sym, ap, arith}
use Rattle.std.specs.List.{list_all}
use Rattle.std.specs.Str.{bytes_eq}
use Rattle.std.proofs.lemmas.Bool.Decides.{nat_tests}
use Rattle.std.proofs.lemmas.Slice.Eq.{bytes_eq-Decides}
use Rattle.std.proofs.lemmas.Bool.{and_parts, and_from}
use Rattle.base_laws.specs.laws.Lists.{same_lists}
use Rattle.sched_base.specs.declared.ids.Itv.{Itv}
use Rattle.sched_model.specs.declared.types.IntervalDef.{IntervalDef}
use Rattle.sched_model.specs.Words.{pairwise}
use Rattle.sched_model.specs.Data.{Data}
use Rattle.sched_model.specs.Valid.{IsValid, is_itv, is_name, is_name_byte, is_letter, all_names}
use Rattle.textline.specs.Lines.{Bytes}
use Rattle.textline.specs.Words.{is_plain, is_word, are_words}
use Rattle.sched_text.specs.Pieces.{interval_name, interval_names}

plain_byte : (c : ℕ) → is_name_byte c ≡ true → is_plain c ≡ true
plain_byte c h = grind (arith, nat_tests)

plain_letter : (c : ℕ) → is_letter c ≡ true → is_plain c ≡ true
plain_letter c h = grind (arith, nat_tests)

plain_bytes : (cs : Bytes) → list_all is_name_byte cs ≡ true → is_word cs ≡ true
plain_bytes [] h = refl
plain_bytes (c ∷ cs) h = let two = and_parts (is_name_byte c) (list_all is_name_byte cs) h in and_from (is_plain c) (is_word cs) (plain_byte c two.0) (plain_bytes cs two.1)

-- a name is a word
pub name_is_word : (n : Bytes) → is_name n ≡ true → is_word n ≡ true
name_is_word [] h = cc
name_is_word (c ∷ cs) h =
    let two = and_parts (is_letter c && list_all is_name_byte cs) (nat_lt (length cs) 64) h in
    let one = and_parts (is_letter c) (list_all is_name_byte cs) two.0 in and_from (is_plain c) (is_word cs) (plain_letter c one.0) (plain_bytes cs one.1)

all_front : {X : Type 0} → (t : X → Bool) (xs ys : List X) → list_all t (xs ++ ys) ≡ true → list_all t xs ≡ true
all_front t [] ys h = refl
all_front t (x ∷ xs) ys h = let two = and_parts (t x) (list_all t (xs ++ ys)) h in and_from (t x) (list_all t xs) two.0 (all_front t xs ys two.1)

pairs_front : {X : Type 0} → (r : X → X → Bool) (xs ys : List X) → pairwise r (xs ++ ys) ≡ true → pairwise r xs ≡ true
pairs_front r [] ys h = refl
pairs_front r (x ∷ xs) ys h =
    let two = and_parts (list_all (r x) (xs ++ ys)) (pairwise r (xs ++ ys)) h in and_from (list_all (r x) xs) (pairwise r xs) (all_front (r x) xs ys two.0) (pairs_front r xs ys two.1)

front_of_five : {X : Type 0} → (t : X → Bool) (a b c d e : List X) → list_all t (a ++ b ++ c ++ d ++ e) ≡ true → list_all t a ≡ true
front_of_five t a b c d e h = all_front t a b (all_front t (a ++ b) c (all_front t (a ++ b ++ c) d (all_front t (a ++ b ++ c ++ d) e h)))

pairs_of_five : {X : Type 0} → (r : X → X → Bool) (a b c d e : List X) → pairwise r (a ++ b ++ c ++ d ++ e) ≡ true → pairwise r a ≡ true
pairs_of_five r a b c d e h = pairs_front r a b (pairs_front r (a ++ b) c (pairs_front r (a ++ b ++ c) d (pairs_front r (a ++ b ++ c ++ d) e h)))

abbrev differ : Bytes → Bytes → Bool
differ x y = not (bytes_eq x y)

abbrev names : List IntervalDef → List Bytes
names ds = map (λ d. d.name) ds

abbrev nth : List IntervalDef → ℕ → Bytes
nth ds i = unwrap_or (option_map (λ d. d.name) (slice_get ds i)) []

nth_passes : (t : Bytes → Bool) (ds : List IntervalDef) (i : ℕ) → list_all t (names ds) ≡ true → i < length ds → t (nth ds i) ≡ true
nth_passes t [] i h within = absurd (omega arith)
nth_passes t (d ∷ ds) zero h within = (and_parts (t d.name) (list_all t (names ds)) h).0
nth_passes t (d ∷ ds) (suc i) h within = nth_passes t ds i (and_parts (t d.name) (list_all t (names ds)) h).1 (omega arith)

no_differ : (x y : Bytes) → differ x y ≡ true → x ≡ y → ⊥
no_differ x y h e = let same : bytes_eq x y ≡ true = (bytes_eq-Decides x y).1 e in cc

same_place : (ds : List IntervalDef) (i j : ℕ) → pairwise differ (names ds) ≡ true → i < length ds → j < length ds → nth ds i ≡ nth ds j → i ≡ j
same_place [] i j h hi hj e = absurd (omega arith)
same_place (d ∷ ds) zero zero h hi hj e = refl
same_place (d ∷ ds) zero (suc j) h hi hj e =
    let two = and_parts (list_all (differ d.name) (names ds)) (pairwise differ (names ds)) h in
    absurd (no_differ d.name (nth ds j) (nth_passes (differ d.name) ds j two.0 (omega arith)) e)
same_place (d ∷ ds) (suc i) zero h hi hj e =
    let two = and_parts (list_all (differ d.name) (names ds)) (pairwise differ (names ds)) h in
    absurd (no_differ d.name (nth ds i) (nth_passes (differ d.name) ds i two.0 (omega arith)) (sym e))
same_place (d ∷ ds) (suc i) (suc j) h hi hj e =
    let two = and_parts (list_all (differ d.name) (names ds)) (pairwise differ (names ds)) h in
    ap suc (same_place ds i j two.1 (omega arith) (omega arith) e)

within : (m : Data) (x : Itv) → is_itv m x ≡ true → x.0 < length m.intervals
within m x h = grind (arith, nat_tests)

-- the names of the intervals are names, and each is another
pub record AreNames (ds : List IntervalDef) : Type 0 where
  pub proper : list_all is_name (names ds) ≡ true
  pub distinct : pairwise differ (names ds) ≡ true

pub names_of : (m : Data) → IsValid m → AreNames m.intervals
names_of m valid =
    let two = and_parts (list_all is_name (all_names m)) (pairwise differ (all_names m)) valid.names in
    let matrices = map (λ d. d.name) m.matrices in
    let sequences = filter_map (λ d. d.name) m.sequences in
    let cumuls = filter_map (λ d. d.name) m.cumuls in
    let states = map (λ d. d.name) m.states in record {
      proper = front_of_five is_name (names m.intervals) matrices sequences cumuls states two.0;
      distinct = pairs_of_five differ (names m.intervals) matrices sequences cumuls states two.1;
    }

pub name_told : (m : Data) → AreNames m.intervals → (x y : Itv) → is_itv m x ≡ true → is_itv m y ≡ true → interval_name m x ≡ interval_name m y → x ≡ y
name_told m are x y hx hy e = ap (λ n. let it : Itv = record { 0 = n } in it) (same_place m.intervals x.0 y.0 are.distinct (within m x hx) (within m y hy) e)

first_is : {A : Type 0} → (a b : A) (us vs : List A) → a ∷ us ≡ b ∷ vs → a ≡ b
first_is a b us vs e = cc

others_are : {A : Type 0} → (a b : A) (us vs : List A) → a ∷ us ≡ b ∷ vs → us ≡ vs
others_are a b us vs e = cc

pub names_told : (m : Data) → AreNames m.intervals → (xs ys : List Itv) → list_all (is_itv m) xs ≡ true → list_all (is_itv m) ys ≡ true → interval_names m xs ≡ interval_names m ys → xs ≡ ys
names_told m are [] [] hx hy e = refl
names_told m are [] (y ∷ ys) hx hy e = cc
names_told m are (x ∷ xs) [] hx hy e = cc
names_told m are (x ∷ xs) (y ∷ ys) hx hy e =
    let h = and_parts (is_itv m x) (list_all (is_itv m) xs) hx in
    let k = and_parts (is_itv m y) (list_all (is_itv m) ys) hy in
    same_lists x y xs ys (name_told m are x y h.0 k.0 (first_is _ _ _ _ e)) (names_told m are xs ys h.1 k.1 (others_are _ _ _ _ e))

pub names_are_words : (m : Data) → AreNames m.intervals → (xs : List Itv) → list_all (is_itv m) xs ≡ true → are_words (interval_names m xs) ≡ true
names_are_words m are [] h = refl
names_are_words m are (x ∷ xs) h =
    let two = and_parts (is_itv m x) (list_all (is_itv m) xs) h in
    and_from (is_word (interval_name m x)) (are_words (interval_names m xs)) (name_is_word (interval_name m x) (nth_passes is_name m.intervals x.0 are.proper (within m x two.0))) (names_are_words m are xs two.1)
