-- The names of a valid model are apart, and each leads back to the number of what it names.
use Rattle.std.proofs.Common.{◌≡◌, ℕ, zero, suc, ◌+◌, Bool, true, false, not, cond, List, [], ◌∷◌, ◌++◌, map, filter_map, length, position, slice_get, Option, Some, None, is_some, nat_lt, refl, sym, ap, ◌∙◌, arith, option_map, unwrap_or}
use Rattle.std.specs.List.{list_all, position_or_len, cons_option}
use Rattle.std.specs.Str.{bytes_eq}
use Rattle.std.proofs.lemmas.Cmp.{nat_list_eq_equiv}
use Rattle.std.proofs.lemmas.List.{length-map}
use Rattle.std.proofs.lemmas.Bool.{and_parts, and_from, not-true}
use Rattle.base_laws.specs.laws.Places.{within}
use Rattle.sched_model.specs.Words.{passes, pairwise}
use Rattle.sched_model.specs.Data.{Data}
use Rattle.sched_model.specs.Valid.{all_names, IsValid, is_name, is_itv, is_mat}
use Rattle.cpo_elab.specs.declared.names.Sort.TheVariants.{Interval, Matrix, State}
use Rattle.cpo_elab.specs.Named.{number_of, itv_of, itvs_of, mat_of, stf_of}
use Rattle.read_back.proofs.Truth.{all_parts}
use Rattle.read_back.proofs.Items.{item_at}
use Rattle.sched_base.specs.declared.ids.Itv.{Itv}
use Rattle.sched_base.specs.declared.ids.Mat.{Mat}
use Rattle.sched_base.specs.declared.ids.Stf.{Stf}
use Rattle.sched_text.specs.Pieces.{interval_name, matrix_name, state_name, interval_names}

abbrev pub differ : List ℕ → List ℕ → Bool
differ a b = not (bytes_eq a b)

abbrev pub AreApart : List (List ℕ) → Type 0
AreApart ns = pairwise differ ns ≡ true

-- parts of a list whose names are apart

pub apart_left : (xs ys : List (List ℕ)) → AreApart (xs ++ ys) → AreApart xs
apart_left [] ys apart = refl
apart_left (x ∷ xs) ys apart = let parts = and_parts (list_all (differ x) (xs ++ ys)) _ apart in and_from _ _ (all_parts (differ x) xs ys parts.0).0 (apart_left xs ys parts.1)

apart_right : (xs ys : List (List ℕ)) → AreApart (xs ++ ys) → AreApart ys
apart_right [] ys apart = apart
apart_right (x ∷ xs) ys apart = apart_right xs ys (and_parts (list_all (differ x) (xs ++ ys)) _ apart).1

-- the place of a name

in_later : {X : Type 0} (f : X → Option (List ℕ)) (q : List ℕ → Bool) (xs : List X) (i : ℕ) (x : X) (n : List ℕ) → slice_get xs i ≡ Some x → f x ≡ Some n → list_all q (filter_map f xs) ≡ true → q n ≡ true
in_later f q [] i x n there is all = cc
in_later f q (y ∷ ys) zero x n there is all = first (f y) (let same : y ≡ x = cc there in ap f same ∙ is) all where
  first : (o : Option (List ℕ)) → o ≡ Some n → list_all q (cons_option o (filter_map f ys)) ≡ true → q n ≡ true
  first None h all = cc
  first (Some k) h all = let same : k ≡ n = cc h in ap q (sym same) ∙ (and_parts (q k) _ all).0
in_later f q (y ∷ ys) (suc i) x n there is all = in_later f q ys i x n there is (rest (f y) all) where
  rest : (o : Option (List ℕ)) → list_all q (cons_option o (filter_map f ys)) ≡ true → list_all q (filter_map f ys) ≡ true
  rest None all = all
  rest (Some k) all = (and_parts (q k) _ all).1

rest_apart : (o : Option (List ℕ)) (ns : List (List ℕ)) → AreApart (cons_option o ns) → AreApart ns
rest_apart None ns apart = apart
rest_apart (Some k) ns apart = (and_parts (list_all (differ k) ns) _ apart).1

other_first : {X : Type 0} (f : X → Option (List ℕ)) (o : Option (List ℕ)) (xs : List X) (i : ℕ) (x : X) (n : List ℕ) → slice_get xs i ≡ Some x → f x ≡ Some n → AreApart (cons_option o (filter_map f xs)) → passes (bytes_eq n) o ≡ false
other_first f None xs i x n there is apart = refl
other_first f (Some k) xs i x n there is apart =
    nat_list_eq_equiv.symm n k ∙ not-true (bytes_eq k n) (in_later f (differ k) xs i x n there is (and_parts (list_all (differ k) (filter_map f xs)) _ apart).0)

one_more : (b : Bool) (i j : ℕ) → b ≡ false → j ≡ i → cond (not b) (1 + j) 0 ≡ suc i
one_more true i j h is = cc
one_more false i j h is = omega arith

found_at : {X : Type 0} (f : X → Option (List ℕ)) (xs : List X) (i : ℕ) (x : X) (n : List ℕ) → slice_get xs i ≡ Some x → f x ≡ Some n → AreApart (filter_map f xs) → position_or_len (passes (bytes_eq n)) (map f xs) ≡ i
found_at f [] i x n there is apart = cc
found_at f (y ∷ ys) zero x n there is apart =
    let same : y ≡ x = cc there in
    let holds : passes (bytes_eq n) (f y) ≡ true = ap (passes (bytes_eq n)) (ap f same ∙ is) ∙ nat_list_eq_equiv.refl n in
    ap (λ b. cond (not b) (1 + position_or_len (passes (bytes_eq n)) (map f ys)) 0) holds
found_at f (y ∷ ys) (suc i) x n there is apart =
    one_more (passes (bytes_eq n) (f y)) i _ (other_first f (f y) ys i x n there is apart) (found_at f ys i x n there is (rest_apart (f y) (filter_map f ys) apart))

position_by : (b : Bool) (i j : ℕ) → b ≡ true → j ≡ i → cond b (Some j) None ≡ Some i
position_by true i j h is = ap Some is
position_by false i j h is = cc

pub placed : {X : Type 0} (f : X → Option (List ℕ)) (xs : List X) (i : ℕ) (x : X) (n : List ℕ) → slice_get xs i ≡ Some x → f x ≡ Some n → AreApart (filter_map f xs) → position (passes (bytes_eq n)) (map f xs) ≡ Some i
placed f xs i x n there is apart =
    let at = found_at f xs i x n there is apart in
    position_by _ i _ (ap (λ j. nat_lt j (length (map f xs))) at ∙ ap (nat_lt i) (length-map xs f) ∙ within xs i ∙ ap is_some there) at

pub all_named : {X : Type 0} (f : X → List ℕ) (xs : List X) → filter_map (λ x. Some (f x)) xs ≡ map f xs
all_named f [] = refl
all_named f (x ∷ xs) = ap (λ ns. f x ∷ ns) (all_named f xs)

-- the names of each sort are apart
pub record Apart (m : Data) : Type 0 where
  pub intervals : AreApart (map (λ d. d.name) m.intervals)
  pub matrices : AreApart (map (λ d. d.name) m.matrices)
  pub sequences : AreApart (filter_map (λ d. d.name) m.sequences)
  pub cumuls : AreApart (filter_map (λ d. d.name) m.cumuls)
  pub states : AreApart (map (λ d. d.name) m.states)

pub names_apart : (m : Data) → IsValid m → AreApart (all_names m)
names_apart m v = (and_parts (list_all is_name (all_names m)) _ v.names).1

pub apart : (m : Data) → IsValid m → Apart m
apart m v =
    let a = map (λ d. d.name) m.intervals in
    let b = map (λ d. d.name) m.matrices in
    let c = filter_map (λ d. d.name) m.sequences in
    let d = filter_map (λ d. d.name) m.cumuls in
    let e = map (λ d. d.name) m.states in
    let all = names_apart m v in
    let four = apart_left (a ++ b ++ c ++ d) e all in
    let three = apart_left (a ++ b ++ c) d four in
    let two = apart_left (a ++ b) c three in
    record {
      intervals = apart_left a b two;
      matrices = apart_right a b two;
      sequences = apart_right (a ++ b) c three;
      cumuls = apart_right (a ++ b ++ c) d four;
      states = apart_right (a ++ b ++ c ++ d) e all;
    }

-- numbers and ids

numbered : {X : Type 0} (f : X → List ℕ) (xs ys : List X) (i : ℕ) → ys ≡ xs → AreApart (map f xs) → nat_lt i (length xs) ≡ true
    → position (passes (bytes_eq (unwrap_or (option_map f (slice_get xs i)) []))) (map (λ d. Some (f d)) ys) ≡ Some i
numbered f xs ys i same are there =
    let item = item_at xs i there in
    ap (λ o. position (passes (bytes_eq (unwrap_or (option_map f o) []))) (map (λ d. Some (f d)) ys)) item.1
    ∙ ap (λ ds. position (passes (bytes_eq (f item.0))) (map (λ d. Some (f d)) ds)) same
    ∙ placed (λ d. Some (f d)) xs i item.0 (f item.0) item.1 refl (ap (pairwise differ) (all_named f xs) ∙ are)

pub number_itv : (m n : Data) → n.intervals ≡ m.intervals → IsValid m → (x : Itv) → is_itv m x ≡ true → number_of n Interval (interval_name m x) ≡ Some x.0
unfolding number_of
number_itv m n same v x there = numbered (λ d. d.name) m.intervals n.intervals x.0 same (apart m v).intervals there

pub number_mat : (m n : Data) → n.matrices ≡ m.matrices → IsValid m → (x : Mat) → is_mat m x ≡ true → number_of n Matrix (matrix_name m x) ≡ Some x.0
unfolding number_of
number_mat m n same v x there = numbered (λ d. d.name) m.matrices n.matrices x.0 same (apart m v).matrices there

pub number_stf : (m n : Data) → n.states ≡ m.states → IsValid m → (g : Stf) → nat_lt g.0 (length m.states) ≡ true → number_of n State (state_name m g) ≡ Some g.0
unfolding number_of
number_stf m n same v g there = numbered (λ d. d.name) m.states n.states g.0 same (apart m v).states there

pub itv_back : (m n : Data) → n.intervals ≡ m.intervals → IsValid m → (x : Itv) → is_itv m x ≡ true → itv_of n (interval_name m x) ≡ x
itv_back m n same v x there = let is = number_itv m n same v x there in λ i. record { 0 = unwrap_or (is i) 0 }

pub mat_back : (m n : Data) → n.matrices ≡ m.matrices → IsValid m → (x : Mat) → is_mat m x ≡ true → mat_of n (matrix_name m x) ≡ x
mat_back m n same v x there = let is = number_mat m n same v x there in λ i. record { 0 = unwrap_or (is i) 0 }

pub stf_back : (m n : Data) → n.states ≡ m.states → IsValid m → (g : Stf) → nat_lt g.0 (length m.states) ≡ true → stf_of n (state_name m g) ≡ g
stf_back m n same v g there = let is = number_stf m n same v g there in λ i. record { 0 = unwrap_or (is i) 0 }

pub itvs_back : (m n : Data) → n.intervals ≡ m.intervals → IsValid m → (xs : List Itv) → list_all (is_itv m) xs ≡ true → itvs_of n (interval_names m xs) ≡ xs
itvs_back m n same v [] all = refl
itvs_back m n same v (x ∷ xs) all =
    let parts = and_parts (is_itv m x) _ all in
    let first = itv_back m n same v x parts.0 in
    let rest = itvs_back m n same v xs parts.1 in
    λ i. first i ∷ rest i
