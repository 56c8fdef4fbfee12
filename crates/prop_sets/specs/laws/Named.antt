-- Rows of sets under other names: a set of intervals, and that of their places.
use Rattle.std.proofs.lemmas.Bool.{and_parts as both, false_from_ne_true as unmarked}
use Rattle.base_laws.specs.laws.Truth.{three_true as three}
use Rattle.std.specs.Prelude.{◌≡◌, ℕ, ◌<◌, ◌<ℤ◌, Bool, true, false, ◌&&◌, nat_eq, List, [], ◌∷◌, map}
use Rattle.std.proofs.Common.{refl, arith, sym, subst, inl, inr, ap, ◌∙◌}
use Rattle.std.proofs.lemmas.Int.{ints}
use Rattle.task_sets.specs.Times.{Times, has, IsSized, est_at, lct_at, lst_at, ect_at, size_at, least_est, greatest_lct, sum_of, ends_at, is_set, is_task_set, is_outside, is_overload, is_edge, is_detected, overload_row, edge_row, detect_row}
use Rattle.task_sets.specs.laws.Sums.{pick, load, has_cases, same_number, has_first, has_later, least_bound, greatest_bound, Once, sum_once}
use Rattle.task_sets.specs.laws.Ects.{rises_all, some_list, least_reached, greatest_reached, up_from, keep, up_has, keep_has, keep_passes, keep_rises_all, lt_holds}
use Rattle.task_sets.specs.laws.Moved.{map_has}
use Rattle.task_sets.specs.laws.Cuts.{task_set_of, no_task_set, overload_is}
use Rattle.task_sets.specs.laws.NotEndCuts.{detect_facts, facts_detect}
use Rattle.task_sets.specs.laws.EdgeCuts.{once_all, once_rises, edge_facts, facts_edge}

-- f names those that pass t, each by another number, with the numbers that they have
pub record IsNaming (d e : ℕ → Times) (t u : ℕ → Bool) (f : ℕ → ℕ) : Type 0 where
  pub to : (x : ℕ) → t x ≡ true → u (f x) ≡ true
  pub apart : (x y : ℕ) → t x ≡ true → t y ≡ true → f x ≡ f y → x ≡ y
  pub est : (x : ℕ) → t x ≡ true → est_at e (f x) ≡ est_at d x
  pub lct : (x : ℕ) → t x ≡ true → lct_at e (f x) ≡ lct_at d x
  pub size : (x : ℕ) → t x ≡ true → size_at e (f x) ≡ size_at d x

-- the names of a set, in rising order
pub record IsImage (f : ℕ → ℕ) (s z : List ℕ) : Type 0 where
  pub rises : rises_all z ≡ true
  pub there : (x : ℕ) → has s x ≡ true → has z (f x) ≡ true
  pub back : (y : ℕ) → has z y ≡ true → (x : ℕ) × (has s x ≡ true) × (f x ≡ y)

map_there : (f : ℕ → ℕ) (xs : List ℕ) (x : ℕ) → has xs x ≡ true → has (map f xs) (f x) ≡ true
map_there f [] x here = cc
map_there f (z ∷ zs) x here = elim (has_cases (nat_eq z x) zs x here) [
  | inl same ↦ subst (λ w. has (f z ∷ map f zs) (f w) ≡ true) (same_number z x same) (has_first (f z) (map f zs))
  | inr later ↦ has_later (f z) (f x) (map f zs) (map_there f zs x later)
]

-- each set has one
pub image : (f : ℕ → ℕ) (n : ℕ) (s : List ℕ) → ((x : ℕ) → has s x ≡ true → f x < n) → IsImage f s (keep (has (map f s)) (up_from 0 n))
image f n s below = record {
  rises = keep_rises_all (has (map f s)) 0 n;
  there = λ x here. keep_has (has (map f s)) (up_from 0 n) (f x) (up_has 0 n (f x) (omega arith) (let low = below x here in omega (arith, low))) (map_there f s x here);
  back = λ y here. map_has f s y (keep_passes (has (map f s)) (up_from 0 n) y here);
}

-- the same sums, whatever the order
map_once : (f : ℕ → ℕ) (t : ℕ → Bool) (xs : List ℕ) → ((x y : ℕ) → t x ≡ true → t y ≡ true → f x ≡ f y → x ≡ y) → ((y : ℕ) → has xs y ≡ true → t y ≡ true) → Once xs → Once (map f xs)
map_once f t [] apart inside once = tt
map_once f t (x ∷ xs) apart inside once = (
  unmarked (has (map f xs) (f x)) (λ here.
      let h = map_has f xs (f x) here in
      let same : h.0 ≡ x = apart h.0 x (inside h.0 (has_later x h.0 xs h.1)) (inside x (has_first x xs)) h.2 in
      let clash : false ≡ true = sym once.0 ∙ subst (λ w. has xs w ≡ true) same h.1 in
      cc),
  map_once f t xs apart (λ y here. inside y (has_later x y xs here)) once.1,
)

map_sum : (d e : ℕ → Times) (t : ℕ → Bool) (f : ℕ → ℕ) (xs : List ℕ) → ((x : ℕ) → t x ≡ true → size_at e (f x) ≡ size_at d x) → ((y : ℕ) → has xs y ≡ true → t y ≡ true) → sum_of e (map f xs) ≡ sum_of d xs
map_sum d e t f [] size inside = refl
map_sum d e t f (x ∷ xs) size inside =
    let one = size x (inside x (has_first x xs)) in
    let rest = map_sum d e t f xs size (λ y here. inside y (has_later x y xs here)) in
    omega (arith, ints, one, rest)

all_load : (d : ℕ → Times) (t : ℕ → Bool) (xs : List ℕ) → ((y : ℕ) → has xs y ≡ true → t y ≡ true) → load (size_at d) t xs ≡ sum_of d xs
all_load d t [] inside = refl
all_load d t (x ∷ xs) inside =
    let one : pick (t x) (size_at d x) ≡ size_at d x = ap (λ b. pick b (size_at d x)) (inside x (has_first x xs)) in
    let rest = all_load d t xs (λ y here. inside y (has_later x y xs here)) in
    omega (arith, ints, one, rest)

-- two lists of the same numbers, each once
same_sum : (d : ℕ → Times) (xs ys : List ℕ) → IsSized d → Once xs → Once ys → ((y : ℕ) → has xs y ≡ true → has ys y ≡ true) → ((y : ℕ) → has ys y ≡ true → has xs y ≡ true) → sum_of d xs ≡ sum_of d ys
same_sum d xs ys valid once also there back =
    let up = sum_once d ys xs valid once there in
    let down = sum_once d xs ys valid also back in
    let all = all_load d (has xs) ys back in
    let other = all_load d (has ys) xs there in
    omega (arith, ints, up, down, all, other)

-- the numbers of a set that isn't empty
pub record SameEnds (d e : ℕ → Times) (x : ℕ) (xs : List ℕ) (y : ℕ) (ys : List ℕ) : Type 0 where
  pub lct : greatest_lct e y ys ≡ greatest_lct d x xs
  pub ends : ends_at e y ys ≡ ends_at d x xs

same_ends : (d e : ℕ → Times) (t u : ℕ → Bool) (f : ℕ → ℕ) (x : ℕ) (xs : List ℕ) (y : ℕ) (ys : List ℕ) → IsSized e → IsNaming d e t u f → ((w : ℕ) → has (x ∷ xs) w ≡ true → t w ≡ true)
    → Once (x ∷ xs) → Once (y ∷ ys) → ((w : ℕ) → has (x ∷ xs) w ≡ true → has (y ∷ ys) (f w) ≡ true) → ((v : ℕ) → has (y ∷ ys) v ≡ true → (w : ℕ) × (has (x ∷ xs) w ≡ true) × (f w ≡ v)) → SameEnds d e x xs y ys
same_ends d e t u f x xs y ys valid names inside once also there back =
    let a = least_reached d x xs in
    let a_same = names.est a.0 (inside a.0 a.1) in
    let low = least_bound e y ys (f a.0) (there a.0 a.1) in
    let b = least_reached e y ys in
    let w = back b.0 b.1 in
    let w_same = names.est w.0 (inside w.0 w.1) in
    let w_is : est_at e (f w.0) ≡ est_at e b.0 = ap (est_at e) w.2 in
    let high = least_bound d x xs w.0 w.1 in
    let c = greatest_reached d x xs in
    let c_same = names.lct c.0 (inside c.0 c.1) in
    let top = greatest_bound e y ys (f c.0) (there c.0 c.1) in
    let g = greatest_reached e y ys in
    let v = back g.0 g.1 in
    let v_same = names.lct v.0 (inside v.0 v.1) in
    let v_is : lct_at e (f v.0) ≡ lct_at e g.0 = ap (lct_at e) v.2 in
    let most = greatest_bound d x xs v.0 v.1 in
    let a_is = a.2 in
    let b_is = b.2 in
    let c_is = c.2 in
    let g_is = g.2 in
    let sum = map_sum d e t f (x ∷ xs) names.size inside in
    let same = same_sum e (map f (x ∷ xs)) (y ∷ ys) valid (map_once f t (x ∷ xs) names.apart inside once) also
    (λ k here. let h = map_has f (x ∷ xs) k here in subst (λ n. has (y ∷ ys) n ≡ true) h.2 (there h.0 h.1))
    (λ k here. let h = back k here in subst (λ n. has (map f (x ∷ xs)) n ≡ true) h.2 (map_there f (x ∷ xs) h.0 h.1)) in
    let first : least_est e y ys ≡ least_est d x xs = omega (arith, ints, a_same, low, w_same, w_is, high, a_is, b_is) in
    record {
      lct = omega (arith, ints, c_same, top, v_same, v_is, most, c_is, g_is);
      ends = omega (arith, ints, first, sum, same);
    }

-- a set of names is one of those that pass the other test
named_in : (d e : ℕ → Times) (t u : ℕ → Bool) (f : ℕ → ℕ) (s z : List ℕ) → IsNaming d e t u f → IsImage f s z → ((w : ℕ) → has s w ≡ true → t w ≡ true) → (v : ℕ) → has z v ≡ true → u v ≡ true
named_in d e t u f s z names set inside v here = let h = set.back v here in subst (λ n. u n ≡ true) h.2 (names.to h.0 (inside h.0 h.1))

overload_of_list : (d e : ℕ → Times) (t u : ℕ → Bool) (f : ℕ → ℕ) (x : ℕ) (xs : List ℕ) (y : ℕ) (ys : List ℕ) → IsSized e → IsNaming d e t u f → IsImage f (x ∷ xs) (y ∷ ys) → overload_row d t (x ∷ xs) ≡ true → overload_row e u (y ∷ ys) ≡ true
overload_of_list d e t u f x xs y ys valid names set is =
    let parts = both (is_task_set t (x ∷ xs)) (is_overload (map d (x ∷ xs))) is in
    let w = task_set_of t x xs parts.0 in
    let same = same_ends d e t u f x xs y ys valid names w.inside (once_rises x xs w.rises) (once_rises y ys set.rises) set.there set.back in
    let late = lt_holds (greatest_lct d x xs) (ends_at d x xs) parts.1 in
    overload_is e u y ys (record { rises = set.rises; inside = named_in d e t u f (x ∷ xs) (y ∷ ys) names set w.inside }) (omega (arith, ints, same.lct, same.ends, late))

pub overload_named : (d e : ℕ → Times) (t u : ℕ → Bool) (f : ℕ → ℕ) (s z : List ℕ) → IsSized e → IsNaming d e t u f → IsImage f s z → overload_row d t s ≡ true → overload_row e u z ≡ true
overload_named d e t u f [] z valid names set is = absurd (no_task_set t (both (is_task_set t []) (is_overload []) is).0)
overload_named d e t u f (x ∷ xs) z valid names set is =
    let made = some_list z (f x) (set.there x (has_first x xs)) in
    subst (λ l. overload_row e u l ≡ true) (sym made.2)
    (overload_of_list d e t u f x xs made.0 made.1 valid names (subst (IsImage f (x ∷ xs)) made.2 set) is)

-- DETECT, where i and those of the set have the same latest starts and i the same earliest completion
detect_of_list : (d e : ℕ → Times) (t u : ℕ → Bool) (f : ℕ → ℕ) (i x : ℕ) (xs : List ℕ) (y : ℕ) (ys : List ℕ) → IsSized e → IsNaming d e t u f → IsImage f (x ∷ xs) (y ∷ ys)
    → ((w : ℕ) → t w ≡ true → lst_at e (f w) ≡ lst_at d w) → ect_at e (f i) ≡ ect_at d i → t i ≡ true → detect_row d t i (x ∷ xs) ≡ true → detect_row e u (f i) (y ∷ ys) ≡ true
detect_of_list d e t u f i x xs y ys valid names set starts end one is =
    let h = detect_facts d t i x xs is in
    let same = same_ends d e t u f x xs y ys valid names h.each (once_rises x xs h.rises) (once_rises y ys set.rises) set.there set.back in
    let mine = starts i one in
    facts_detect e u (f i) y ys (names.to i one) (record {
      rises = set.rises;
      other = unmarked (has (y ∷ ys) (f i)) (λ here.
          let b = set.back (f i) here in
          let is_i : b.0 ≡ i = names.apart b.0 i (h.each b.0 b.1) one b.2 in
          let clash : false ≡ true = sym h.other ∙ subst (λ n. has (x ∷ xs) n ≡ true) is_i b.1 in
          cc);
      each = named_in d e t u f (x ∷ xs) (y ∷ ys) names set h.each;
      sum = omega (arith, ints, h.sum, same.ends, mine);
      ends = λ v here.
          let b = set.back v here in
          let start = starts b.0 (h.each b.0 b.1) in
          let early = h.ends b.0 b.1 in
          subst (λ n. lst_at e n <ℤ ect_at e (f i)) b.2 (omega (arith, ints, start, early, end));
    })

pub detect_named : (d e : ℕ → Times) (t u : ℕ → Bool) (f : ℕ → ℕ) (i : ℕ) (s z : List ℕ) → IsSized e → IsNaming d e t u f → IsImage f s z
    → ((w : ℕ) → t w ≡ true → lst_at e (f w) ≡ lst_at d w) → ect_at e (f i) ≡ ect_at d i → t i ≡ true → detect_row d t i s ≡ true → detect_row e u (f i) z ≡ true
detect_named d e t u f i [] z valid names set starts end one is = absurd (no_task_set t (three (is_outside t i []) (is_task_set t []) (is_detected (d i) []) is).1)
detect_named d e t u f i (x ∷ xs) z valid names set starts end one is =
    let made = some_list z (f x) (set.there x (has_first x xs)) in
    subst (λ l. detect_row e u (f i) l ≡ true) (sym made.2)
    (detect_of_list d e t u f i x xs made.0 made.1 valid names (subst (IsImage f (x ∷ xs)) made.2 set) starts end one is)

-- EDGE, where i has the same latest start
with_first : (f : ℕ → ℕ) (i : ℕ) (s z : List ℕ) → IsImage f s z → (w : ℕ) → has (i ∷ s) w ≡ true → has (f i ∷ z) (f w) ≡ true
with_first f i s z set w here = elim (has_cases (nat_eq i w) s w here) [
  | inl same ↦ subst (λ n. has (f i ∷ z) (f n) ≡ true) (same_number i w same) (has_first (f i) z)
  | inr later ↦ has_later (f i) (f w) z (set.there w later)
]

with_back : (f : ℕ → ℕ) (i : ℕ) (s z : List ℕ) → IsImage f s z → (v : ℕ) → has (f i ∷ z) v ≡ true → (w : ℕ) × (has (i ∷ s) w ≡ true) × (f w ≡ v)
with_back f i s z set v here = elim (has_cases (nat_eq (f i) v) z v here) [
  | inl same ↦ (i, has_first i s, same_number (f i) v same)
  | inr later ↦ let h = set.back v later in (h.0, has_later i h.0 s h.1, h.2)
]

edge_of_list : (d e : ℕ → Times) (t u : ℕ → Bool) (f : ℕ → ℕ) (i x : ℕ) (xs us : List ℕ) (v : ℕ) (vs : List ℕ) (y : ℕ) (ys uz : List ℕ) (z : ℕ) (zs : List ℕ) → IsSized e → IsNaming d e t u f
    → IsImage f (x ∷ xs) (y ∷ ys) → IsImage f us uz → IsImage f (v ∷ vs) (z ∷ zs) → lst_at e (f i) ≡ lst_at d i → t i ≡ true → edge_row d t i (x ∷ xs) us (v ∷ vs) ≡ true → edge_row e u (f i) (y ∷ ys) uz (z ∷ zs) ≡ true
edge_of_list d e t u f i x xs us v vs y ys uz z zs valid names set part late start one is =
    let h = edge_facts d t i x xs us v vs is in
    let in_s = h.each in
    let in_u : (w : ℕ) → has us w ≡ true → t w ≡ true = λ w here. in_s w (h.us_in w here) in
    let in_v : (w : ℕ) → has (v ∷ vs) w ≡ true → t w ≡ true = λ w here. in_s w (h.vs_in.inside w here) in
    let in_iu : (w : ℕ) → has (i ∷ us) w ≡ true → t w ≡ true = λ w here. elim (has_cases (nat_eq i w) us w here) [ inl same ↦ subst (λ n. t n ≡ true) (same_number i w same) one | inr later ↦ in_u w later ] in
    let away : (l m : List ℕ) → IsImage f l m → ((w : ℕ) → has l w ≡ true → has (x ∷ xs) w ≡ true) → has m (f i) ≡ false = λ l m of inside. unmarked (has m (f i)) (λ here.
    let b = of.back (f i) here in
    let is_i : b.0 ≡ i = names.apart b.0 i (in_s b.0 (inside b.0 b.1)) one b.2 in
    let clash : false ≡ true = sym h.other ∙ subst (λ n. has (x ∷ xs) n ≡ true) is_i (inside b.0 b.1) in
    cc) in
    let not_u : has us i ≡ false = unmarked (has us i) (λ here. let clash : false ≡ true = sym h.other ∙ h.us_in i here in cc) in
    let whole = same_ends d e t u f x xs y ys valid names in_s (once_rises x xs h.rises) (once_rises y ys set.rises) set.there set.back in
    let with_i = same_ends d e t u f i us (f i) uz valid names in_iu (not_u, once_all us h.us_rise) (away us uz part h.us_in, once_all uz part.rises) (with_first f i us uz part) (with_back f i us uz part) in
    let behind = same_ends d e t u f v vs z zs valid names in_v (once_rises v vs h.vs_in.rises) (once_rises z zs late.rises) late.there late.back in
    facts_edge e u (f i) y ys uz z zs (names.to i one) (record {
      rises = set.rises;
      other = away (x ∷ xs) (y ∷ ys) set (λ w here. here);
      each = named_in d e t u f (x ∷ xs) (y ∷ ys) names set in_s;
      us_rise = part.rises;
      us_in = λ w here. let b = part.back w here in subst (λ n. has (y ∷ ys) n ≡ true) b.2 (set.there b.0 (h.us_in b.0 b.1));
      vs_in = record { rises = late.rises; inside = λ w here. let b = late.back w here in subst (λ n. has (y ∷ ys) n ≡ true) b.2 (set.there b.0 (h.vs_in.inside b.0 b.1)) };
      full = omega (arith, ints, h.full, whole.lct, with_i.ends);
      late = omega (arith, ints, h.late, start, behind.ends);
    })

pub edge_named : (d e : ℕ → Times) (t u : ℕ → Bool) (f : ℕ → ℕ) (i : ℕ) (s us vs sz uz vz : List ℕ) → IsSized e → IsNaming d e t u f
    → IsImage f s sz → IsImage f us uz → IsImage f vs vz → lst_at e (f i) ≡ lst_at d i → t i ≡ true → edge_row d t i s us vs ≡ true → edge_row e u (f i) sz uz vz ≡ true
edge_named d e t u f i [] us vs sz uz vz valid names set part late start one is =
    let a = both (is_outside t i [] && is_task_set t [] && is_set (has []) us && is_task_set (has []) vs) (is_edge (d i) [] (map d us) (map d vs)) is in
    let b = both (is_outside t i [] && is_task_set t [] && is_set (has []) us) (is_task_set (has []) vs) a.0 in
    absurd (no_task_set t (three (is_outside t i []) (is_task_set t []) (is_set (has []) us) b.0).1)
edge_named d e t u f i (x ∷ xs) us [] sz uz vz valid names set part late start one is =
    let a = both (is_outside t i (x ∷ xs) && is_task_set t (x ∷ xs) && is_set (has (x ∷ xs)) us && is_task_set (has (x ∷ xs)) []) (is_edge (d i) (map d (x ∷ xs)) (map d us) []) is in
    let b = both (is_outside t i (x ∷ xs) && is_task_set t (x ∷ xs) && is_set (has (x ∷ xs)) us) (is_task_set (has (x ∷ xs)) []) a.0 in
    absurd (no_task_set (has (x ∷ xs)) b.1)
edge_named d e t u f i (x ∷ xs) us (v ∷ vs) sz uz vz valid names set part late start one is =
    let made = some_list sz (f x) (set.there x (has_first x xs)) in
    let behind = some_list vz (f v) (late.there v (has_first v vs)) in
    subst (λ l. edge_row e u (f i) l uz vz ≡ true) (sym made.2) (subst (λ l. edge_row e u (f i) (made.0 ∷ made.1) uz l ≡ true) (sym behind.2)
    (edge_of_list d e t u f i x xs us v vs made.0 made.1 uz behind.0 behind.1 valid names (subst (IsImage f (x ∷ xs)) made.2 set) part (subst (IsImage f (v ∷ vs)) behind.2 late) start one is))
