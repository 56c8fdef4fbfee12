-- Names and their numbers.
use Rattle.std.proofs.Common.{◌≡◌, ℕ, zero, suc, ◌+◌, ◌<◌, ◌≤◌, Bool, true, false, cond, if◌then◌else◌, List, [], ◌∷◌, ◌++◌, map, length, take, get_or, slice_get, option_map, unwrap_or, nat_lt, Some, None, refl, sym, ap, ◌∙◌, arith}
use Rattle.std.specs.List.{list_all}
use Rattle.std.specs.Str.{bytes_eq}
use Rattle.std.specs.Map.{lookup}
use Rattle.std.proofs.lemmas.Bool.{and_parts}
use Rattle.std.proofs.lemmas.Bool.Decides.{nat_tests}
use Rattle.std.proofs.lemmas.Slice.Eq.{bytes_eq-Decides}
use Rattle.std.proofs.lemmas.List.{take_more}
use Rattle.indexmap.specs.IndexMap.{insert_entry}
use Rattle.sched_base.specs.declared.ids.Itv.{Itv}
use Rattle.sched_model.specs.declared.types.IntervalDef.{IntervalDef}
use Rattle.sched_model.specs.Words.{pairwise}
use Rattle.sched_model.specs.Data.{Data}
use Rattle.sched_model.specs.Valid.{is_itv}
use Rattle.textline.specs.Lines.{Bytes}
use Rattle.sched_text.specs.Pieces.{interval_name, interval_names}
use Rattle.read_schedule.specs.code.Reads.{differ, names_in, numbered, are_all_itvs}

-- an entry as a contract sees it
abbrev pub seen : {X V : Type 0} → (X → Bytes) → X × V → Bytes × V
seen f e = (f e.0, e.1)

pub lookup_in_map : {X V : Type 0} (f : X → Bytes) (n : Bytes) (es : List (X × V)) → lookup (bytes_eq n) (map (seen f) es) ≡ lookup (λ k. bytes_eq n (f k)) es
lookup_in_map f n [] = refl
lookup_in_map f n (e ∷ es) = ap (cond (bytes_eq n (f e.0)) (Some e.1)) (lookup_in_map f n es)

pub pushed_entry : {X V : Type 0} (f : X → Bytes) (es : List (X × V)) (k : X) (v : V) → lookup (bytes_eq (f k)) (map (seen f) es) ≡ None
    → map (seen f) (insert_entry (λ a b. bytes_eq (f a) (f b)) es k v) ≡ map (seen f) es ++ (f k, v) ∷ []
pushed_entry f [] k v none = refl
pushed_entry {X} {V} f (e ∷ es) k v none = by (bytes_eq (f k) (f e.0)) none (pushed_entry f es k v) where
  by : (b : Bool) → cond b (Some e.1) (lookup (bytes_eq (f k)) (map (seen f) es)) ≡ None
      → (lookup (bytes_eq (f k)) (map (seen f) es) ≡ None → map (seen f) (insert_entry (λ a b. bytes_eq (f a) (f b)) es k v) ≡ map (seen f) es ++ (f k, v) ∷ [])
      → map (seen f) (if b then (e.0, v) ∷ es else e ∷ insert_entry (λ a b. bytes_eq (f a) (f b)) es k v) ≡ (f e.0, e.1) ∷ (map (seen f) es ++ (f k, v) ∷ [])
  by true h rest = cc
  by false h rest = ap (λ xs. (f e.0, e.1) ∷ xs) (rest h)

abbrev itv : ℕ → Itv
itv n = record { 0 = n }

-- the names of the first n, and one more
numbered_more : (k : ℕ) (ds : List IntervalDef) (d : IntervalDef) → numbered k (ds ++ d ∷ []) ≡ numbered k ds ++ (d.name, itv (k + length ds)) ∷ []
numbered_more k [] d = let here : k ≡ k + 0 = omega arith in ap (λ i. (d.name, itv i) ∷ []) here
numbered_more k (c ∷ ds) d = let next : k + 1 + length ds ≡ k + suc (length ds) = omega arith in
    ap (λ es. (c.name, itv k) ∷ es) (numbered_more (k + 1) ds d ∙ ap (λ i. numbered (k + 1) ds ++ (d.name, itv i) ∷ []) next)

no_differ : (x y : Bytes) → differ x y ≡ true → bytes_eq y x ≡ false
no_differ x y h = by (bytes_eq y x) refl
  where
    by : (b : Bool) → bytes_eq y x ≡ b → b ≡ false
    by true e = let same : y ≡ x = (bytes_eq-Decides y x).0 e in let eq : bytes_eq x y ≡ true = (bytes_eq-Decides x y).1 (sym same) in cc
    by false e = refl

-- a name that differs from all before it isn't there
apart : (k : ℕ) (ds : List IntervalDef) (i : ℕ) (d : IntervalDef) → pairwise differ (names_in ds) ≡ true → i < length ds → d ≡ get_or ds i d → lookup (bytes_eq d.name) (numbered k (take i ds)) ≡ None
apart k ds zero d h within item = refl
apart k [] (suc i) d h within item = absurd (omega (arith, within))
apart k (c ∷ ds) (suc i) d h within item =
    let two = and_parts (list_all (differ c.name) (names_in ds)) (pairwise differ (names_in ds)) h in
    let other : bytes_eq d.name c.name ≡ false = no_differ c.name d.name (passes ds i two.0 (omega (arith, within)) item) in
    ap (λ b. cond b (Some (itv k)) (lookup (bytes_eq d.name) (numbered (k + 1) (take i ds)))) other ∙ apart (k + 1) ds i d two.1 (omega (arith, within)) item
  where
    passes : (ds : List IntervalDef) (i : ℕ) → list_all (differ c.name) (names_in ds) ≡ true → i < length ds → d ≡ get_or ds i d → differ c.name d.name ≡ true
    passes [] i all within item = absurd (omega (arith, within))
    passes (b ∷ ds) zero all within item = ap (λ (x : IntervalDef). differ c.name x.name) item ∙ (and_parts (differ c.name b.name) (list_all (differ c.name) (names_in ds)) all).0
    passes (b ∷ ds) (suc i) all within item = passes ds i (and_parts (differ c.name b.name) (list_all (differ c.name) (names_in ds)) all).1 (omega (arith, within)) item

pub not_there : (ds : List IntervalDef) (i : ℕ) (d : IntervalDef) (t : List (Bytes × Itv)) (name : Bytes) → pairwise differ (names_in ds) ≡ true → i < length ds → d ≡ get_or ds i d → t ≡ numbered 0 (take i ds) → name ≡ d.name → lookup (bytes_eq name) t ≡ None
not_there ds i d t name h within item is same = ap (λ n. lookup (bytes_eq n) t) same ∙ ap (lookup (bytes_eq d.name)) is ∙ apart 0 ds i d h within item

pub one_more_name : (ds : List IntervalDef) (i : ℕ) (d : IntervalDef) (t new : List (Bytes × Itv)) (name : Bytes) → i < length ds → d ≡ get_or ds i d → t ≡ numbered 0 (take i ds) → name ≡ d.name → new ≡ t ++ (name, itv i) ∷ [] → new ≡ numbered 0 (take (i + 1) ds)
one_more_name ds i d t new name within item is same pushed =
    pushed
    ∙ ap (λ n. t ++ (n, itv i) ∷ []) same
    ∙ ap (λ es. es ++ (d.name, itv i) ∷ []) is
    ∙ ap (λ j. numbered 0 (take i ds) ++ (d.name, itv j) ∷ []) (many ds i within)
    ∙ sym (numbered_more 0 (take i ds) d)
    ∙ ap (λ x. numbered 0 (take i ds ++ x ∷ [])) item
    ∙ ap (numbered 0) (sym (take_more ds i d within))
  where
    many : (xs : List IntervalDef) (i : ℕ) → i < length xs → i ≡ 0 + length (take i xs)
    many [] i within = absurd (omega (arith, within))
    many (x ∷ xs) zero within = refl
    many (x ∷ xs) (suc i) within = omega (arith, many xs i (omega (arith, within)))

pub all_named : (ds : List IntervalDef) (i : ℕ) (t : List (Bytes × Itv)) → length ds ≤ i → t ≡ numbered 0 (take i ds) → t ≡ numbered 0 ds
all_named ds i t done is = is ∙ ap (numbered 0) (whole ds i done)
  where
    whole : (xs : List IntervalDef) (n : ℕ) → length xs ≤ n → take n xs ≡ xs
    whole [] zero h = refl
    whole [] (suc n) h = refl
    whole (x ∷ xs) zero h = absurd (omega (arith, h))
    whole (x ∷ xs) (suc n) h = ap (λ ys. x ∷ ys) (whole xs n (omega (arith, h)))

-- what is found by a name

abbrev name_at : List IntervalDef → ℕ → Bytes
name_at ds i = unwrap_or (option_map (λ d. d.name) (slice_get ds i)) []

pub found_in : (ds : List IntervalDef) (k : ℕ) (w : Bytes) (x : Itv) → lookup (bytes_eq w) (numbered k ds) ≡ Some x → (i : ℕ) × (i < length ds) × (w ≡ name_at ds i) × (x.0 ≡ k + i)
found_in [] k w x e = cc
found_in (d ∷ ds) k w x e = by (bytes_eq w d.name) refl (found_in ds (k + 1) w x) e
  where
    here : (y : Itv) → Some (itv k) ≡ Some y → y.0 ≡ k
    here y e = let same : itv k ≡ y = cc in ap (λ (z : Itv). z.0) (sym same)

    by : (b : Bool) → bytes_eq w d.name ≡ b → (lookup (bytes_eq w) (numbered (k + 1) ds) ≡ Some x → (i : ℕ) × (i < length ds) × (w ≡ name_at ds i) × (x.0 ≡ k + 1 + i))
        → cond b (Some (itv k)) (lookup (bytes_eq w) (numbered (k + 1) ds)) ≡ Some x → (i : ℕ) × (i < length (d ∷ ds)) × (w ≡ name_at (d ∷ ds) i) × (x.0 ≡ k + i)
    by true is f e = (0, omega arith, (bytes_eq-Decides w d.name).0 is, omega (arith, here x e))
    by false is f e = let rest = f e in (suc rest.0, omega (arith, rest.1), rest.2, omega (arith, rest.3))

pub not_in : (ds : List IntervalDef) (k : ℕ) (w : Bytes) → lookup (bytes_eq w) (numbered k ds) ≡ None → (i : ℕ) → i < length ds → w ≡ name_at ds i → ⊥
not_in [] k w e i within is = absurd (omega (arith, within))
not_in (d ∷ ds) k w e i within is = by (bytes_eq w d.name) refl (not_in ds (k + 1) w) e i within is
  where
    by : (b : Bool) → bytes_eq w d.name ≡ b → (lookup (bytes_eq w) (numbered (k + 1) ds) ≡ None → (i : ℕ) → i < length ds → w ≡ name_at ds i → ⊥)
        → cond b (Some (itv k)) (lookup (bytes_eq w) (numbered (k + 1) ds)) ≡ None → (i : ℕ) → i < length (d ∷ ds) → w ≡ name_at (d ∷ ds) i → ⊥
    by true eq f e i within is = cc
    by false eq f e zero within is = let same : bytes_eq w d.name ≡ true = (bytes_eq-Decides w d.name).1 is in cc
    by false eq f e (suc i) within is = f e i (omega (arith, within)) is

pub named_one : (m : Data) (t : List (Bytes × Itv)) (w : Bytes) (x : Itv) → t ≡ numbered 0 m.intervals → Some x ≡ lookup (bytes_eq w) t → (is_itv m x ≡ true) × (w ≡ interval_name m x)
named_one m t w x is found =
    let here = found_in m.intervals 0 w x (ap (lookup (bytes_eq w)) (sym is) ∙ sym found) in
    let same : here.0 ≡ x.0 = omega (arith, here.3) in
    (inside x (length m.intervals) (omega (arith, here.1, same)), here.2 ∙ ap (name_at m.intervals) same)
  where
    inside : (y : Itv) (n : ℕ) → y.0 < n → nat_lt y.0 n ≡ true
    inside y n h = grind (arith, nat_tests)

pub named_none : (m : Data) (t : List (Bytes × Itv)) (w : Bytes) → t ≡ numbered 0 m.intervals → None ≡ lookup (bytes_eq w) t → (x : Itv) → is_itv m x ≡ true → w ≡ interval_name m x → ⊥
named_none m t w is none x there same = not_in m.intervals 0 w (ap (lookup (bytes_eq w)) (sym is) ∙ sym none) x.0 (within x (length m.intervals) there) same
  where
    within : (y : Itv) (n : ℕ) → nat_lt y.0 n ≡ true → y.0 < n
    within y n h = grind (arith, nat_tests)

-- the words of members

pub member_more : (m : Data) (xs new : List Itv) (x : Itv) (w : Bytes) (whole old rest : List Bytes) → whole ≡ interval_names m xs ++ old → old ≡ w ∷ rest → w ≡ interval_name m x → new ≡ xs ++ x ∷ [] → whole ≡ interval_names m new ++ rest
member_more m xs new x w whole old rest same next is pushed =
    same ∙ ap (λ ws. interval_names m xs ++ ws) (next ∙ ap (λ v. v ∷ rest) is) ∙ more xs ∙ ap (λ ys. interval_names m ys ++ rest) (sym pushed)
  where
    more : (ys : List Itv) → interval_names m ys ++ interval_name m x ∷ rest ≡ interval_names m (ys ++ x ∷ []) ++ rest
    more [] = refl
    more (y ∷ ys) = ap (λ ws. interval_name m y ∷ ws) (more ys)

pub no_member : (m : Data) (xs vs : List Itv) (w : Bytes) (whole old rest : List Bytes) → whole ≡ interval_names m xs ++ old → old ≡ w ∷ rest → ((x : Itv) → is_itv m x ≡ true → w ≡ interval_name m x → ⊥) → are_all_itvs m vs ≡ true → whole ≡ interval_names m vs → ⊥
no_member m xs vs w whole old rest same next none fit e = by xs vs fit (sym (same ∙ ap (λ ws. interval_names m xs ++ ws) next) ∙ e)
  where
    first_is : (v w : Bytes) (x y : List Bytes) → v ∷ x ≡ w ∷ y → v ≡ w
    first_is v w x y e = cc

    behind : (v w : Bytes) (x y : List Bytes) → v ∷ x ≡ w ∷ y → x ≡ y
    behind v w x y e = cc

    by : (us vs : List Itv) → are_all_itvs m vs ≡ true → interval_names m us ++ w ∷ rest ≡ interval_names m vs → ⊥
    by [] [] fit e = cc
    by [] (v ∷ vs) fit e = none v (and_parts (is_itv m v) (are_all_itvs m vs) fit).0 (first_is _ _ _ _ e)
    by (u ∷ us) [] fit e = cc
    by (u ∷ us) (v ∷ vs) fit e = by us vs (and_parts (is_itv m v) (are_all_itvs m vs) fit).1 (behind _ _ _ _ e)
