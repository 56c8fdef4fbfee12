-- What a wake, and what taking a number from them, do to the levels.
use Rattle.std.specs.Prelude.{◌≡◌, ℕ, zero, suc, ◌+◌, ◌-◌, ◌*◌, ◌<◌, ◌≤◌, Bool, true, false, ◌||◌, List, [], ◌∷◌, length, Option, Some, None, nat_eq, option_map}
use Rattle.std.proofs.Common.{refl, sym, ap, ◌∙◌, arith}
use Rattle.std.proofs.lemmas.Bool.Decides.{nat_tests}
use Rattle.std.proofs.lemmas.List.{length_push}
use Rattle.std.proofs.lemmas.Bool.{or_left, or_right}
use Rattle.iqueue.specs.code.Queue.{is_in, without, woken}
use Rattle.iqueue.specs.laws.Ends.{in_end, in_push}
use Rattle.wake_levels.specs.declared.levels.Turn.{Turn}
use Rattle.wake_levels.specs.code.Waking.{is_in_any, weight, next_level, first_turn, without_on_all, woken_on}

or_map : (p q s t : Bool) → (p ≡ true → s ≡ true) → (q ≡ true → t ≡ true) → (p || q) ≡ true → (s || t) ≡ true
or_map true q s t f g h = or_left s t (f refl)
or_map false q s t f g h = or_right s t (g h)

-- a list after a wake
record Grows (k : ℕ) (ks new : List ℕ) : Type 0 where
  kept : (j : ℕ) → is_in j ks ≡ true → is_in j new ≡ true
  has : is_in k new ≡ true
  few : length new ≤ length ks + 1

grows : (k : ℕ) (ks : List ℕ) → Grows k ks (woken k ks)
grows k ks = by_case (is_in k ks) refl
  where
    by_case : (b : Bool) → is_in k ks ≡ b → Grows k ks (woken k ks)
    by_case true is = rw is (record { kept = λ j h. h; has = is; few = omega arith })
    by_case false is = rw is (record { kept = λ j h. in_push k j ks h; has = in_end k ks; few = omega (arith, length_push ks k) })

-- after a wake whatever was awake is
pub kept_on : (k level j : ℕ) (kss : List (List ℕ)) → is_in_any j kss ≡ true → is_in_any j (woken_on k level kss) ≡ true
kept_on k level j [] h = h
kept_on k zero j (ks ∷ kss) h = or_map (is_in j ks) (is_in_any j kss) (is_in j (woken k ks)) (is_in_any j kss) ((grows k ks).kept j) (λ e. e) h
kept_on k (suc level) j (ks ∷ kss) h = or_map (is_in j ks) (is_in_any j kss) (is_in j ks) (is_in_any j (woken_on k level kss)) (λ e. e) (kept_on k level j kss) h

-- and the number woken is, where there is such a level
pub has_on : (k level : ℕ) (kss : List (List ℕ)) → level < length kss → is_in_any k (woken_on k level kss) ≡ true
has_on k level [] within = absurd (omega (arith, within))
has_on k zero (ks ∷ kss) within = or_left (is_in k (woken k ks)) (is_in_any k kss) (grows k ks).has
has_on k (suc level) (ks ∷ kss) within = or_right (is_in k ks) (is_in_any k (woken_on k level kss)) (has_on k level kss (omega (arith, within)))

pub count_on : (k level : ℕ) (kss : List (List ℕ)) → length (woken_on k level kss) ≡ length kss
count_on k level [] = refl
count_on k zero (ks ∷ kss) = refl
count_on k (suc level) (ks ∷ kss) = ap suc (count_on k level kss)

mul_step : (c a b : ℕ) → a ≤ b + 1 → c * a ≤ c * b + c
mul_step zero a b h = omega arith
mul_step (suc c) a b h = let rest = mul_step c a b h in omega (arith, rest, h)

pub weight_on : (k level : ℕ) (kss : List (List ℕ)) → level < length kss → weight (woken_on k level kss) ≤ weight kss + (length kss - level)
weight_on k level [] within = absurd (omega (arith, within))
weight_on k zero (ks ∷ kss) within = let one = mul_step (length kss + 1) (length (woken k ks)) (length ks) (grows k ks).few in omega (arith, one)
weight_on k (suc level) (ks ∷ kss) within =
    let same : (length (woken_on k level kss) + 1) * length ks ≡ (length kss + 1) * length ks = ap (λ (n : ℕ). (n + 1) * length ks) (count_on k level kss) in
    omega (arith, same, weight_on k level kss (omega (arith, within)))

no_turn : (o : Option Turn) → option_map next_level o ≡ None → o ≡ None
no_turn None h = refl
no_turn (Some t) h = cc

-- where no number has its turn, none is awake
pub none_in : (kss : List (List ℕ)) → first_turn kss ≡ None → (k : ℕ) → is_in_any k kss ≡ false
none_in [] none k = refl
none_in ([] ∷ kss) none k = none_in kss (no_turn (first_turn kss) none) k
none_in ((j ∷ ks) ∷ kss) none k = cc

-- the turn behind an empty level
later_turn : (o : Option Turn) (t : Turn) → option_map next_level o ≡ Some t → (u : Turn) × (o ≡ Some u) × (t ≡ next_level u)
later_turn None t h = cc
later_turn (Some u) t h = (u, refl, cc)

here_turn : (k : ℕ) (t : Turn) → Some (record { k = k; level = 0 }) ≡ Some t → (t.k ≡ k) × (t.level ≡ 0)
here_turn k t h = (cc, cc)

-- what stands behind the first number
not_first : (j k : ℕ) (ks : List ℕ) → (j ≡ k → ⊥) → is_in j (k ∷ ks) ≡ true → is_in j ks ≡ true
not_first j k ks other h = by_case (nat_eq j k) refl h
  where
    by_case : (b : Bool) → nat_eq j k ≡ b → (b || is_in j ks) ≡ true → is_in j ks ≡ true
    by_case true is e = absurd (other (grind (arith, nat_tests)))
    by_case false is e = e

-- a list without a number
record Shrinks (k : ℕ) (ks new : List ℕ) : Type 0 where
  kept : (j : ℕ) → (j ≡ k → ⊥) → is_in j ks ≡ true → is_in j new ≡ true
  few : length new ≤ length ks

shrinks : (k : ℕ) (ks : List ℕ) → Shrinks k ks (without k ks)
shrinks k [] = record { kept = λ j other h. h; few = omega arith }
shrinks k (i ∷ ks) = by_case (nat_eq k i) refl (shrinks k ks)
  where
    by_case : (b : Bool) → nat_eq k i ≡ b → Shrinks k ks (without k ks) → Shrinks k (i ∷ ks) (without k (i ∷ ks))
    by_case true is rest = rw is (record { kept = λ j other h. not_first j i ks (λ e. other (let same : k ≡ i = grind (arith, nat_tests) in e ∙ sym same)) h; few = omega arith })
    by_case false is rest = rw is (record { kept = λ j other h. or_map (nat_eq j i) (is_in j ks) (nat_eq j i) (is_in j (without k ks)) (λ e. e) (rest.kept j other) h; few = omega (arith, rest.few) })

-- of the levels without a number every other is awake as before
pub kept_without : (k j : ℕ) (kss : List (List ℕ)) → (j ≡ k → ⊥) → is_in_any j kss ≡ true → is_in_any j (without_on_all k kss) ≡ true
kept_without k j [] other h = h
kept_without k j (ks ∷ kss) other h = or_map (is_in j ks) (is_in_any j kss) (is_in j (without k ks)) (is_in_any j (without_on_all k kss)) ((shrinks k ks).kept j other) (kept_without k j kss other) h

pub count_without : (k : ℕ) (kss : List (List ℕ)) → length (without_on_all k kss) ≡ length kss
count_without k [] = refl
count_without k (ks ∷ kss) = ap suc (count_without k kss)

mul_less : (c a b : ℕ) → a ≤ b → c * a ≤ c * b
mul_less zero a b h = omega arith
mul_less (suc c) a b h = let rest = mul_less c a b h in omega (arith, rest, h)

-- and they weigh no more
light_level : (k : ℕ) (ks new : List ℕ) (kss : List (List ℕ)) → length new ≤ length ks → (length (without_on_all k kss) + 1) * length new ≤ (length kss + 1) * length ks
light_level k ks new kss few =
    let same : (length (without_on_all k kss) + 1) * length new ≡ (length kss + 1) * length new = ap (λ (n : ℕ). (n + 1) * length new) (count_without k kss) in
    let less = mul_less (length kss + 1) (length new) (length ks) few in
    omega (arith, same, less)

light_without : (k : ℕ) (kss : List (List ℕ)) → weight (without_on_all k kss) ≤ weight kss
light_without k [] = omega arith
light_without k (ks ∷ kss) = omega (arith, light_level k ks (without k ks) kss (shrinks k ks).few, light_without k kss)

mul_one : (c a : ℕ) → c * suc a ≡ c * a + c
mul_one c a = omega arith

without_head : (k j : ℕ) (ks : List ℕ) → k ≡ j → without k (j ∷ ks) ≡ ks
without_head k j ks e = let same : nat_eq k j ≡ true = grind (arith, nat_tests) in rw same refl

-- less, where the number has its turn
pub weight_without : (kss : List (List ℕ)) (t : Turn) → first_turn kss ≡ Some t → (t.level < length kss) × (weight (without_on_all t.k kss) + (length kss - t.level) ≤ weight kss)
weight_without [] t turn = cc
weight_without ([] ∷ kss) t turn =
    let u = later_turn (first_turn kss) t turn in
    let rest = weight_without kss u.0 u.1 in
    let level : t.level ≡ u.0.level + 1 = ap (λ (v : Turn). v.level) u.2 in
    let number : t.k ≡ u.0.k = ap (λ (v : Turn). v.k) u.2 in
    let same : weight (without_on_all t.k kss) ≡ weight (without_on_all u.0.k kss) = ap (λ (n : ℕ). weight (without_on_all n kss)) number in
    (omega (arith, rest.0, level), let none = mul_none (length (without_on_all t.k kss) + 1) in let zero' = mul_none (length kss + 1) in omega (arith, rest.0, rest.1, level, same, none, zero'))
  where
    mul_none : (c : ℕ) → c * 0 ≡ 0
    mul_none c = omega arith
weight_without ((k ∷ ks) ∷ kss) t turn =
    let here = here_turn k t turn in
    let one = mul_one (length kss + 1) (length ks) in
    let gone : length (without t.k (k ∷ ks)) ≡ length ks = ap length (without_head t.k k ks here.0) in
    let level = light_level t.k ks (without t.k (k ∷ ks)) kss (omega (arith, gone)) in
    (omega (arith, here.1), omega (arith, here.1, one, level, light_without t.k kss))
