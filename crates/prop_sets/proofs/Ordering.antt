-- Places are gathered with their keys, sorted, and named again.
use Rattle.std.specs.Prelude.{◌≡◌, ℕ, zero, suc, ◌+◌, ◌<◌, ◌≤◌, ℤ, ◌≤ℤ◌, Bool, true, false, nat_eq, List, [], ◌∷◌, ◌++◌, length}
use Rattle.std.specs.Ordering.{int_cmp, is_lt}
use Rattle.std.proofs.Common.{refl, sym, ap, subst, ◌∙◌, inl, inr, arith, get_or}
use Rattle.std.proofs.lemmas.Int.{ints}
use Rattle.std.proofs.lemmas.Bool.{true≢false}
use Rattle.std.proofs.lemmas.Bool.Decides.{nat_tests}
use Rattle.std.proofs.lemmas.List.{get_or_append_left, length_push}
use Rattle.base_laws.specs.laws.Numbers.{below_or_last}
use Rattle.base_laws.specs.laws.Places.{newest}
use Rattle.sched_base.specs.declared.ids.Itv.{Itv}
use Rattle.region.specs.declared.types.Bounds.{Bounds}
use Rattle.region.specs.Cells.{Region, bounds_of}
use Rattle.theta_passes.specs.declared.rows.Row.{Row}
use Rattle.theta_passes.specs.laws.Members.{present_below, is_below as row_below}
use Rattle.prop_sets.specs.declared.known.Numbers.{Numbers}
use Rattle.prop_sets.specs.declared.orders.Keyed.{Keyed}
use Rattle.prop_sets.specs.declared.orders.By.{By}
use Rattle.prop_sets.specs.declared.orders.By.TheVariants as by
use Rattle.prop_sets.specs.code.Rows.{seen, member_at, times_from}
use Rattle.prop_sets.specs.code.Known.{numbers_at, AreNumbers}
use Rattle.prop_sets.specs.code.Known as known
use Rattle.std.specs.List.Sorted.{IsPermutation}
use Rattle.prop_sets.specs.code.Reordered.{IsReordered}
use Rattle.prop_sets.specs.laws.Reordering.{reordered}
use Rattle.prop_sets.specs.code.Orders.{AreRising, AreKeyed, ArePlaces, AreStarts, AreNamed, ArePlacedNumbers, IsByStart, IsOrderBy, on_by, key_by, keyed_at, no_place}

-- no key is below one before it, for each that is next to another
pub rising_from_sort : (ks : List Keyed) → ((k : ℕ) (d : Keyed) → 0 ≤ k → k + 1 < length ks → is_lt (int_cmp (get_or ks (k + 1) d).key (get_or ks k d).key) ≡ false) → AreRising ks
rising_from_sort ks sorted m n less within = climb n less within
  where
    risen : (x y : ℤ) → is_lt (int_cmp y x) ≡ false → x ≤ℤ y
    risen x y e = grind (arith, ints)

    stays : (x : ℤ) → x ≤ℤ x
    stays x = omega (arith, ints)

    farther : (x y z : ℤ) → x ≤ℤ y → y ≤ℤ z → x ≤ℤ z
    farther x y z a b = omega (arith, ints, a, b)

    step : (k : ℕ) → k + 1 < length ks → (keyed_at ks k).key ≤ℤ (keyed_at ks (k + 1)).key
    step k h = risen _ _ (sorted k no_place (omega arith) h)

    climb : (n : ℕ) → m < n → n < length ks → (keyed_at ks m).key ≤ℤ (keyed_at ks n).key
    climb zero less within = absurd (omega (arith, less))
    climb (suc n) less within = elim (below_or_last m n (let one : suc n ≡ n + 1 = omega arith in subst (λ k. m < k) one less)) [
      | inl lower ↦ farther _ _ _ (climb n lower (omega (arith, within))) (last n within)
      | inr here ↦ farther _ _ _ (subst (λ k. (keyed_at ks m).key ≤ℤ (keyed_at ks k).key) here (stays (keyed_at ks m).key)) (last n within)
    ]
      where
        last : (n : ℕ) → suc n < length ks → (keyed_at ks n).key ≤ℤ (keyed_at ks (suc n)).key
        last n within = let one : n + 1 ≡ suc n = omega arith in subst (λ k. (keyed_at ks n).key ≤ℤ (keyed_at ks k).key) one (step n (omega (arith, within)))

-- what stands in a list with one item more
grown : {X : Type 0} (xs : List X) (x d : X) (i : ℕ) → i < length (xs ++ x ∷ []) → (P : X → Type 0) → ((i : ℕ) → i < length xs → P (get_or xs i d)) → P x → P (get_or (xs ++ x ∷ []) i d)
grown xs x d i low P old new' = elim (below_or_last i (length xs) (let size = length_push xs x in omega (arith, low, size))) [
  | inl less ↦ subst P (sym (get_or_append_left xs (x ∷ []) d i less)) (old i less)
  | inr last ↦ subst P (sym (newest i xs x d last)) new'
]

pub none_keyed : (on : ℕ → Bool) (key : ℕ → ℤ) → AreKeyed on key 0 []
none_keyed on key = record { each = λ i low. absurd (omega (arith, low)); keys = λ i low. absurd (omega (arith, low)); whole = λ k low here. absurd (omega (arith, low)) }

pub one_keyed : (on : ℕ → Bool) (key : ℕ → ℤ) (n : ℕ) (ks : List Keyed) (x : Keyed) → on n ≡ true → x.key ≡ key n → x.place ≡ n → AreKeyed on key n ks → AreKeyed on key (n + 1) (ks ++ x ∷ [])
one_keyed on key n ks x here is at h =
    record {
      each = λ i low. grown ks x no_place i low (λ (q : Keyed). on q.place ≡ true) h.each (ap on at ∙ here);
      keys = λ i low. grown ks x no_place i low (λ (q : Keyed). q.key ≡ key q.place) h.keys (is ∙ ap key (sym at));
      whole = λ k low mine. elim (below_or_last k n low) [
        | inl less ↦ (let old = h.whole k less mine in (old.0, (let within = old.1 in let size = length_push ks x in omega (arith, within, size)), ap (λ (q : Keyed). q.place) (get_or_append_left ks (x ∷ []) no_place old.0 old.1) ∙ old.2))
        | inr last ↦ (length ks, (let size = length_push ks x in omega (arith, size)), ap (λ (q : Keyed). q.place) (newest (length ks) ks x no_place refl) ∙ at ∙ sym last)
      ];
    }

pub one_off : (on : ℕ → Bool) (key : ℕ → ℤ) (n : ℕ) (ks : List Keyed) → on n ≡ false → AreKeyed on key n ks → AreKeyed on key (n + 1) ks
one_off on key n ks off h = record {
  each = h.each;
  keys = h.keys;
  whole = λ k low mine. elim (below_or_last k n low) [
    | inl less ↦ h.whole k less mine
    | inr last ↦ absurd (true≢false (sym mine ∙ ap on last ∙ off))
  ];
}

pub no_places : (ks : List Keyed) → ArePlaces ks 0 []
no_places ks = record { size = refl; each = λ i low. absurd (omega (arith, low)) }

pub more_places : (ks : List Keyed) (n x : ℕ) (order : List ℕ) → x ≡ (keyed_at ks n).place → ArePlaces ks n order → ArePlaces ks (n + 1) (order ++ x ∷ [])
more_places ks n x order is h = record {
  size = length_push order x ∙ ap (λ k. k + 1) h.size;
  each = λ i low. elim (below_or_last i n low) [
    | inl less ↦ (let size = h.size in get_or_append_left order (x ∷ []) 0 i (omega (arith, less, size)) ∙ h.each i less)
    | inr last ↦ newest i order x 0 (last ∙ sym h.size) ∙ is ∙ ap (λ k. (keyed_at ks k).place) (sym last)
  ];
}

pub all_places : (ks : List Keyed) (k n : ℕ) (order : List ℕ) → k ≡ n → ArePlaces ks k order → ArePlaces ks n order
all_places ks k n order same h = subst (λ i. ArePlaces ks i order) same h

-- the keyed places in another order
moved : (on : ℕ → Bool) (key : ℕ → ℤ) (n : ℕ) (xs ks : List Keyed) → IsReordered xs ks → AreKeyed on key n xs → AreKeyed on key n ks
moved on key n xs ks r h = record {
  each = λ i low. subst (λ (q : Keyed). on q.place ≡ true) (sym (r.at i no_place low)) (h.each (r.to i) (r.low i low));
  keys = λ i low. subst (λ (q : Keyed). q.key ≡ key q.place) (sym (r.at i no_place low)) (h.keys (r.to i) (r.low i low));
  whole = λ k low mine.
      let old = h.whole k low mine in
      let there = r.there old.0 old.1 in
      (r.back old.0, there, ap (λ (q : Keyed). q.place) (r.at (r.back old.0) no_place there ∙ ap (keyed_at xs) (r.found old.0 old.1)) ∙ old.2);
}

on_below : (b : By) (rows : List Row) (k : ℕ) → on_by b rows k ≡ true → k < length rows
on_below by.Falling rows k on = row_below rows k on
on_below by.FallingPresent rows k on = present_below rows k on
on_below by.Rising rows k on = row_below rows k on

pub in_order : (b : By) (rows : List Row) (xs ks : List Keyed) (order : List ℕ) → AreKeyed (on_by b rows) (key_by b rows) (length rows) xs → IsPermutation xs ks → AreRising ks → ArePlaces ks (length ks) order → IsOrderBy b rows order
in_order b rows xs ks order keyed sorted rising places =
    let h = moved (on_by b rows) (key_by b rows) (length rows) xs ks (reordered xs ks sorted) keyed in
    let size = places.size in
    record {
      on = λ n low. subst (λ k. on_by b rows k ≡ true) (sym (places.each n (omega (arith, low, size)))) (h.each n (omega (arith, low, size)));
      rises = λ m n less low.
          subst (λ k. key_by b rows k ≤ℤ key_by b rows (get_or order n 0)) (sym (places.each m (omega (arith, less, low, size))))
          (subst (λ k. key_by b rows (keyed_at ks m).place ≤ℤ key_by b rows k) (sym (places.each n (omega (arith, low, size))))
          (subst (λ z. z ≤ℤ key_by b rows (keyed_at ks n).place) (h.keys m (omega (arith, less, low, size)))
          (subst (λ z. (keyed_at ks m).key ≤ℤ z) (h.keys n (omega (arith, low, size))) (rising m n less (omega (arith, low, size))))));
      whole = λ k on.
          let old = h.whole k (on_below b rows k on) on in
          let within = old.1 in
          (old.0, omega (arith, within, size), places.each old.0 within ∙ old.2);
    }

-- the starts of members
pub no_starts : (side : ℕ) (r : Region) (xs : List Itv) → AreStarts side r xs 0 []
no_starts side r xs = record { size = refl; each = λ i low. absurd (omega (arith, low)) }

pub more_starts : (side : ℕ) (r : Region) (xs : List Itv) (n : ℕ) (ks : List Keyed) (x : Keyed) → x.key ≡ (seen side (bounds_of r (member_at xs n))).est → x.place ≡ n → AreStarts side r xs n ks → AreStarts side r xs (n + 1) (ks ++ x ∷ [])
more_starts side r xs n ks x is at h =
    record {
      size = length_push ks x ∙ ap (λ k. k + 1) h.size;
      each = λ i low. elim (below_or_last i n low) [
        | inl less ↦ (let size = h.size in get_or_append_left ks (x ∷ []) no_place i (omega (arith, less, size)) ∙ h.each i less)
        | inr last ↦ newest i ks x no_place (last ∙ sym h.size) ∙ subst (λ k. x ≡ record { key = (seen side (bounds_of r (member_at xs k))).est; place = k }) (sym last) (ap (λ y. record { key = y; place = x.place }) is ∙ ap (λ y. record { key = (seen side (bounds_of r (member_at xs n))).est; place = y }) at)
      ];
    }

pub all_starts : (side : ℕ) (r : Region) (xs : List Itv) (k n : ℕ) (ks : List Keyed) → k ≡ n → AreStarts side r xs k ks → AreStarts side r xs n ks
all_starts side r xs k n ks same h = subst (λ i. AreStarts side r xs i ks) same h

pub no_named : (xs : List Itv) (ks : List Keyed) → AreNamed xs ks 0 []
no_named xs ks = record { size = refl; each = λ i low. absurd (omega (arith, low)) }

pub more_named : (xs : List Itv) (ks : List Keyed) (n : ℕ) (ys : List Itv) (x : Itv) → x ≡ member_at xs (keyed_at ks n).place → AreNamed xs ks n ys → AreNamed xs ks (n + 1) (ys ++ x ∷ [])
more_named xs ks n ys x is h = record {
  size = length_push ys x ∙ ap (λ k. k + 1) h.size;
  each = λ i low. elim (below_or_last i n low) [
    | inl less ↦ (let size = h.size in get_or_append_left ys (x ∷ []) (record { 0 = 0 }) i (omega (arith, less, size)) ∙ h.each i less)
    | inr last ↦ newest i ys x (record { 0 = 0 }) (last ∙ sym h.size) ∙ is ∙ ap (λ k. member_at xs (keyed_at ks k).place) (sym last)
  ];
}

pub all_named : (xs : List Itv) (ks : List Keyed) (k n : ℕ) (ys : List Itv) → k ≡ n → AreNamed xs ks k ys → AreNamed xs ks n ys
all_named xs ks k n ys same h = subst (λ i. AreNamed xs ks i ys) same h

-- the earliest start is told by the numbers
starts_as : (side : ℕ) (c : Bounds) → (times_from side (known.numbers_of c)).est ≡ (seen side c).est
starts_as zero c = refl
starts_as (suc n) c = refl

pub start_is : (side : ℕ) (r : Region) (xs : List Itv) (ns : List Numbers) (k : ℕ) (x : Numbers) (t : ℤ) → AreNumbers r xs (length xs) ns → k < length xs → x ≡ numbers_at ns k → t ≡ (times_from side x).est → t ≡ (seen side (bounds_of r (member_at xs k))).est
start_is side r xs ns k x t are low at is = is ∙ ap (λ z. (times_from side z).est) (at ∙ are.each k low) ∙ starts_as side (bounds_of r (member_at xs k))

-- after sorting
start_at : (side : ℕ) (r : Region) (xs : List Itv) (old ks : List Keyed) → AreStarts side r xs (length xs) old → (moved : IsReordered old ks) → (k : ℕ) → k < length ks → keyed_at ks k ≡ record { key = (seen side (bounds_of r (member_at xs (moved.to k)))).est; place = moved.to k }
start_at side r xs old ks starts moved k low = let size = starts.size in let within = moved.low k low in moved.at k no_place low ∙ starts.each (moved.to k) (omega (arith, within, size))

pub starts_low : (side : ℕ) (r : Region) (xs : List Itv) (old ks : List Keyed) → AreStarts side r xs (length xs) old → IsPermutation old ks → (k : ℕ) → k < length ks → (keyed_at ks k).place < length xs
starts_low side r xs old ks starts sorted k low =
    let moved = reordered old ks sorted in
    let size = starts.size in
    let within = moved.low k low in
    subst (λ (q : Keyed). q.place < length xs) (sym (start_at side r xs old ks starts moved k low)) (omega (arith, within, size))

-- the numbers of members that are named by places
pub numbers_along : (r : Region) (xs : List Itv) (ns : List Numbers) (ks : List Keyed) (ys : List Itv) → ((k : ℕ) → k < length ks → (keyed_at ks k).place < length xs) → AreNumbers r xs (length xs) ns → AreNamed xs ks (length ks) ys → ArePlacedNumbers r ys ks ns
numbers_along r xs ns ks ys below are named =
    let many = named.size in
    let size = are.size in
    record {
      size = sym many;
      low = λ k less. let within = below k (omega (arith, less, many)) in omega (arith, within, size);
      each = λ k less.
          let within : k < length ks = omega (arith, less, many) in
          are.each (keyed_at ks k).place (below k within) ∙ ap (λ x. known.numbers_of (bounds_of r x)) (sym (named.each k within));
      moments = λ k less.
          let within : k < length ks = omega (arith, less, many) in
          are.moments (keyed_at ks k).place (below k within);
    }

pub in_start_order : (side : ℕ) (r : Region) (xs : List Itv) (old ks : List Keyed) (ys : List Itv) → AreStarts side r xs (length xs) old → IsPermutation old ks → AreNamed xs ks (length ks) ys → IsReordered xs ys
in_start_order side r xs old ks ys starts sorted named =
    let size = starts.size in
    let same = moved.size in
    let new' = named.size in
    record {
      size = new' ∙ same ∙ size;
      to = moved.to;
      back = moved.back;
      low = λ k low. (let within = moved.low k (omega (arith, low, new')) in omega (arith, within, size));
      at = λ k d low. at k d (omega (arith, low, new'));
      there = λ j low. (let within = moved.there j (omega (arith, low, size)) in omega (arith, within, new'));
      found = λ j low. moved.found j (omega (arith, low, size));
      same = λ k low. moved.same k (omega (arith, low, new'));
    }
  where
    moved : IsReordered old ks
    moved = reordered old ks sorted

    default : (zs : List Itv) (k : ℕ) (d : Itv) → k < length zs → get_or zs k d ≡ member_at zs k
    default zs k d low = other zs k d (record { 0 = 0 }) low
      where
        other : (zs : List Itv) (k : ℕ) (d e : Itv) → k < length zs → get_or zs k d ≡ get_or zs k e
        other [] k d e low = absurd (omega (arith, low))
        other (z ∷ zs) zero d e low = refl
        other (z ∷ zs) (suc k) d e low = other zs k d e (omega (arith, low))

    at : (k : ℕ) (d : Itv) → k < length ks → get_or ys k d ≡ get_or xs (moved.to k) d
    at k d low =
        let size = starts.size in
        let new' = named.size in
        let within = moved.low k low in
        default ys k d (omega (arith, low, new')) ∙ named.each k low ∙ ap (λ (q : Keyed). member_at xs q.place) (start_at side r xs old ks starts moved k low) ∙ sym (default xs (moved.to k) d (omega (arith, within, size)))

pub by_start : (side : ℕ) (r : Region) (xs : List Itv) (old ks : List Keyed) (ys : List Itv) → AreStarts side r xs (length xs) old → IsPermutation old ks → AreRising ks → AreNamed xs ks (length ks) ys → IsByStart side r ys
by_start side r xs old ks ys starts sorted rising named j k le low = by_case (nat_eq j k) refl
  where
    moved : IsReordered old ks
    moved = reordered old ks sorted

    key : (i : ℕ) → i < length ks → (keyed_at ks i).key ≡ (seen side (bounds_of r (member_at ys i))).est
    key i low =
        let is = start_at side r xs old ks starts moved i low in
        let name = named.each i low ∙ ap (λ (q : Keyed). member_at xs q.place) is in
        ap (λ (q : Keyed). q.key) is ∙ ap (λ x. (seen side (bounds_of r x)).est) (sym name)

    stays : (z : ℤ) → z ≤ℤ z
    stays z = omega (arith, ints)

    equal : nat_eq j k ≡ true → j ≡ k
    equal h = grind (arith, nat_tests)

    less : nat_eq j k ≡ false → j ≤ k → j < k
    less h le = grind (arith, nat_tests)

    by_case : (b : Bool) → nat_eq j k ≡ b → (seen side (bounds_of r (member_at ys j))).est ≤ℤ (seen side (bounds_of r (member_at ys k))).est
    by_case true is = subst (λ i. (seen side (bounds_of r (member_at ys j))).est ≤ℤ (seen side (bounds_of r (member_at ys i))).est) (equal is) (stays _)
    by_case false is =
        let size = named.size in
        let lower = less is le in
        subst (λ z. z ≤ℤ (seen side (bounds_of r (member_at ys k))).est) (key j (omega (arith, lower, low, size)))
        (subst (λ z. (keyed_at ks j).key ≤ℤ z) (key k (omega (arith, low, size))) (rising j k lower (omega (arith, low, size))))
