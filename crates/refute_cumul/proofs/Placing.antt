-- Places of a profile: where a moment stands, how far a search may step, and what it finds.
use Rattle.std.proofs.Common.{◌≡◌, inl, inr, ℕ, zero, suc, ◌+◌, ◌<◌, ◌≤◌, ℤ, pos, ◌≤ℤ◌, ◌<ℤ◌, Bool, true, false, List, [], ◌∷◌, length, get_or, refl, sym, ap, subst, ◌∙◌, arith}
use Rattle.std.specs.Prelude.{Option, Some, None, IfNone, int_le, nat_lt, if◌then◌else◌}
use Rattle.std.specs.Int.{int_max}
use Rattle.std.specs.List.Sorted.{IsPartitionPoint, IsPartitionedBy}
use Rattle.std.proofs.lemmas.Int.{ints}
use Rattle.std.proofs.lemmas.Bool.{cases_eq}
use Rattle.std.proofs.lemmas.List.{get_or_default}
use Rattle.base_laws.specs.laws.Numbers.{below_or_last, below_or_past}
use Rattle.refute_cumul.specs.declared.profile.Level.{Level}
use Rattle.refute_cumul.specs.declared.reach.Reach.{Reach}
use Rattle.refute_cumul.specs.code.Profiles.{IsRising, level_from, level_in, IsBelow, Reaches, IsPlaceOf, level_before, IsAbove, IsNeverAbove, IsFirstAbove, StaysBelow}

abbrev no_level : Level
no_level = record { t = pos 0; level = pos 0 }

-- the place of a moment
pub parted : (ps : List Level) (t : ℤ) → IsRising ps → IsPartitionedBy (λ p. int_le p.t t) ps
parted ps t rising i j d le h up = elim (cases_eq i j) [
  | inl same ↦ subst (λ n. int_le (get_or ps n d).t t ≡ true) (sym same) up
  | inr other ↦ earlier (get_or ps i d).t (get_or ps j d).t t (rising i j d (omega (arith, le, other)) h) up
]
  where
    earlier : (x y t : ℤ) → x <ℤ y → int_le y t ≡ true → int_le x t ≡ true
    earlier x y t h k = grind (arith, ints, h, k)

up_to : (u t : ℤ) → int_le u t ≡ true → u ≤ℤ t
up_to u t h = grind (arith, ints, h)

past : (u t : ℤ) → int_le u t ≡ false → t <ℤ u
past u t h = grind (arith, ints, h)

pub place_from : (ps : List Level) (t : ℤ) (k : ℕ) → k ≤ length ps → IsPartitionPoint (λ p. int_le p.t t ≡ true) (λ p. int_le p.t t ≡ false) ps k → IsPlaceOf ps t k
place_from ps t k within point = record {
  within = within;
  before = λ i d h. up_to (get_or ps i d).t t (point.0 i d (omega arith) h);
  behind = λ i d h inside. past (get_or ps i d).t t (point.1 i d h inside);
}

-- the level in front of the place of a moment is that at the moment
abbrev level_off : ℤ → List Level → ℕ → ℤ
level_off z ps zero = z
level_off z ps (suc k) = (get_or ps k no_level).level

taken : (u t y z : ℤ) → u ≤ℤ t → level_from z (record { t = u; level = y } ∷ []) t ≡ y
taken u t y z h = grind (arith, ints, h)

off_from : (ps : List Level) (z t : ℤ) (k : ℕ) → IsPlaceOf ps t k → level_from z ps t ≡ level_off z ps k
off_from [] z t zero at = refl
off_from [] z t (suc k) at = absurd (let w = at.within in omega (arith, w))
off_from (p ∷ ps) z t zero at = not_yet p.t t (level_from p.level ps t) z (at.behind 0 p (omega arith) (omega arith))
  where
    not_yet : (u t y z : ℤ) → t <ℤ u → (if int_le u t then y else z) ≡ z
    not_yet u t y z h = grind (arith, ints, h)
off_from (p ∷ ps) z t (suc k) at =
    yet p.t t (level_from p.level ps t) z (at.before 0 p (omega arith))
    ∙ off_from ps p.level t k (record { within = (let w = at.within in omega (arith, w)); before = λ i d h. at.before (suc i) d (omega (arith, h)); behind = λ i d h w. at.behind (suc i) d (omega (arith, h)) (omega (arith, w)) })
    ∙ turned k
  where
    yet : (u t y z : ℤ) → u ≤ℤ t → (if int_le u t then y else z) ≡ y
    yet u t y z h = grind (arith, ints, h)

    turned : (k : ℕ) → level_off p.level ps k ≡ (get_or (p ∷ ps) k no_level).level
    turned zero = refl
    turned (suc k) = refl

pub level_at : (ps : List Level) (t : ℤ) (k : ℕ) → IsPlaceOf ps t k → level_in ps t ≡ level_before ps k
level_at ps t k at = off_from ps (pos 0) t k at ∙ same k
  where
    same : (k : ℕ) → level_off (pos 0) ps k ≡ level_before ps k
    same zero = refl
    same (suc k) = refl

-- each moment has its place
pub some_place : (ps : List Level) (t : ℤ) → IsRising ps → (k : ℕ) × IsPlaceOf ps t k
some_place [] t rising = (0, record { within = omega arith; before = λ i d h. absurd (omega (arith, h)); behind = λ i d h w. absurd (omega (arith, w)) })
some_place (p ∷ ps) t rising = by_case (int_le p.t t) refl (some_place ps t (λ i k d h w. rising (suc i) (suc k) d (omega (arith, h)) (omega (arith, w))))
  where
    later : (x y t : ℤ) → t <ℤ x → x <ℤ y → t <ℤ y
    later x y t h k = omega (arith, ints, h, k)

    first : p.t ≤ℤ t → (k : ℕ) → IsPlaceOf ps t k → (i : ℕ) (d : Level) → i < suc k → (get_or (p ∷ ps) i d).t ≤ℤ t
    first here k at zero d h = here
    first here k at (suc i) d h = at.before i d (omega (arith, h))

    rest : (k : ℕ) → IsPlaceOf ps t k → (i : ℕ) (d : Level) → suc k ≤ i → i < length (p ∷ ps) → t <ℤ (get_or (p ∷ ps) i d).t
    rest k at zero d h w = absurd (omega (arith, h))
    rest k at (suc i) d h w = at.behind i d (omega (arith, h)) (omega (arith, w))

    none : t <ℤ p.t → (i : ℕ) (d : Level) → 0 ≤ i → i < length (p ∷ ps) → t <ℤ (get_or (p ∷ ps) i d).t
    none early zero d h w = early
    none early (suc i) d h w = later p.t (get_or ps i d).t t early (rising 0 (suc i) d (omega arith) w)

    by_case : (b : Bool) → int_le p.t t ≡ b → (k : ℕ) × IsPlaceOf ps t k → (k : ℕ) × IsPlaceOf (p ∷ ps) t k
    by_case true is (k, at) = (suc k, record { within = (let w = at.within in omega (arith, w)); before = first (up_to p.t t is) k at; behind = rest k at })
    by_case false is (k, at) = (0, record { within = omega arith; before = λ i d h. absurd (omega (arith, h)); behind = none (past p.t t is) })

pub reaches_on : (ps : List Level) (i : ℕ) (top behind : ℤ) (next next' : ℕ) → Reaches ps i (record { top = top; next = next }) → Reaches ps next (record { top = behind; next = next' }) → Reaches ps i (record { top = int_max top behind; next = next' })
reaches_on ps i top behind next next' one two = record {
  later = (let f = one.later in let g = two.later in omega (arith, f, g));
  within = two.within;
  below = record {
    each = λ k d h w. elim (below_or_past k next (nat_lt k next) refl) [
      | inl inside ↦ left _ top behind (one.below.each k d h inside)
      | inr later ↦ right _ top behind (two.below.each k d later w)
    ];
  };
}
  where
    left : (x y z : ℤ) → x ≤ℤ y → x ≤ℤ int_max y z
    left x y z h = grind (arith, ints, h)

    right : (x y z : ℤ) → x ≤ℤ z → x ≤ℤ int_max y z
    right x y z h = grind (arith, ints, h)

-- the reaches of the first places
pub record AreReachesUntil (ps : List Level) (n : ℕ) (qs : List Reach) : Type 0 where
  pub size : length qs ≡ n
  pub each : (i : ℕ) (d : Reach) → i < n → Reaches ps i (get_or qs i d)

-- a search that has come to a place
pub record IsPassed (ps : List Level) (k i : ℕ) (limit : ℤ) : Type 0 where
  pub from : k ≤ i
  pub within : i ≤ length ps
  pub below : IsBelow ps k i limit

pub passed_one : (ps : List Level) (k i : ℕ) (limit : ℤ) → IsPassed ps k i limit → i < length ps → ((d : Level) → (get_or ps i d).level ≤ℤ limit) → IsPassed ps k (i + 1) limit
passed_one ps k i limit so_far within below = record {
  from = (let f = so_far.from in omega (arith, f));
  within = omega (arith, within);
  below = record {
    each = λ n d h w. elim (below_or_last n i (omega (arith, w))) [
      | inl old ↦ so_far.below.each n d h old
      | inr last ↦ subst (λ j. (get_or ps j d).level ≤ℤ limit) (sym last) (below d)
    ];
  };
}

pub passed_run : (ps : List Level) (k i : ℕ) (limit : ℤ) (q : Reach) → IsPassed ps k i limit → Reaches ps i q → q.top ≤ℤ limit → IsPassed ps k q.next limit
passed_run ps k i limit q so_far reach low = record {
  from = (let f = so_far.from in let g = reach.later in omega (arith, f, g));
  within = reach.within;
  below = record {
    each = λ n d h w. elim (below_or_past n i (nat_lt n i) refl) [
      | inl old ↦ so_far.below.each n d h old
      | inr new' ↦ trans _ _ _ (reach.below.each n d new' w) low
    ];
  };
}
  where
    trans : (x y z : ℤ) → x ≤ℤ y → y ≤ℤ z → x ≤ℤ z
    trans x y z h k = omega (arith, ints, h, k)

pub never_by_moment : (ps : List Level) (k i : ℕ) (to limit : ℤ) → IsRising ps → IsPassed ps k i limit → i < length ps → ((d : Level) → to ≤ℤ (get_or ps i d).t) → IsNeverAbove ps k to limit
never_by_moment ps k i to limit rising so_far within late = record {
  each = λ n d h w before. elim (below_or_past n i (nat_lt n i) refl) [
    | inl old ↦ so_far.below.each n d h old
    | inr new' ↦ elim (cases_eq n i) [
      | inl same ↦ absurd (never (get_or ps n d).t to before (subst (λ j. to ≤ℤ (get_or ps j d).t) (sym same) (late d)))
      | inr other ↦ absurd (never (get_or ps n d).t to before (trans _ _ _ (late d) (rising i n d (omega (arith, new', other)) w)))
    ]
  ];
}
  where
    never : (x to : ℤ) → x <ℤ to → to ≤ℤ x → ⊥
    never x to h k = omega (arith, ints, h, k)

    trans : (x y z : ℤ) → x ≤ℤ y → y <ℤ z → x ≤ℤ z
    trans x y z h k = omega (arith, ints, h, k)

-- what the search says of moments
pub above_first : (ps : List Level) (from to limit : ℤ) (k : ℕ) (z : ℤ) → from <ℤ to → IsPlaceOf ps from k → z ≡ level_before ps k → limit <ℤ z → IsFirstAbove ps from to limit from
above_first ps from to limit k z some at is over = (omega (arith, ints), some, subst (λ y. limit <ℤ y) (is ∙ sym (level_at ps from k at)) over)

pub above_later : (ps : List Level) (from to limit : ℤ) (k i : ℕ) (d : Level) → IsRising ps → IsPlaceOf ps from k → IsAbove ps k to limit i → IsFirstAbove ps from to limit (get_or ps i d).t
above_later ps from to limit k i d rising at above = (
  less from (get_or ps i d).t (at.behind i d above.from above.within),
  above.before d,
  subst (λ y. limit <ℤ y) (sym (level_at ps (get_or ps i d).t (suc i) here)) (above.above no_level),
)
  where
    less : (x y : ℤ) → x <ℤ y → x ≤ℤ y
    less x y h = omega (arith, ints, h)

    itself : (x y : ℤ) → x ≡ y → x ≤ℤ y
    itself x y h = omega (arith, ints, h)

    here : IsPlaceOf ps (get_or ps i d).t (suc i)
    here = record {
      within = (let w = above.within in omega (arith, w));
      before = λ n e h. elim (cases_eq n i) [
        | inl same ↦ itself _ _ (ap (λ j. (get_or ps j e).t) same ∙ ap (λ p. p.t) (get_or_default ps i e d above.within))
        | inr other ↦ less _ _ (subst (λ p. (get_or ps n e).t <ℤ p.t) (get_or_default ps i e d above.within) (rising n i e (omega (arith, h, other)) above.within))
      ];
      behind = λ n e h w. subst (λ p. p.t <ℤ (get_or ps n e).t) (get_or_default ps i e d above.within) (rising i n e (omega (arith, h)) w);
    }

pub stays_below : (ps : List Level) (from to limit : ℤ) (k : ℕ) (z : ℤ) → IsRising ps → IsPlaceOf ps from k → z ≡ level_before ps k → z ≤ℤ limit → IsNeverAbove ps k to limit → StaysBelow ps from to limit
stays_below ps from to limit k z rising at is low never t since until = by_place (some_place ps t rising)
  where
    trans : (x y z : ℤ) → x ≤ℤ y → y <ℤ z → x <ℤ z
    trans x y z h k = omega (arith, ints, h, k)

    twice : (x y : ℤ) → x ≤ℤ y → y <ℤ x → ⊥
    twice x y h k = omega (arith, ints, h, k)

    -- the place of a later moment is no earlier
    no_earlier : (n : ℕ) → IsPlaceOf ps t n → n < k → ⊥
    no_earlier n there h = twice _ _ (at.before n no_level h) (trans _ _ _ since (there.behind n no_level (omega arith) (let w = at.within in omega (arith, w, h))))

    level_there : (n : ℕ) → IsPlaceOf ps t n → k ≤ n → level_before ps n ≤ℤ limit
    level_there n there h = elim (cases_eq n k) [
      | inl same ↦ subst (λ y. y ≤ℤ limit) (is ∙ ap (level_before ps) (sym same)) low
      | inr other ↦ later n there h other
    ]
      where
        later : (n : ℕ) → IsPlaceOf ps t n → k ≤ n → (n ≡ k → ⊥) → level_before ps n ≤ℤ limit
        later zero there h other = absurd (other (omega (arith, h)))
        later (suc n) there h other = never.each n no_level (omega (arith, h, other)) (let w = there.within in omega (arith, w)) (trans _ _ _ (there.before n no_level (omega arith)) until)

    by_place : (n : ℕ) × IsPlaceOf ps t n → level_in ps t ≤ℤ limit
    by_place (n, there) = elim (below_or_past n k (nat_lt n k) refl) [
      | inl early ↦ absurd (no_earlier n there early)
      | inr late ↦ subst (λ y. y ≤ℤ limit) (sym (level_at ps t n there)) (level_there n there late)
    ]

-- facts at one default
pub above_here : (ps : List Level) (k i : ℕ) (to limit : ℤ) (e : Level) → k ≤ i → i < length ps → (get_or ps i e).t <ℤ to → limit <ℤ (get_or ps i e).level → IsAbove ps k to limit i
above_here ps k i to limit e from within before over = record {
  from = from;
  within = within;
  before = λ d. subst (λ p. p.t <ℤ to) (get_or_default ps i e d within) before;
  above = λ d. subst (λ p. limit <ℤ p.level) (get_or_default ps i e d within) over;
}

pub late_here : (ps : List Level) (i : ℕ) (to : ℤ) (e : Level) → i < length ps → to ≤ℤ (get_or ps i e).t → (d : Level) → to ≤ℤ (get_or ps i d).t
late_here ps i to e within late d = subst (λ p. to ≤ℤ p.t) (get_or_default ps i e d within) late

pub low_here : (ps : List Level) (i : ℕ) (limit : ℤ) (e : Level) → i < length ps → (get_or ps i e).level ≤ℤ limit → (d : Level) → (get_or ps i d).level ≤ℤ limit
low_here ps i limit e within low d = subst (λ p. p.level ≤ℤ limit) (get_or_default ps i e d within) low

pub if_none_so : {X : Type 0} {P : Type 0} (o : Option X) → P → IfNone o P
if_none_so None p = p
if_none_so (Some x) p = tt
