-- From what pairs and triples of different constraints say to what any two and three demands say.
use Rattle.std.specs.Prelude.{◌≡◌, ◌⊎◌, ℤ, ◌+ℤ◌, ◌≤ℤ◌, true, List, [], ◌∷◌, refl, Option, Some, None}
use Rattle.std.specs.List.{filter_map, cons_option}
use Rattle.std.proofs.Common.{arith, inl, inr, sym, subst, ap, ◌∙◌}
use Rattle.std.proofs.lemmas.Int.{ints}
use Rattle.refute_state.specs.declared.stretch.Stretch.{Stretch}
use Rattle.refute_state.specs.laws.Lists.{Each, Pairs, compared}
use Rattle.refute_state.specs.laws.Lists as lists
use Rattle.refute_state.specs.laws.Running.{IsDistance}
use Rattle.refute_state.specs.laws.Settled.{In, each_in, Apart, Unrefuted}
use Rattle.refute_state.specs.laws.Canonical.{each_given}

-- what the pair row says of two where it doesn't refute them
pub record Pair (D : ℤ → ℤ → ℤ) (d e : Stretch) : Type 0 where
  pub other : (d.state ≡ e.state → ⊥) → Apart D d e
  pub same : d.state ≡ e.state → Apart D d e ⊎ (((d.ends ≡ true → e.end ≤ℤ d.end) × (d.starts ≡ true → d.start ≤ℤ e.start)) × ((e.ends ≡ true → d.end ≤ℤ e.end) × (e.starts ≡ true → e.start ≤ℤ d.start)))

-- what the triple row says of two and of one from s up to t that isn't of their state
abbrev pub Closed : (ℤ → ℤ → ℤ) → Stretch → ℤ → ℤ → Stretch → Type 0
Closed D d s t e = ((d.end +ℤ D d.state e.state) ≤ℤ e.start) ⊎ (t ≤ℤ d.start) ⊎ (e.end ≤ℤ s)

pub record Triple (D : ℤ → ℤ → ℤ) (ds : List Stretch) (ns : List (ℤ × ℤ)) (d e : Stretch) : Type 0 where
  pub states : (x : Stretch) → In ds x → d.state ≡ e.state → (d.state ≡ x.state → ⊥) → Closed D d x.start x.end e × Closed D e x.start x.end d
  pub gaps : (n : ℤ × ℤ) → In ns n → d.state ≡ e.state → Closed D d n.0 n.1 e × Closed D e n.0 n.1 d

pub record Rows (D : ℤ → ℤ → ℤ) (ds : List Stretch) (ns : List (ℤ × ℤ)) : Type 0 where
  pub pairs : Pairs (Pair D) ds
  pub free : (d : Stretch) (n : ℤ × ℤ) → In ds d → In ns n → (d.end ≤ℤ n.0) ⊎ (n.1 ≤ℤ d.start)
  pub triples : Pairs (Triple D ds ns) ds

-- two of a list are one, or one stands before the other
pub two : {X : Type 0} (R : X → X → Type 0) (xs : List X) (x y : X) → Pairs R xs → In xs x → In xs y → (x ≡ y) ⊎ R x y ⊎ R y x
two R xs x y rows a b = elim (compared (λ z. z ≡ x) (λ z. z ≡ y) R xs rows a b) [
  | inl same ↦ let z = lists.some_one (λ z. (z ≡ x) × (z ≡ y)) xs same in inl (sym z.1.0 ∙ z.1.1)
  | inr (inl (u, v, p, q, r)) ↦ inr (inl (subst (λ w. R w y) p (subst (λ w. R u w) q r)))
  | inr (inr (u, v, p, q, r)) ↦ inr (inr (subst (λ w. R y w) p (subst (λ w. R w u) q r)))
]

turned : (D : ℤ → ℤ → ℤ) (d e : Stretch) → Apart D e d → Apart D d e
turned D d e h = elim h [ inl a ↦ inr a | inr b ↦ inl b ]

pub rows_unrefuted : (D : ℤ → ℤ → ℤ) (ds : List Stretch) (ns : List (ℤ × ℤ)) → IsDistance D → Rows D ds ns → Unrefuted D ds ns
rows_unrefuted D ds ns low rows = record {
  other = λ d e one two_ differ. apart d e one two_ differ;
  free = rows.free;
  aligned = λ d e one two_ same. elim (two (Pair D) ds d e rows.pairs one two_) [
    | inl is ↦ inr (λ k. subst (λ z. z.end ≤ℤ d.end) is (omega (arith, ints)), λ k. subst (λ z. d.start ≤ℤ z.start) is (omega (arith, ints)))
    | inr (inl p) ↦ elim (p.same same) [ inl a ↦ inl a | inr b ↦ inr b.0 ]
    | inr (inr p) ↦ elim (p.same (sym same)) [ inl a ↦ inl (turned D d e a) | inr b ↦ inr b.1 ]
  ];
  between = λ d x e one two_ three same differ. elim (two (Triple D ds ns) ds d e rows.triples one three) [
    | inl is ↦ alone d x e is (apart d x one two_ differ)
    | inr (inl t) ↦ (t.states x two_ same differ).0
    | inr (inr t) ↦ (t.states x two_ (sym same) (λ h. differ (same ∙ h))).1
  ];
  against = λ d e n one two_ three same. elim (two (Triple D ds ns) ds d e rows.triples one three) [
    | inl is ↦ elim (rows.free d n one two_) [ inl a ↦ inr (inr (subst (λ z. z.end ≤ℤ n.0) is a)) | inr b ↦ inr (inl b) ]
    | inr (inl t) ↦ (t.gaps n two_ same).0
    | inr (inr t) ↦ (t.gaps n two_ (sym same)).1
  ];
}
  where
    apart : (d e : Stretch) → In ds d → In ds e → (d.state ≡ e.state → ⊥) → Apart D d e
    apart d e one other differ = elim (two (Pair D) ds d e rows.pairs one other) [
      | inl is ↦ absurd (differ (ap (λ z. z.state) is))
      | inr (inl p) ↦ p.other differ
      | inr (inr p) ↦ turned D d e (p.other (λ h. differ (sym h)))
    ]

    alone : (d x e : Stretch) → d ≡ e → Apart D d x → Closed D d x.start x.end e
    alone d x e is h = elim h [
      | inl a ↦ inr (inr (subst (λ z. z.end ≤ℤ x.start) is (omega (arith, ints, a, low d.state x.state))))
      | inr b ↦ inr (inl (omega (arith, ints, b, low x.state d.state)))
    ]

-- pairs of constraints give pairs of demands
pub pairs_given : {X Y : Type 0} (R : X → X → Type 0) (S : Y → Y → Type 0) (h : X → Option Y) (xs : List X) → ((x y : X) (d e : Y) → R x y → h x ≡ Some d → h y ≡ Some e → S d e) → Pairs R xs → Pairs S (filter_map h xs)
pairs_given R S h [] f rows = tt
pairs_given R S h (x ∷ xs) f rows = decided (h x) (λ d is. each_given (S d) h xs (λ y e here given. f x y d e (each_in (R x) xs y rows.0 here) is given)) (pairs_given R S h xs f rows.1)
  where
    decided : (o : Option _) → ((d : _) → o ≡ Some d → Each (S d) (filter_map h xs)) → Pairs S (filter_map h xs) → Pairs S (cons_option o (filter_map h xs))
    decided None g rest = rest
    decided (Some d) g rest = (g d refl, rest)
