-- Bounds that are noted one after the other.
use Rattle.std.specs.Prelude.{◌≡◌, ℕ, zero, suc, ◌+◌, ◌<◌, ◌≤◌, ◌==◌, ℤ, true, List, [], ◌∷◌, ◌++◌, length, Option, Some, None, slice_get}
use Rattle.std.proofs.Common.{refl, sym, ap, subst, ◌∙◌, arith, get_or, set, inl, inr}
use Rattle.std.proofs.lemmas.Bool.{cases_eq}
use Rattle.std.proofs.lemmas.Bool.Decides.{nat_tests}
use Rattle.std.proofs.lemmas.List.{get_or_append_left, get_or_default, get_or-set_same, get_or-set_other, length_push, length-set, nil_from_length}
use Rattle.base_laws.specs.laws.Numbers.{below_or_last}
use Rattle.base_laws.specs.laws.Places.{newest, at_left, at_right}
use Rattle.sched_model.specs.Data.{Data}
use Rattle.region.specs.declared.types.Bounds.{Bounds}
use Rattle.region.specs.Cells.{Region, bounds_of}
use Rattle.region.specs.Looks.{IsRegionOf}
use Rattle.refute_state.specs.code.Gathered.{demands_of}
use Rattle.refute_state.specs.laws.Settled.{In}
use Rattle.prop_state.specs.declared.demands.Named.{Named}
use Rattle.prop_state.specs.code.Tasks.{quiet}
use Rattle.prop_state.specs.code.Walks.{AreNamed, IsNamed, AreAll, AreAsked}
use Rattle.prop_state.specs.code.Known.{AreKnown, AreUnknown, IfKnown, IsKnown, remembered, AreFresh, Remembers}
use Rattle.prop_state.specs.laws.Again.{quiet_again, quiet_still}

-- at first nothing is remembered
pub none_known : AreUnknown 0 []
none_known = record { size = refl; each = λ k. refl }

pub none_more : (n : ℕ) (ks : List (Option (List Bounds))) → AreUnknown n ks → AreUnknown (n + 1) (ks ++ None ∷ [])
none_more n ks h = record { size = length_push ks None ∙ ap (λ k. k + 1) h.size; each = λ k. pushed ks k ∙ h.each k }
  where
    pushed : (ks : List (Option (List Bounds))) (k : ℕ) → get_or (ks ++ None ∷ []) k None ≡ get_or ks k None
    pushed [] zero = refl
    pushed [] (suc k) = refl
    pushed (x ∷ xs) zero = refl
    pushed (x ∷ xs) (suc k) = pushed xs k

-- what is fresh, one demand after the other
pub fresh_none : (m : Data) (r : Region) (k : ℕ) (cs : List ℕ) (ns : List Named) (known : Option (List Bounds)) → AreFresh m r k cs ns known 0 [] []
fresh_none m r k cs ns known = record { size = refl; named = λ i low c n. absurd (omega (arith, low)); all = λ i low c e. absurd (omega (arith, low)) }

pub fresh_known : (m : Data) (r : Region) (k : ℕ) (cs : List ℕ) (ns : List Named) (known : Option (List Bounds)) (n : ℕ) (fs : List ℕ) (os : List Named) (e : Named) → n < length ns → remembered known n ≡ Some (bounds_of r (get_or ns n e).demand.x)
    → AreFresh m r k cs ns known n fs os → AreFresh m r k cs ns known (n + 1) fs os
fresh_known m r k cs ns known n fs os e within is before = record {
  size = before.size;
  named = before.named;
  all = λ i low c f. elim (below_or_last i n low) [
    | inl less ↦ before.all i less c f
    | inr last ↦ inr (ap (remembered known) last ∙ is ∙ ap Some (ap (λ (z : Named). bounds_of r z.demand.x) (get_or_default ns n e f within) ∙ ap (λ j. bounds_of r (get_or ns j f).demand.x) (sym last)))
  ];
}

in_pushed : (xs : List ℕ) (x y : ℕ) → In xs y → In (xs ++ x ∷ []) y
in_pushed [] x y here = absurd here
in_pushed (z ∷ zs) x y here = elim here [ inl e ↦ inl e | inr later ↦ inr (in_pushed zs x y later) ]

in_last : (xs : List ℕ) (x : ℕ) → In (xs ++ x ∷ []) x
in_last [] x = inl refl
in_last (z ∷ zs) x = inr (in_last zs x)

pub fresh_more : (m : Data) (r : Region) (k : ℕ) (cs : List ℕ) (ns : List Named) (known : Option (List Bounds)) (n : ℕ) (fs : List ℕ) (os : List Named) (x d : ℕ) (v e : Named) → n < length cs → n < length ns → x ≡ get_or cs n d → v ≡ get_or ns n e → AreNamed m r k cs ns
    → AreFresh m r k cs ns known n fs os → AreFresh m r k cs ns known (n + 1) (fs ++ x ∷ []) (os ++ v ∷ [])
fresh_more m r k cs ns known n fs os x d v e listed within at there all before = let named : IsNamed m r k x v = subst (λ z. IsNamed m r k z v) (sym at) (subst (IsNamed m r k (get_or cs n d)) (sym there) (all n listed d e)) in record {
  size = length_push fs x ∙ ap (λ j. j + 1) before.size ∙ sym (length_push os v);
  named = λ i low c f. elim (below_or_last i (length fs) (subst (λ (j : ℕ). i < j) (length_push fs x) low)) [
    | inl less ↦ (let size = before.size in subst (λ z. IsNamed m r k z (get_or (os ++ v ∷ []) i f)) (sym (get_or_append_left fs (x ∷ []) c i less))
        (subst (λ z. IsNamed m r k (get_or fs i c) z) (sym (get_or_append_left os (v ∷ []) f i (omega (arith, less, size)))) (before.named i less c f)))
    | inr last ↦ subst (λ z. IsNamed m r k z (get_or (os ++ v ∷ []) i f)) (sym (newest i fs x c last)) (subst (λ z. IsNamed m r k x z) (sym (newest i os v f (last ∙ before.size))) named)
  ];
  all = λ i low c f. elim (below_or_last i n low) [
    | inl less ↦ elim (before.all i less c f) [ inl fresh ↦ inl (in_pushed fs x (get_or cs i c) fresh) | inr old ↦ inr old ]
    | inr last ↦ inl (subst (In (fs ++ x ∷ [])) (at ∙ get_or_default cs n d c listed ∙ ap (λ j. get_or cs j c) (sym last)) (in_last fs x))
  ];
}

pub fresh_all : (m : Data) (r : Region) (k : ℕ) (cs : List ℕ) (ns : List Named) (known : Option (List Bounds)) (i n : ℕ) (fs : List ℕ) (os : List Named) → i ≡ n → AreFresh m r k cs ns known i fs os → AreFresh m r k cs ns known n fs os
fresh_all m r k cs ns known i n fs os same h = subst (λ (j : ℕ). AreFresh m r k cs ns known j fs os) same h

-- what is remembered, one demand after the other
pub remembers_none : (r : Region) (ns : List Named) → Remembers r 0 ns []
remembers_none r ns = record { size = refl; each = λ i low e. absurd (omega (arith, low)) }

pub remembers_more : (r : Region) (n : ℕ) (ns : List Named) (bs : List Bounds) (e : Named) (b : Bounds) → n < length ns → b ≡ bounds_of r (get_or ns n e).demand.x → Remembers r n ns bs → Remembers r (n + 1) ns (bs ++ b ∷ [])
remembers_more r n ns bs e b within is before = record {
  size = length_push bs b ∙ ap (λ j. j + 1) before.size;
  each = λ i low f. elim (below_or_last i n low) [
    | inl less ↦ at_left bs (b ∷ []) i _ (before.each i less f)
    | inr last ↦ ap (λ j. slice_get (bs ++ b ∷ []) j) (last ∙ sym before.size ∙ none_more (length bs)) ∙ at_right bs (b ∷ []) 0 ∙ ap Some (is ∙ ap (λ (z : Named). bounds_of r z.demand.x) (get_or_default ns n e f within) ∙ ap (λ j. bounds_of r (get_or ns j f).demand.x) (sym last))
  ];
}
  where
    none_more : (j : ℕ) → j ≡ j + 0
    none_more j = omega arith

-- a state function whose fresh demands were asked is quiet, and so is one that has none
pub quiet_asked : (m : Data) (k : ℕ) (q : Region) (best : Option ℤ) (known : Option (List Bounds)) (cs : List ℕ) (ns : List Named) (fs : List ℕ) (os : List Named) → cs ≡ demands_of m k → IsRegionOf m q → IfKnown m k known → length cs ≤ length ns → AreNamed m q k cs ns
    → AreFresh m q k cs ns known (length cs) fs os → AreAsked m q best k cs fs → quiet m k q best
quiet_asked m k q best known cs ns fs os is of have room named fresh asked =
    subst (λ ds. length ds ≤ length ns → AreNamed m q k ds ns → AreFresh m q k ds ns known (length ds) fs os → AreAsked m q best k ds fs → quiet m k q best) (sym is)
    (λ r n f a. quiet_again m k q best known ns fs os of have (record { room = r; named = n }) f a) room named fresh asked

pub quiet_unasked : (m : Data) (k : ℕ) (q : Region) (best : Option ℤ) (known : Option (List Bounds)) (cs : List ℕ) (ns : List Named) (fs : List ℕ) (os : List Named) → fs ≡ [] → cs ≡ demands_of m k → IsRegionOf m q → IfKnown m k known → length cs ≤ length ns → AreNamed m q k cs ns
    → AreFresh m q k cs ns known (length cs) fs os → quiet m k q best
quiet_unasked m k q best known cs ns fs os none is of have room named fresh =
    subst (λ ds. length ds ≤ length ns → AreNamed m q k ds ns → AreFresh m q k ds ns known (length ds) fs os → quiet m k q best) (sym is)
    (λ r n f. quiet_still m k q best known ns fs os none of have (record { room = r; named = n }) f) room named fresh

-- the demands that are fresh, at the places of their constraints
pub fresh_named : (m : Data) (r : Region) (k : ℕ) (cs : List ℕ) (ns : List Named) (known : Option (List Bounds)) (n : ℕ) (fs : List ℕ) (os : List Named) → AreFresh m r k cs ns known n fs os → AreAll m r k fs os
fresh_named m r k cs ns known n fs os fresh = (let size = fresh.size in record { room = omega (arith, size); named = fresh.named })

-- what is remembered of one more, and of the others as before
pub known_set : (m : Data) (n k : ℕ) (known : List (Option (List Bounds))) (bs : List Bounds) → k < n → IsKnown m k bs → AreKnown m n known → AreKnown m n (set known k (Some bs))
known_set m n k known bs low mine h = record {
  size = length-set known k (Some bs) ∙ h.size;
  each = λ j within. elim (cases_eq j k) [
    | inl same ↦ subst (λ i. IfKnown m i (get_or (set known k (Some bs)) i None)) (sym same)
        (subst (IfKnown m k) (sym (get_or-set_same known k (Some bs) None (let size = h.size in omega (arith, low, size)))) mine)
    | inr other ↦ subst (IfKnown m j) (sym (get_or-set_other known k j (Some bs) None other)) (h.each j within)
  ];
}

pub no_items : (xs : List ℕ) → (length xs == 0) ≡ true → xs ≡ []
no_items xs none = nil_from_length xs (zero_is (length xs) none) where
  zero_is : (n : ℕ) → (n == 0) ≡ true → n ≡ 0
  zero_is n h = grind (arith, nat_tests, h)
