-- Numbers that are noted one after the other.
use Rattle.std.specs.Prelude.{◌≡◌, ℕ, zero, suc, ◌+◌, ◌<◌, ◌≤◌, Bool, true, false, nat_lt, List, [], ◌∷◌, ◌++◌, length, Option, None}
use Rattle.std.proofs.Common.{refl, sym, ap, subst, ◌∙◌, arith, get_or, inl, inr}
use Rattle.std.proofs.lemmas.Bool.Decides.{nat_tests}
use Rattle.std.proofs.lemmas.List.{get_or_append_left, get_or_default, get_or_past, length_push}
use Rattle.base_laws.specs.laws.Numbers.{below_or_last}
use Rattle.base_laws.specs.laws.Places.{newest}
use Rattle.sched_base.specs.declared.ids.Itv.{Itv}
use Rattle.region.specs.Cells.{Region, bounds_of}
use Rattle.prop_sets.specs.declared.known.Numbers.{Numbers}
use Rattle.prop_sets.specs.code.Rows.{member_at, AreMoments}
use Rattle.prop_sets.specs.code.Known.{numbers_of, AreNumbers, AreUnknown}
use Rattle.prop_sets.specs.code.Known as known

pub no_numbers : (r : Region) (ms : List Itv) → AreNumbers r ms 0 []
no_numbers r ms = record { size = refl; each = λ k low. absurd (omega (arith, low)); moments = λ k low. absurd (omega (arith, low)) }

pub more_numbers : (r : Region) (ms : List Itv) (n : ℕ) (ns : List Numbers) (x : Numbers) → x ≡ numbers_of (bounds_of r (member_at ms n)) → AreMoments x → AreNumbers r ms n ns → AreNumbers r ms (n + 1) (ns ++ x ∷ [])
more_numbers r ms n ns x is here h = record {
  size = length_push ns x ∙ ap (λ k. k + 1) h.size;
  each = λ i low. elim (below_or_last i n low) [
    | inl less ↦ (let size = h.size in get_or_append_left ns (x ∷ []) known.no_numbers i (omega (arith, less, size)) ∙ h.each i less)
    | inr last ↦ newest i ns x known.no_numbers (last ∙ sym h.size) ∙ is ∙ ap (λ k. numbers_of (bounds_of r (member_at ms k))) (sym last)
  ];
  moments = λ i low. elim (below_or_last i n low) [
    | inl less ↦ (let size = h.size in subst AreMoments (sym (get_or_append_left ns (x ∷ []) known.no_numbers i (omega (arith, less, size)))) (h.moments i less))
    | inr last ↦ subst AreMoments (sym (newest i ns x known.no_numbers (last ∙ sym h.size))) here
  ];
}

pub all_numbers : (r : Region) (ms : List Itv) (k n : ℕ) (ns : List Numbers) → k ≡ n → AreNumbers r ms k ns → AreNumbers r ms n ns
all_numbers r ms k n ns same h = subst (λ i. AreNumbers r ms i ns) same h

-- at first nothing is remembered
pub none_known : AreUnknown 0 []
none_known = record { size = refl; each = λ k. refl }

pub none_more : (n : ℕ) (ks : List (Option (List Numbers))) → AreUnknown n ks → AreUnknown (n + 1) (ks ++ None ∷ [])
none_more n ks h = record { size = length_push ks None ∙ ap (λ k. k + 1) h.size; each = λ k. pushed ks k ∙ h.each k }
  where
    pushed : (ks : List (Option (List Numbers))) (k : ℕ) → get_or (ks ++ None ∷ []) k None ≡ get_or ks k None
    pushed [] zero = refl
    pushed [] (suc k) = refl
    pushed (x ∷ xs) zero = refl
    pushed (x ∷ xs) (suc k) = pushed xs k

-- two lists of as many numbers, one after the other
pub same_numbers : (a b : Numbers) → a.presence ≡ b.presence → a.est ≡ b.est → a.lct ≡ b.lct → a.lst ≡ b.lst → a.ect ≡ b.ect → a.p ≡ b.p → a ≡ b
same_numbers a b h est lct lst ect p =
    ap (λ z. record { presence = z; est = a.est; lct = a.lct; lst = a.lst; ect = a.ect; p = a.p }) h
    ∙ ap (λ z. record { presence = b.presence; est = z; lct = a.lct; lst = a.lst; ect = a.ect; p = a.p }) est
    ∙ ap (λ z. record { presence = b.presence; est = b.est; lct = z; lst = a.lst; ect = a.ect; p = a.p }) lct
    ∙ ap (λ z. record { presence = b.presence; est = b.est; lct = b.lct; lst = z; ect = a.ect; p = a.p }) lst
    ∙ ap (λ z. record { presence = b.presence; est = b.est; lct = b.lct; lst = b.lst; ect = z; p = a.p }) ect
    ∙ ap (λ z. record { presence = b.presence; est = b.est; lct = b.lct; lst = b.lst; ect = b.ect; p = z }) p

abbrev pub SameSoFar : List Numbers → List Numbers → ℕ → Type 0
SameSoFar xs ys n = (j : ℕ) (d : Numbers) → j < n → get_or xs j d ≡ get_or ys j d

pub none_same : (xs ys : List Numbers) → SameSoFar xs ys 0
none_same xs ys j d low = absurd (omega (arith, low))

pub more_same : (xs ys : List Numbers) (n : ℕ) (d : Numbers) → get_or xs n d ≡ get_or ys n d → n < length xs → length xs ≡ length ys → SameSoFar xs ys n → SameSoFar xs ys (n + 1)
more_same xs ys n d same within size before j e low = elim (below_or_last j n low) [
  | inl less ↦ before j e less
  | inr last ↦ subst (λ i. get_or xs i e ≡ get_or ys i e) (sym last) (get_or_default xs n e d within ∙ same ∙ get_or_default ys n d e (omega (arith, within, size)))
]

pub all_same : (xs ys : List Numbers) (n : ℕ) → length xs ≡ length ys → length xs ≤ n → SameSoFar xs ys n → xs ≡ ys
all_same [] [] n size whole same = refl
all_same [] (y ∷ ys) n size whole same = absurd (omega (arith, size))
all_same (x ∷ xs) [] n size whole same = absurd (omega (arith, size))
all_same (x ∷ xs) (y ∷ ys) n size whole same =
    ap (λ z. z ∷ xs) (same 0 x (omega (arith, whole))) ∙ ap (λ zs. y ∷ zs) (all_same xs ys n (omega (arith, size)) (omega (arith, whole)) (λ j d low. by_case j d low (nat_lt (suc j) n) refl))
  where
    below : (j : ℕ) → nat_lt (suc j) n ≡ true → suc j < n
    below j h = grind (arith, nat_tests)

    last : (j : ℕ) → nat_lt (suc j) n ≡ false → n ≤ suc j
    last j h = grind (arith, nat_tests)

    by_case : (j : ℕ) (d : Numbers) → j < n → (b : Bool) → nat_lt (suc j) n ≡ b → get_or xs j d ≡ get_or ys j d
    by_case j d low true is = same (suc j) d (below j is)
    by_case j d low false is = let past = last j is in get_or_past xs j d (omega (arith, past, whole)) ∙ sym (get_or_past ys j d (omega (arith, past, whole, size)))
