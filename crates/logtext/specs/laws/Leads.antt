-- Where lists of spelled values end.
use Rattle.std.specs.Prelude.{◌≡◌, ℕ, ◌+◌, ◌*◌, ◌<◌, Bool, true, List, [], ◌∷◌, ◌++◌, length}
use Rattle.std.proofs.Common.{refl, sym, ◌∙◌, append_assoc, arith, subst}
use Rattle.std.specs.List.{list_all, flat_map}
use Rattle.textline.specs.Lines.{Bytes}
use Rattle.logtext.specs.code.Reads.{NoneStands}
use Rattle.textline.specs.laws.Lines.{both_true}
use Rattle.base_laws.specs.laws.Lists.{same_lists}

-- a reading that tells values in front of words from each other
abbrev pub Tells : {A : Type 0} → (A → List Bytes) → (A → Bool) → Type 0
Tells {A} spelled fit = (a b : A) (x y : List Bytes) → fit a ≡ true → fit b ≡ true → spelled a ++ x ≡ spelled b ++ y → (a ≡ b) × (x ≡ y)

-- the first two bytes of the first word
abbrev pub tag : List Bytes → ℕ
tag [] = 0
tag ([] ∷ ws) = 0
tag ((a ∷ []) ∷ ws) = a
tag ((a ∷ b ∷ w) ∷ ws) = a * 256 + b

pub behind : (v w : Bytes) (x y : List Bytes) → v ∷ x ≡ w ∷ y → x ≡ y
behind v w x y e = cc

pub head_is : (v w : Bytes) (x y : List Bytes) → v ∷ x ≡ w ∷ y → v ≡ w
head_is v w x y e = cc

-- as many values
pub counted_told : {A : Type 0} → (f : A → List Bytes) (fit : A → Bool) → Tells f fit → (us vs : List A) (x y : List Bytes) → list_all fit us ≡ true → list_all fit vs ≡ true → length us ≡ length vs → flat_map f us ++ x ≡ flat_map f vs ++ y → (us ≡ vs) × (x ≡ y)
counted_told f fit tells [] [] x y ha hb same e = (refl, e)
counted_told f fit tells [] (b ∷ vs) x y ha hb same e = absurd (omega (arith, same))
counted_told f fit tells (a ∷ us) [] x y ha hb same e = absurd (omega (arith, same))
counted_told f fit tells (a ∷ us) (b ∷ vs) x y ha hb same e =
    let ha' = both_true (fit a) (list_all fit us) ha in
    let hb' = both_true (fit b) (list_all fit vs) hb in
    let first = tells a b (flat_map f us ++ x) (flat_map f vs ++ y) ha'.0 hb'.0 (sym (append_assoc (f a) (flat_map f us) x) ∙ e ∙ append_assoc (f b) (flat_map f vs) y) in
    let rest = counted_told f fit tells us vs x y ha'.1 hb'.1 (omega (arith, same)) first.1 in (same_lists a b us vs first.0 rest.0, rest.1)

-- no value stands behind fewer than there are
pub counted_more : {A : Type 0} → (f : A → List Bytes) (fit : A → Bool) → Tells f fit → (us vs : List A) (words x : List Bytes) → list_all fit us ≡ true → list_all fit vs ≡ true → length us < length vs → NoneStands f fit words → flat_map f us ++ words ≡ flat_map f vs ++ x → ⊥
counted_more f fit tells [] [] words x ha hb less none e = absurd (omega (arith, less))
counted_more f fit tells [] (b ∷ vs) words x ha hb less none e = none b (flat_map f vs ++ x) (both_true (fit b) (list_all fit vs) hb).0 (e ∙ append_assoc (f b) (flat_map f vs) x)
counted_more f fit tells (a ∷ us) [] words x ha hb less none e = absurd (omega (arith, less))
counted_more f fit tells (a ∷ us) (b ∷ vs) words x ha hb less none e =
    let ha' = both_true (fit a) (list_all fit us) ha in
    let hb' = both_true (fit b) (list_all fit vs) hb in
    let first = tells a b (flat_map f us ++ words) (flat_map f vs ++ x) ha'.0 hb'.0 (sym (append_assoc (f a) (flat_map f us) words) ∙ e ∙ append_assoc (f b) (flat_map f vs) x) in
    counted_more f fit tells us vs words x ha'.1 hb'.1 (omega (arith, less)) none first.1

-- values up to where they do not go on
pub open_told : {A : Type 0} → (f : A → List Bytes) (fit : A → Bool) (GoesOn : List Bytes → Type 0) → Tells f fit → ((a : A) (x : List Bytes) → GoesOn (f a ++ x)) → (us vs : List A) (x y : List Bytes) → list_all fit us ≡ true → list_all fit vs ≡ true → (GoesOn x → ⊥) → (GoesOn y → ⊥) → flat_map f us ++ x ≡ flat_map f vs ++ y → (us ≡ vs) × (x ≡ y)
open_told f fit GoesOn tells starts [] [] x y ha hb hx hy e = (refl, e)
open_told f fit GoesOn tells starts [] (b ∷ vs) x y ha hb hx hy e = absurd (hx (subst GoesOn (sym (e ∙ append_assoc (f b) (flat_map f vs) y)) (starts b (flat_map f vs ++ y))))
open_told f fit GoesOn tells starts (a ∷ us) [] x y ha hb hx hy e = absurd (hy (subst GoesOn (sym (append_assoc (f a) (flat_map f us) x) ∙ e) (starts a (flat_map f us ++ x))))
open_told f fit GoesOn tells starts (a ∷ us) (b ∷ vs) x y ha hb hx hy e =
    let ha' = both_true (fit a) (list_all fit us) ha in
    let hb' = both_true (fit b) (list_all fit vs) hb in
    let first = tells a b (flat_map f us ++ x) (flat_map f vs ++ y) ha'.0 hb'.0 (sym (append_assoc (f a) (flat_map f us) x) ∙ e ∙ append_assoc (f b) (flat_map f vs) y) in
    let rest = open_told f fit GoesOn tells starts us vs x y ha'.1 hb'.1 hx hy first.1 in (same_lists a b us vs first.0 rest.0, rest.1)

-- no values end where one begins and none stands
pub open_stuck : {A : Type 0} → (f : A → List Bytes) (fit : A → Bool) (GoesOn : List Bytes → Type 0) → Tells f fit → ((a : A) (x : List Bytes) → GoesOn (f a ++ x)) → (us vs : List A) (words rest : List Bytes) → list_all fit us ≡ true → list_all fit vs ≡ true → GoesOn words → NoneStands f fit words → (GoesOn rest → ⊥) → flat_map f us ++ words ≡ flat_map f vs ++ rest → ⊥
open_stuck f fit GoesOn tells starts [] [] words rest ha hb on none ends e = ends (subst GoesOn e on)
open_stuck f fit GoesOn tells starts [] (b ∷ vs) words rest ha hb on none ends e = none b (flat_map f vs ++ rest) (both_true (fit b) (list_all fit vs) hb).0 (e ∙ append_assoc (f b) (flat_map f vs) rest)
open_stuck f fit GoesOn tells starts (a ∷ us) [] words rest ha hb on none ends e = ends (subst GoesOn (sym (append_assoc (f a) (flat_map f us) words) ∙ e) (starts a (flat_map f us ++ words)))
open_stuck f fit GoesOn tells starts (a ∷ us) (b ∷ vs) words rest ha hb on none ends e =
    let ha' = both_true (fit a) (list_all fit us) ha in
    let hb' = both_true (fit b) (list_all fit vs) hb in
    let first = tells a b (flat_map f us ++ words) (flat_map f vs ++ rest) ha'.0 hb'.0 (sym (append_assoc (f a) (flat_map f us) words) ∙ e ∙ append_assoc (f b) (flat_map f vs) rest) in
    open_stuck f fit GoesOn tells starts us vs words rest ha'.1 hb'.1 on none ends first.1
