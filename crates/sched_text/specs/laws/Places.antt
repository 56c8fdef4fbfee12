-- Texts of pairs, place by place, tell the second items.
use Rattle.std.specs.Prelude.{◌≡◌, ℕ, ◌+◌, Bool, true, List, [], ◌∷◌, ◌++◌}
use Rattle.std.proofs.Common.{refl, sym, ◌∙◌, append_assoc}
use Rattle.std.specs.List.{list_all}
use Rattle.std.proofs.lemmas.Bool.{and_parts, and_from}
use Rattle.base_laws.specs.laws.Lists.{same_lists}
use Rattle.sched_model.specs.Words.{placewise}
use Rattle.textline.specs.Lines.{Bytes}
use Rattle.sched_text.specs.Pieces.{at_places}

-- a text in front tells the second item, and what stands behind it
abbrev pub TellsSecond : {X Y : Type 0} → (ℕ → X → Y → Bytes) → (X → Y → Bool) → Type 0
TellsSecond {X} {Y} f fit = (i : ℕ) (x : X) (y z : Y) (p q : Bytes) → fit x y ≡ true → fit x z ≡ true → f i x y ++ p ≡ f i x z ++ q → (y ≡ z) × (p ≡ q)

pub places_told : {X Y : Type 0} → (f : ℕ → X → Y → Bytes) (fit : X → Y → Bool) → TellsSecond f fit → (i : ℕ) (xs : List X) (ys zs : List Y) (p q : Bytes) → placewise fit xs ys ≡ true → placewise fit xs zs ≡ true
    → at_places f i xs ys ++ p ≡ at_places f i xs zs ++ q → (ys ≡ zs) × (p ≡ q)
places_told f fit tells i [] [] [] p q hy hz e = (refl, e)
places_told f fit tells i [] [] (z ∷ zs) p q hy hz e = cc
places_told f fit tells i [] (y ∷ ys) zs p q hy hz e = cc
places_told f fit tells i (x ∷ xs) [] zs p q hy hz e = cc
places_told f fit tells i (x ∷ xs) (y ∷ ys) [] p q hy hz e = cc
places_told f fit tells i (x ∷ xs) (y ∷ ys) (z ∷ zs) p q hy hz e =
    let h = and_parts (fit x y) (placewise fit xs ys) hy in
    let k = and_parts (fit x z) (placewise fit xs zs) hz in
    let here = tells i x y z (at_places f (i + 1) xs ys ++ p) (at_places f (i + 1) xs zs ++ q) h.0 k.0
    (sym (append_assoc (f i x y) (at_places f (i + 1) xs ys) p) ∙ e ∙ append_assoc (f i x z) (at_places f (i + 1) xs zs) q) in
    let rest = places_told f fit tells (i + 1) xs ys zs p q h.1 k.1 here.1 in (same_lists y z ys zs here.0 rest.0, rest.1)

-- a test that follows, place by place, where the first items pass a test of their own
pub placewise_more : {X Y : Type 0} → (t : X → Bool) (r s : X → Y → Bool) → ((x : X) (y : Y) → t x ≡ true → r x y ≡ true → s x y ≡ true) → (xs : List X) (ys : List Y) → list_all t xs ≡ true → placewise r xs ys ≡ true → placewise s xs ys ≡ true
placewise_more t r s follows [] [] ht hr = refl
placewise_more t r s follows [] (y ∷ ys) ht hr = cc
placewise_more t r s follows (x ∷ xs) [] ht hr = cc
placewise_more t r s follows (x ∷ xs) (y ∷ ys) ht hr =
    let h = and_parts (t x) (list_all t xs) ht in
    let k = and_parts (r x y) (placewise r xs ys) hr in
    and_from (s x y) (placewise s xs ys) (follows x y h.0 k.0) (placewise_more t r s follows xs ys h.1 k.1)
