-- The tests that need no expression of a model come first.
use Rattle.std.proofs.Common.{◌≡◌, ℕ, Bool, true, false, List, [], ◌∷◌, ◌++◌, Option, Some, None, if◌then◌else◌, refl, sym, ◌∙◌}
use Rattle.cpo_elab.specs.Stages.{Stage}
use Rattle.cpo_text.specs.declared.tree.Statement.{Statement}
use Rattle.cpo_elab.specs.Judged.{defines_again, uses_unknown, uses_wrong, has_reversed, has_negative, misfits, has_twice, passes_limit, aims_again, has_no_hull, has_crowded, first_of, number_in}
use Rattle.cpo_elab.specs.code.Judging.{early_number, late_number}

found_there : (b : Bool) (t n : ℕ) (o p : Option ℕ) → (o ≡ Some n → p ≡ Some n) → if b then Some t else o ≡ Some n → if b then Some t else p ≡ Some n
found_there true t n o p rest h = h
found_there false t n o p rest h = rest h

found : (ts us : List (Bool × ℕ)) (n : ℕ) → first_of ts ≡ Some n → first_of (ts ++ us) ≡ Some n
found [] us n h = cc
found (t ∷ ts) us n h = found_there t.0 t.1 n (first_of ts) (first_of (ts ++ us)) (found ts us n) h

none_there : (b : Bool) (t : ℕ) (o p q : Option ℕ) → (o ≡ None → p ≡ q) → if b then Some t else o ≡ None → if b then Some t else p ≡ q
none_there true t o p q rest h = cc
none_there false t o p q rest h = rest h

none_found : (ts us : List (Bool × ℕ)) → first_of ts ≡ None → first_of (ts ++ us) ≡ first_of us
none_found [] us h = refl
none_found (t ∷ ts) us h = none_there t.0 t.1 (first_of ts) (first_of (ts ++ us)) (first_of us) (none_found ts us) h

abbrev early_tests : Stage → ℕ → Statement → List (Bool × ℕ)
early_tests st k s =
    (defines_again st s, 4) ∷ (uses_unknown st s, 5) ∷ (uses_wrong st s, 6) ∷ (has_reversed s, 7) ∷ (has_negative s, 8) ∷ (misfits st.model s, 9)
    ∷ (has_twice st.model s, 10) ∷ (passes_limit st k s, 11) ∷ (aims_again st.model s, 12) ∷ []

abbrev late_tests : Stage → Statement → List (Bool × ℕ)
late_tests st s = (has_no_hull st.model s, 13) ∷ (has_crowded s, 14) ∷ []

pub early_decides : (st : Stage) (k : ℕ) (s : Statement) (n : ℕ) → Some n ≡ early_number st k s → number_in st k s ≡ Some n
unfolding number_in
early_decides st k s n h = found (early_tests st k s) (late_tests st s) n (sym h)

pub late_decides : (st : Stage) (k : ℕ) (s : Statement) (o : Option ℕ) → early_number st k s ≡ None → o ≡ late_number st s → number_in st k s ≡ o
unfolding number_in
late_decides st k s o early late = none_found (early_tests st k s) (late_tests st s) early ∙ sym late
