-- The steps of changes, one after another, and the profiles of functions.
use Rattle.std.proofs.Common.{◌≡◌, ◌∙◌, ℕ, zero, suc, ◌+◌, ◌<◌, ◌≤◌, ℤ, ◌+ℤ◌, Bool, List, [], ◌∷◌, ◌++◌, length, drop, take, get_or, sym, ap, subst, append_assoc, append-nil, add-one, arith}
use Rattle.std.proofs.lemmas.List.{at_drop_more, at_drop_all}
use Rattle.sched_model.specs.declared.types.Assignment.{Assignment}
use Rattle.sched_model.specs.declared.types.CumulDef.{CumulDef}
use Rattle.sched_model.specs.declared.changes.Change.{Change}
use Rattle.sched_model.specs.Changes.{rise}
use Rattle.svg_page.specs.declared.profiles.Step.{Step}
use Rattle.svg_page.specs.Profiles.{AreProfiles, IsProfile, goes_on, step_if, steps}

pub step_more : (cs : List Change) (i : ℕ) (c d : Change) (z y : ℤ) (b : Bool) (v w whole : List Step) → i < length cs → c ≡ get_or cs i d
    → v ++ steps z (drop i cs) ≡ whole → y ≡ z +ℤ rise c → b ≡ goes_on c.t (drop (i + 1) cs) → w ≡ v ++ step_if b c.t y → w ++ steps y (drop (i + 1) cs) ≡ whole
step_more cs i c d z y b v w whole within is so_far up more put =
    ap (λ t. t ++ steps y (drop (i + 1) cs)) put
    ∙ append_assoc v (step_if b c.t y) (steps y (drop (i + 1) cs))
    ∙ ap (λ x. v ++ (step_if x c.t y ++ steps y (drop (i + 1) cs))) more
    ∙ ap (λ x. v ++ (step_if (goes_on c.t (drop (i + 1) cs)) c.t x ++ steps x (drop (i + 1) cs))) up
    ∙ ap (λ x. v ++ steps z (x ∷ drop (i + 1) cs)) is
    ∙ ap (λ t. v ++ t) (sym (at_drop_more (steps z) cs i d within))
    ∙ so_far

pub steps_end : (cs : List Change) (i : ℕ) (z : ℤ) (v whole : List Step) → length cs ≤ i → v ++ steps z (drop i cs) ≡ whole → v ≡ whole
steps_end cs i z v whole past so_far = sym (append-nil v) ∙ ap (λ t. v ++ t) (sym (at_drop_all (steps z) cs i past)) ∙ so_far

more_profiles : (a : Assignment) (ds : List CumulDef) (i : ℕ) (d e : CumulDef) (ps : List (List Step)) (p : List Step) → i < length ds → d ≡ get_or ds i e
    → AreProfiles a (take i ds) ps → IsProfile a d.parts p → AreProfiles a (take (suc i) ds) (ps ++ p ∷ [])
more_profiles a [] i d e ps p within is are one = absurd (omega arith)
more_profiles a (x ∷ xs) zero d e [] p within is are one = (subst (λ y. IsProfile a y.parts p) is one, tt)
more_profiles a (x ∷ xs) zero d e (q ∷ qs) p within is are one = absurd are
more_profiles a (x ∷ xs) (suc i) d e [] p within is are one = absurd are
more_profiles a (x ∷ xs) (suc i) d e (q ∷ qs) p within is are one = (are.0, more_profiles a xs i d e qs p (omega arith) is are.1 one)

pub profile_more : (a : Assignment) (ds : List CumulDef) (i : ℕ) (d e : CumulDef) (ps qs : List (List Step)) (p : List Step) → i < length ds → d ≡ get_or ds i e
    → AreProfiles a (take i ds) ps → IsProfile a d.parts p → qs ≡ ps ++ p ∷ [] → AreProfiles a (take (i + 1) ds) qs
profile_more a ds i d e ps qs p within is are one put =
    subst (λ n. AreProfiles a (take n ds) qs) (sym (add-one i)) (subst (AreProfiles a (take (suc i) ds)) (sym put) (more_profiles a ds i d e ps p within is are one))
