-- Statements that are judged alike: where one list of them is judged to be a model, so is the other.
use Rattle.std.proofs.Common.{◌≡◌, ℕ, ◌+◌, List, [], ◌∷◌, ◌++◌, map, Option, Some, None, refl, sym, ap, subst, ◌∙◌}
use Rattle.std.specs.List.{flat_map}
use Rattle.sched_model.specs.Data.{Data}
use Rattle.cpo_text.specs.declared.tree.Statement.{Statement}
use Rattle.cpo_text.specs.declared.text.Form.TheVariants.{Tree as Parsed}
use Rattle.cpo_text.specs.declared.text.Reading.{Reading}
use Rattle.cpo_elab.specs.Judged.{number_in}
use Rattle.cpo_elab.specs.Stages.{Stage, reached}
use Rattle.cpo_elab.specs.NamedFirst.{named_first}
use Rattle.cpo_elab.specs.Answers.{Answer, judged, refused_or, number_at, after_form}
use Rattle.cpo_elab.specs.Answers.Answer.{Accepted}

-- no statement deserves a number, and with them all the model is this one
abbrev Makes : Stage → ℕ → List Statement → Data → Type 0
Makes st k [] r = named_first st.model ≡ r
Makes st k (s ∷ ss) r = (number_in st k s ≡ None) × Makes (reached st s) (k + 1) ss r

unrefused : (o : Option ℕ) (k at : ℕ) (a : Answer) (r : Data) → refused_or o k at a ≡ Accepted r → o ≡ None
unrefused None k at a r is = refl
unrefused (Some n) k at a r is = cc

makes : (st : Stage) (k : ℕ) (ss : List Statement) (xs : List Reading) (r : Data) → map (λ x. x.form) xs ≡ map Parsed ss → judged st k xs ≡ Accepted r → Makes st k ss r
makes st k [] [] r are is = cc
makes st k [] (x ∷ xs) r are is = cc
makes st k (s ∷ ss) [] r are is = let no : ⊥ = cc in absurd no
makes st k (s ∷ ss) (x ∷ xs) r are is =
    let same : x.form ≡ Parsed s = cc are in
    let rest : map (λ x. x.form) xs ≡ map Parsed ss = cc are in
    let rests = judged (reached st s) (k + 1) xs in
    let here = ap (λ f. refused_or (number_at st k f) k x.at (judged (after_form st f) (k + 1) xs)) (sym same) ∙ is in
    let none = unrefused (number_in st k s) k x.at rests r here in
    (none, makes (reached st s) (k + 1) ss xs r rest (ap (λ o. refused_or o k x.at rests) (sym none) ∙ here))

accepted : (st : Stage) (k : ℕ) (ss : List Statement) (xs : List Reading) (r : Data) → map (λ x. x.form) xs ≡ map Parsed ss → Makes st k ss r → judged st k xs ≡ Accepted r
accepted st k [] [] r are is = ap Accepted is
accepted st k [] (x ∷ xs) r are is = cc
accepted st k (s ∷ ss) [] r are is = cc
accepted st k (s ∷ ss) (x ∷ xs) r are is =
    let same : x.form ≡ Parsed s = cc are in
    let rest : map (λ x. x.form) xs ≡ map Parsed ss = cc are in
    ap (λ f. refused_or (number_at st k f) k x.at (judged (after_form st f) (k + 1) xs)) same
    ∙ ap (λ o. refused_or o k x.at (judged (reached st s) (k + 1) xs)) is.0
    ∙ accepted (reached st s) (k + 1) ss xs r rest is.1

-- the same number is deserved, and the same stage reached, whatever stands before
pub record Alike (s t : Statement) : Type 0 where
  pub number : (st : Stage) (k : ℕ) → number_in st k s ≡ number_in st k t
  pub stage : (st : Stage) → reached st s ≡ reached st t

abbrev pub AllAlike : List Statement → List Statement → Type 0
AllAlike [] [] = Unit {0}
AllAlike [] (t ∷ ts) = ⊥
AllAlike (s ∷ ss) [] = ⊥
AllAlike (s ∷ ss) (t ∷ ts) = Alike s t × AllAlike ss ts

makes_alike : (st : Stage) (k : ℕ) (ss ts : List Statement) (r : Data) → AllAlike ss ts → Makes st k ts r → Makes st k ss r
makes_alike st k [] [] r alike is = is
makes_alike st k [] (t ∷ ts) r alike is = absurd alike
makes_alike st k (s ∷ ss) [] r alike is = absurd alike
makes_alike st k (s ∷ ss) (t ∷ ts) r alike is =
    let same = alike.0.stage st in
    (alike.0.number st k ∙ is.0, makes_alike (reached st s) (k + 1) ss ts r alike.1 (subst (λ n. Makes n (k + 1) ts r) (sym same) is.1))

pub judged_alike : (st : Stage) (k : ℕ) (ss ts : List Statement) (xs ys : List Reading) (r : Data) → AllAlike ss ts → map (λ x. x.form) xs ≡ map Parsed ss → map (λ y. y.form) ys ≡ map Parsed ts
    → judged st k ys ≡ Accepted r → judged st k xs ≡ Accepted r
judged_alike st k ss ts xs ys r alike are those is = accepted st k ss xs r are (makes_alike st k ss ts r alike (makes st k ts ys r those is))

pub alike_both : (ss ts us vs : List Statement) → AllAlike ss ts → AllAlike us vs → AllAlike (ss ++ us) (ts ++ vs)
alike_both [] [] us vs first second = second
alike_both [] (t ∷ ts) us vs first second = absurd first
alike_both (s ∷ ss) [] us vs first second = absurd first
alike_both (s ∷ ss) (t ∷ ts) us vs first second = (first.0, alike_both ss ts us vs first.1 second)

pub alike_each : {X : Type 0} (f g : X → Statement) → ((x : X) → Alike (f x) (g x)) → (xs : List X) → AllAlike (map f xs) (map g xs)
alike_each f g each [] = tt
alike_each f g each (x ∷ xs) = (each x, alike_each f g each xs)

pub alike_lists : {X : Type 0} (f g : X → List Statement) → ((x : X) → AllAlike (f x) (g x)) → (xs : List X) → AllAlike (flat_map f xs) (flat_map g xs)
alike_lists f g each [] = tt
alike_lists f g each (x ∷ xs) = alike_both (f x) (g x) (flat_map f xs) (flat_map g xs) (each x) (alike_lists f g each xs)
