-- The items of a list that have a name are a front part of it, where they stand before the others.
use Rattle.std.proofs.Common.{◌≡◌, Bool, true, false, not, List, [], ◌∷◌, ◌++◌, sym, ap, ◌∙◌}
use Rattle.std.specs.List.{filter}
use Rattle.std.proofs.lemmas.List.{append_assoc, append-nil}
use Rattle.std.proofs.lemmas.List.Elements.{filter-append}
use Rattle.base_laws.specs.laws.Kept.{filter_yes, filter_no}
use Rattle.cpo_elab.specs.NamedFirst.{parted}
use Rattle.read_back.proofs.judge.Limits.{Front}

pub filter_push : {X : Type 0} (p : X → Bool) (xs : List X) (x : X) → p x ≡ true → filter p (xs ++ x ∷ []) ≡ filter p xs ++ x ∷ []
filter_push p xs x holds = filter-append p xs (x ∷ []) ∙ ap (λ l. filter p xs ++ l) (filter_yes p x [] holds)

pub filter_skip : {X : Type 0} (p : X → Bool) (xs : List X) (x : X) → p x ≡ false → filter p (xs ++ x ∷ []) ≡ filter p xs
filter_skip p xs x fails = filter-append p xs (x ∷ []) ∙ ap (λ l. filter p xs ++ l) (filter_no p x [] fails) ∙ append-nil (filter p xs)

-- the named ones of a front part stand in front
pub named_front : {X : Type 0} (p : X → Bool) (xs front back : List X) → parted p xs ≡ xs → front ++ back ≡ xs → Front (filter p front) xs
named_front p xs front back parts is = record {
  rest = filter p back ++ filter (λ x. not (p x)) xs;
  is = sym (append_assoc (filter p front) (filter p back) (filter (λ x. not (p x)) xs))
      ∙ ap (λ l. l ++ filter (λ x. not (p x)) xs) (sym (filter-append p front back) ∙ ap (filter p) is) ∙ parts;
}
