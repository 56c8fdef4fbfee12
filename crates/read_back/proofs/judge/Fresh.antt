-- The next name of a model is not defined in the part of the model before it.
use Rattle.std.proofs.Common.{◌≡◌, ℕ, suc, true, false, List, [], ◌∷◌, ◌++◌, length, nat_lt, ap, subst, ◌∙◌, arith}
use Rattle.std.specs.List.{list_all}
use Rattle.std.proofs.lemmas.List.{append_assoc, append-nil}
use Rattle.std.proofs.lemmas.Bool.Decides.{nat_tests}
use Rattle.std.proofs.lemmas.Bool.{and_parts}
use Rattle.base_laws.specs.laws.Truth.{three_true}
use Rattle.sched_model.specs.Data.{Data}
use Rattle.sched_model.specs.Valid as valid
use Rattle.sched_model.specs.Valid.{IsValid, all_names, is_name}
use Rattle.cpo_elab.specs.Named.{is_defined}
use Rattle.read_back.proofs.Names.{AreApart, names_apart}
use Rattle.read_back.proofs.Truth.{all_from}
use Rattle.read_back.proofs.judge.Names.{none_before, not_defined}

pub record Next (n m : Data) (name : List ℕ) : Type 0 where
  pub later : List (List ℕ)
  pub are : all_names m ≡ all_names n ++ name ∷ later

pub next_fresh : (m n : Data) (name : List ℕ) → IsValid m → Next n m name → is_defined n name ≡ false
next_fresh m n name v next = not_defined n name (none_before (all_names n) next.later name (subst AreApart next.are (names_apart m v)))

short_name : (name : List ℕ) → is_name name ≡ true → nat_lt 64 (length name) ≡ false
short_name [] h = cc
short_name (c ∷ cs) h = fits (length cs) (three_true (valid.is_letter c) (list_all valid.is_name_byte cs) (nat_lt (length cs) 64) h).2 where
  fits : (n : ℕ) → nat_lt n 64 ≡ true → nat_lt 64 (suc n) ≡ false
  fits n h = grind (arith, nat_tests)

pub next_short : (m n : Data) (name : List ℕ) → IsValid m → Next n m name → nat_lt 64 (length name) ≡ false
next_short m n name v next =
    let names = (and_parts (list_all is_name (all_names m)) _ v.names).0 in
    short_name name (all_from is_name (all_names n) next.later name (subst (λ ns. list_all is_name ns ≡ true) next.are names))

-- lists of five parts

abbrev pub Names : Type 0
Names = List (List ℕ)

pub in_first : (n : List ℕ) (p q b c d e : Names) → (p ++ n ∷ q) ++ b ++ c ++ d ++ e ≡ (p ++ [] ++ [] ++ [] ++ []) ++ n ∷ (q ++ b ++ c ++ d ++ e)
in_first n p q b c d e =
    let last = append_assoc q (b ++ (c ++ d)) e ∙ ap (λ r. q ++ r) (append_assoc b (c ++ d) e ∙ ap (λ r. b ++ r) (append_assoc c d e)) in
    simp (append_assoc, append-nil) (ap (λ r. p ++ n ∷ r) last)

pub in_second : (n : List ℕ) (a p q c d e : Names) → a ++ (p ++ n ∷ q) ++ c ++ d ++ e ≡ (a ++ p ++ [] ++ [] ++ []) ++ n ∷ (q ++ c ++ d ++ e)
in_second n a p q c d e = simp (append_assoc, append-nil)

pub in_third : (n : List ℕ) (a b p q d e : Names) → a ++ b ++ (p ++ n ∷ q) ++ d ++ e ≡ (a ++ b ++ p ++ [] ++ []) ++ n ∷ (q ++ d ++ e)
in_third n a b p q d e = simp (append_assoc, append-nil)

pub in_fourth : (n : List ℕ) (a b c p q e : Names) → a ++ b ++ c ++ (p ++ n ∷ q) ++ e ≡ (a ++ b ++ c ++ p ++ []) ++ n ∷ (q ++ e)
in_fourth n a b c p q e = simp (append_assoc, append-nil)

pub in_fifth : (n : List ℕ) (a b c d p q : Names) → a ++ b ++ c ++ d ++ (p ++ n ∷ q) ≡ (a ++ b ++ c ++ d ++ p) ++ n ∷ q
in_fifth n a b c d p q = simp append_assoc
