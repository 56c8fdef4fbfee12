-- A name that has a number of a sort stands for a thing of that sort.
use Rattle.std.proofs.Common.{◌≡◌, ℕ, Bool, true, false, List, [], ◌∷◌, length, Some, nat_lt, refl, sym, ap, ◌∙◌}
use Rattle.std.specs.List.{list_any}
use Rattle.std.proofs.lemmas.Bool.{or_parts}
use Rattle.std.proofs.lemmas.List.{length-map}
use Rattle.base_laws.specs.laws.Places.{found_below}
use Rattle.sched_model.specs.Data.{Data}
use Rattle.cpo_text.specs.declared.cumul.Cpart.{Cpart}
use Rattle.cpo_text.specs.declared.cumul.Cpart.TheVariants as cpart
use Rattle.cpo_text.specs.declared.cumul.Signed.{Signed}
use Rattle.cpo_elab.specs.declared.names.Sort.{Sort}
use Rattle.cpo_elab.specs.declared.names.Sort.TheVariants.{Cumulated}
use Rattle.cpo_elab.specs.Named.{names_of, number_of, id_of, cum_of, NameTest, some_in_cpart}
use Rattle.cpo_elab.specs.Judged.{is_of_other_sort}
use Rattle.cpo_elab.specs.Elaborated.{unsigned_name, lone_name}

-- the number is below the count of names of the sort
pub below_names : (m : Data) (sort : Sort) (n : List ℕ) → is_of_other_sort m sort n ≡ false → nat_lt (id_of m sort n) (length (names_of m sort)) ≡ true
unfolding number_of
below_names m sort n there = found_below _ _ _ refl there

-- a cumulative function that a name stands for is there
pub right_cum : (m : Data) (n : List ℕ) → is_of_other_sort m Cumulated n ≡ false → nat_lt (cum_of m n).0 (length m.cumuls) ≡ true
right_cum m n there = sym (ap (nat_lt (cum_of m n).0) (length-map m.cumuls (λ d. d.name))) ∙ below_names m Cumulated n there

-- a test that no name of a part passes fails on the name that the part is
pub unsigned_right : (test : NameTest) (minus : Bool) (p : Cpart) (n : List ℕ) → unsigned_name minus p ≡ Some n → some_in_cpart test p ≡ false → test Cumulated n ≡ false
unsigned_right test true p n is right = cc is
unsigned_right test false (cpart.Named k) n is right = let same : k ≡ n = cc is in ap (test Cumulated) (sym same) ∙ right
unsigned_right test false (cpart.Pulse u v h) n is right = cc is
unsigned_right test false (cpart.PulseOf a h) n is right = cc is
unsigned_right test false (cpart.Step u h) n is right = cc is
unsigned_right test false (cpart.StepAtStart a h) n is right = cc is
unsigned_right test false (cpart.StepAtEnd a h) n is right = cc is

-- and on the name that an expression is
pub lone_right : (test : NameTest) (more : List Signed) (s : Signed) (n : List ℕ) → lone_name more s ≡ Some n → list_any (λ s. some_in_cpart test s.part) (s ∷ more) ≡ false → test Cumulated n ≡ false
lone_right test [] s n is right = unsigned_right test s.minus s.part n is (or_parts (some_in_cpart test s.part) _ right).0
lone_right test (t ∷ ts) s n is right = cc is
