-- Each run whose words are those of a statement has that statement for its form.
use Rattle.std.proofs.Common.{◌≡◌, true, not, List, [], ◌∷◌, length, map, None, refl, sym, ap, subst, arith}
use Rattle.std.specs.Prelude.{pos, flat_map}
use Rattle.std.specs.List.{list_all}
use Rattle.std.proofs.lemmas.Bool.{and_parts, not-true}
use Rattle.cpo_text.specs.declared.tree.Statement.{Statement}
use Rattle.cpo_text.specs.declared.text.Form.{Form}
use Rattle.cpo_text.specs.declared.text.Form.TheVariants.{Tree as Parsed}
use Rattle.cpo_text.specs.declared.text.Reading.{Reading}
use Rattle.cpo_text.specs.Tokens.{Token}
use Rattle.cpo_text.specs.Runs.{words_of, offset, is_deep, has_many_nestings, early}
use Rattle.cpo_text.specs.Spelling.{spelling, is_formed}
use Rattle.cpo_text.specs.Reads.{HasForm, AreReadings}
use Rattle.read_back.specs.Laws.{is_shallow}
use Rattle.read_back.proofs.lex.Words.{AreKnown, parts_known}

none_early : (s : Statement) → is_shallow s ≡ true → AreKnown (spelling s) → early (spelling s) ≡ None
none_early s shallow known =
    let parts = and_parts (not (is_deep (pos 0) (spelling s))) (not (has_many_nestings (spelling s))) shallow in
    let flat = not-true (is_deep (pos 0) (spelling s)) parts.0 in
    let few = not-true (has_many_nestings (spelling s)) parts.1 in
    rw (known.left_out, flat, few) refl

statement_form : (s : Statement) → is_formed s ≡ true → is_shallow s ≡ true → AreKnown (spelling s) → HasForm (spelling s) (Parsed s)
statement_form s formed shallow known = (none_early s shallow known, record { formed = formed; spelt = refl }, known.large)

abbrev reading : List Token → Statement → Reading
reading r s = record { at = offset r; form = Parsed s }

abbrev pub readings : List (List Token) → List Statement → List Reading
readings [] ss = []
readings (r ∷ rs) [] = []
readings (r ∷ rs) (s ∷ ss) = reading r s ∷ readings rs ss

pub are_readings : (rs : List (List Token)) (ss : List Statement) → map words_of rs ≡ map spelling ss → list_all is_formed ss ≡ true → list_all is_shallow ss ≡ true → AreKnown (flat_map spelling ss)
    → AreReadings rs (readings rs ss)
are_readings [] ss same formed shallow known = tt
are_readings (r ∷ rs) [] same formed shallow known = cc
are_readings (r ∷ rs) (s ∷ ss) same formed shallow known =
    let f = and_parts (is_formed s) (list_all is_formed ss) formed in
    let d = and_parts (is_shallow s) (list_all is_shallow ss) shallow in
    let k = parts_known (spelling s) (flat_map spelling ss) known in
    let here : words_of r ≡ spelling s = cc in
    let behind : map words_of rs ≡ map spelling ss = cc in
    (refl, subst (λ ws. HasForm ws (Parsed s)) (sym here) (statement_form s f.0 d.0 k.0), are_readings rs ss behind f.1 d.1 k.1)

pub are_forms : (rs : List (List Token)) (ss : List Statement) → map words_of rs ≡ map spelling ss → map (λ x. x.form) (readings rs ss) ≡ map Parsed ss
are_forms [] [] same = refl
are_forms [] (s ∷ ss) same = cc
are_forms (r ∷ rs) [] same = cc
are_forms (r ∷ rs) (s ∷ ss) same = let behind : map words_of rs ≡ map spelling ss = cc in ap (λ (fs : List Form). Parsed s ∷ fs) (are_forms rs ss behind)

pub as_many : (rs : List (List Token)) (ss : List Statement) → map words_of rs ≡ map spelling ss → length rs ≡ length ss
as_many [] [] same = refl
as_many [] (s ∷ ss) same = cc
as_many (r ∷ rs) [] same = cc
as_many (r ∷ rs) (s ∷ ss) same = let behind : map words_of rs ≡ map spelling ss = cc in let more = as_many rs ss behind in omega arith
