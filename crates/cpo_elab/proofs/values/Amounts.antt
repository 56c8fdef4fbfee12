-- Numbers, pairs and amounts that pass the tests lie within the bounds.
use Rattle.std.proofs.Common.{◌≡◌, ◌^◌, ◌≤◌, ℕ, suc, ◌+◌, ◌*◌, ℤ, pos, neg_ℤ, Bool, true, false, not, if◌then◌else◌, List, [], ◌∷◌, map, flat_map, length, Option, Some, None, unwrap_or, nat_le, nat_eq, int_le, int_lt, refl, ◌∙◌, arith}
use Rattle.std.specs.List.{list_all}
use Rattle.std.proofs.lemmas.Bool.Decides.{nat_tests}
use Rattle.std.proofs.lemmas.Int.{ints}
use Rattle.std.proofs.lemmas.List.{length-append, length-map}
use Rattle.std.proofs.lemmas.Bool.{and_parts, and_from, or_parts}
use Rattle.base_laws.specs.laws.Items.{all_append}
use Rattle.base_laws.specs.laws.Truth.{all_three}
use Rattle.sched_model.specs.Valid.{is_moment, is_span_of_moments, is_small, is_amount}
use Rattle.cpo_text.specs.Tokens.{literal_limit}
use Rattle.cpo_text.specs.declared.tree.Int.{Int}
use Rattle.cpo_elab.specs.Literals.{size_of, int_of, int_or_zero}
use Rattle.cpo_elab.specs.Elaborated.{types_in}
use Rattle.cpo_elab.specs.Held.{some_int, some_in_rows}
use Rattle.cpo_elab.specs.Judged.{is_outside, is_reversed, is_negative, is_large}
use Rattle.cpo_elab.proofs.judging.Truth.{not_true}

size_by : (b : Bool) (n : ℕ) → nat_le n literal_limit ≡ b → unwrap_or (if b then Some n else None) 0 ≤ 2 ^ 62
size_by true n h = grind (arith, nat_tests)
size_by false n h = omega arith

size_small : (o : Option ℕ) → size_of o ≤ 2 ^ 62
size_small None = omega arith
size_small (Some n) = size_by (nat_le n literal_limit) n refl

signed_small : (minus : Bool) (n : ℕ) → n ≤ 2 ^ 62 → is_small (if minus then neg_ℤ (pos n) else pos n) ≡ true
signed_small true n h = grind (arith, ints)
signed_small false n h = grind (arith, ints)

pub int_small : (i : Int) → is_small (int_of i) ≡ true
int_small i = signed_small i.minus (size_of i.size) (size_small i.size)

pub delay_small : (o : Option Int) → is_small (int_or_zero o) ≡ true
delay_small None = refl
delay_small (Some i) = int_small i

pub literal_small : (o : Option ℕ) → is_small (pos (size_of o)) ≡ true
literal_small o = signed_small false (size_of o) (size_small o)

pub ordered : (lo hi : ℤ) → int_lt hi lo ≡ false → int_le lo hi ≡ true
ordered lo hi h = grind (arith, ints)

pub spans : (lo hi : ℤ) → is_outside (lo, hi) ≡ false → is_reversed (lo, hi) ≡ false → is_span_of_moments lo hi ≡ true
spans lo hi inside turned =
    let parts = or_parts (not (is_moment lo)) (not (is_moment hi)) inside in
    all_three (is_moment lo) (is_moment hi) _ (not_true _ parts.0) (not_true _ parts.1) (ordered lo hi turned)

pub moment : (t : ℤ) → is_outside (t, t) ≡ false → is_moment t ≡ true
moment t inside = not_true (is_moment t) (or_parts (not (is_moment t)) (not (is_moment t)) inside).0

pub amount : (z : ℤ) → is_negative z ≡ false → is_large z ≡ false → is_amount z ≡ true
amount z sign size = and_from (int_le (pos 0) z) (int_le z (pos 1000000)) (ordered (pos 0) z sign) (ordered z (pos 1000000) size)

signed_type : (minus : Bool) (n : ℕ) → is_negative (if minus then neg_ℤ (pos n) else pos n) ≡ false → is_large (if minus then neg_ℤ (pos n) else pos n) ≡ false → nat_le n 1000000 ≡ true
signed_type true n sign size = grind (arith, ints, nat_tests)
signed_type false n sign size = grind (arith, ints, nat_tests)

pub types_small : (is : List Int) → some_int is_negative is ≡ false → some_int is_large is ≡ false → list_all (λ t. nat_le t 1000000) (types_in is) ≡ true
types_small [] signs sizes = refl
types_small (i ∷ is) signs sizes =
    let sign = or_parts (is_negative (int_of i)) _ signs in
    let size = or_parts (is_large (int_of i)) _ sizes in
    and_from (nat_le (size_of i.size) 1000000) _ (signed_type i.minus (size_of i.size) sign.0 size.0) (types_small is sign.1 size.1)

amounts : (is : List Int) → some_int is_negative is ≡ false → some_int is_large is ≡ false → list_all is_amount (map int_of is) ≡ true
amounts [] signs sizes = refl
amounts (i ∷ is) signs sizes =
    let sign = or_parts (is_negative (int_of i)) _ signs in
    let size = or_parts (is_large (int_of i)) _ sizes in
    and_from (is_amount (int_of i)) _ (amount (int_of i) sign.0 size.0) (amounts is sign.1 size.1)

-- the cells of a matrix

pub cells_small : (rows : List (List Int)) → some_in_rows is_negative rows ≡ false → some_in_rows is_large rows ≡ false → list_all is_amount (flat_map (map int_of) rows) ≡ true
cells_small [] signs sizes = refl
cells_small (row ∷ rows) signs sizes =
    let sign = or_parts (some_int is_negative row) _ signs in
    let size = or_parts (some_int is_large row) _ sizes in
    all_append is_amount (map int_of row) (flat_map (map int_of) rows) (amounts row sign.0 size.0) (cells_small rows sign.1 size.1)

one_row_more : (k n j : ℕ) → n + k * n ≡ suc k * n
one_row_more k n j = omega arith

same_length : (j n : ℕ) → nat_eq j n ≡ true → j ≡ n
same_length j n h = grind (arith, nat_tests)

pub cell_number : (n : ℕ) (rows : List (List Int)) → list_all (λ row. nat_eq (length row) n) rows ≡ true → length (flat_map (map int_of) rows) ≡ length rows * n
cell_number n [] all = omega arith
cell_number n (row ∷ rows) all =
    let parts = and_parts (nat_eq (length row) n) _ all in
    length-append (map int_of row) (flat_map (map int_of) rows)
    ∙ (λ i. (length-map row int_of ∙ same_length (length row) n parts.0) i + cell_number n rows parts.1 i)
    ∙ one_row_more (length rows) n 0
