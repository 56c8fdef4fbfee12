-- The numbers of a valid model are literals, and come back from their trees.
use Rattle.std.proofs.Common.{◌≡◌, ℕ, suc, ℤ, pos, negsuc, neg_ℤ, Bool, true, cond, Some, None, unwrap_or, nat_le, int_le, ap, arith}
use Rattle.std.proofs.lemmas.Bool.Decides.{nat_tests}
use Rattle.std.proofs.lemmas.Int.{ints}
use Rattle.base_laws.specs.laws.Truth.{three_true}
use Rattle.sched_model.specs.Valid.{is_moment, is_span_of_moments, is_small, is_amount}
use Rattle.sched_model.specs.laws.Small.{moment_small, amount_small}
use Rattle.cpo_text.specs.Tokens.{literal_limit}
use Rattle.cpo_elab.specs.Literals.{size_of, int_of}
use Rattle.read_back.specs.Trees.{int_tree}

-- no literal is larger
abbrev pub is_literal : ℤ → Bool
is_literal (pos n) = nat_le n literal_limit
is_literal (negsuc n) = nat_le (suc n) literal_limit

small_pos : (n : ℕ) → is_small (pos n) ≡ true → nat_le n literal_limit ≡ true
small_pos n h = grind (arith, ints, nat_tests)

small_neg : (n : ℕ) → is_small (negsuc n) ≡ true → nat_le (suc n) literal_limit ≡ true
small_neg n h = grind (arith, ints, nat_tests)

pub small_literal : (z : ℤ) → is_small z ≡ true → is_literal z ≡ true
small_literal (pos n) h = small_pos n h
small_literal (negsuc n) h = small_neg n h

pub moment_literal : (z : ℤ) → is_moment z ≡ true → is_literal z ≡ true
moment_literal z h = small_literal z (moment_small z h)

pub amount_literal : (z : ℤ) → is_amount z ≡ true → is_literal z ≡ true
amount_literal z h = small_literal z (amount_small z h)

pub type_amount : (n : ℕ) → nat_le n 1000000 ≡ true → is_amount (pos n) ≡ true
type_amount n h = grind (arith, nat_tests, ints)

pub type_literal : (n : ℕ) → nat_le n 1000000 ≡ true → is_literal (pos n) ≡ true
type_literal n h = amount_literal (pos n) (type_amount n h)

pub span : (lo hi : ℤ) → is_span_of_moments lo hi ≡ true → (is_moment lo ≡ true) × (is_moment hi ≡ true) × (int_le lo hi ≡ true)
span lo hi h = three_true (is_moment lo) (is_moment hi) (int_le lo hi) h

pub span_literals : (lo hi : ℤ) → is_span_of_moments lo hi ≡ true → (is_literal lo ≡ true) × (is_literal hi ≡ true)
span_literals lo hi h = let parts = span lo hi h in (moment_literal lo parts.0, moment_literal hi parts.1)

-- back from their trees

pub size_back : (n : ℕ) → nat_le n literal_limit ≡ true → size_of (Some n) ≡ n
size_back n h = ap (λ b. unwrap_or (cond b (Some n) None) 0) h

literal_back : (z : ℤ) → is_literal z ≡ true → int_of (int_tree z) ≡ z
literal_back (pos n) h = ap pos (size_back n h)
literal_back (negsuc n) h = ap (λ k. neg_ℤ (pos k)) (size_back (suc n) h)

pub int_back : (z : ℤ) → is_small z ≡ true → int_of (int_tree z) ≡ z
int_back z h = literal_back z (small_literal z h)
