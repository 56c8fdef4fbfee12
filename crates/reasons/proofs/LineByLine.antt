-- Lines and columns, byte by byte.
use Rattle.std.proofs.Common.{◌≡◌, ◌∙◌, ℕ, ◌+◌, ◌<◌, ◌≤◌, ◌==◌, Bool, true, false, length, drop, get_or, sym, arith}
use Rattle.std.specs.Prelude.{if◌then◌else◌}
use Rattle.std.proofs.lemmas.List.{at_drop_more, at_drop_all}
use Rattle.textline.specs.Lines.{Bytes}
use Rattle.reasons.specs.Explained.{next_line, line_from, next_column, column_from}

pub line_more : (bs : Bytes) (i b d n n' whole : ℕ) → i < length bs → b ≡ get_or bs i d → n' ≡ next_line n b → line_from n (drop i bs) ≡ whole → line_from n' (drop (i + 1) bs) ≡ whole
line_more bs i b d n n' whole within at is so_far = rw (is, at) (sym (at_drop_more (line_from n) bs i d within) ∙ so_far)

pub line_end : (bs : Bytes) (i n whole : ℕ) → length bs ≤ i → line_from n (drop i bs) ≡ whole → n ≡ whole
line_end bs i n whole past so_far = sym (at_drop_all (line_from n) bs i past) ∙ so_far

line_step : (t : Bool) (n most : ℕ) → n ≤ most + 1 → (if t then n + 1 else n) ≤ most + 1 + 1
line_step true n most few = omega (arith, few)
line_step false n most few = omega (arith, few)

pub line_few : (n n' b most : ℕ) → n' ≡ next_line n b → n ≤ most + 1 → n' ≤ most + 1 + 1
line_few n n' b most is few = rw is (line_step (b == 10) n most few)

pub column_more : (bs : Bytes) (i b d n n' whole : ℕ) → i < length bs → b ≡ get_or bs i d → n' ≡ next_column n b → column_from n (drop i bs) ≡ whole → column_from n' (drop (i + 1) bs) ≡ whole
column_more bs i b d n n' whole within at is so_far = rw (is, at) (sym (at_drop_more (column_from n) bs i d within) ∙ so_far)

pub column_end : (bs : Bytes) (i n whole : ℕ) → length bs ≤ i → column_from n (drop i bs) ≡ whole → n ≡ whole
column_end bs i n whole past so_far = sym (at_drop_all (column_from n) bs i past) ∙ so_far

column_step : (t : Bool) (n most : ℕ) → n ≤ most + 1 → (if t then 1 else n + 1) ≤ most + 1 + 1
column_step true n most few = omega (arith, few)
column_step false n most few = omega (arith, few)

pub column_few : (n n' b most : ℕ) → n' ≡ next_column n b → n ≤ most + 1 → n' ≤ most + 1 + 1
column_few n n' b most is few = rw is (column_step (b == 10) n most few)
