-- What is spelled as a statement is read as that statement.
use Rattle.std.proofs.Common.{◌≡◌, ℕ, zero, suc, ◌<◌, ◌==◌, Bool, true, false, ◌||◌, not, List, [], ◌∷◌, ◌++◌, length, Option, Some, None, refl, sym, ap, subst, ◌∙◌, arith, append_assoc, length-append}
use Rattle.std.specs.Prelude.{codes}
use Rattle.std.specs.List.{list_all}
use Rattle.std.proofs.lemmas.Bool.{and_parts}
use Rattle.cpo_text.specs.Words.{Word, size_word, commas, round}
use Rattle.cpo_text.specs.Words.Word.{name, sign}
use Rattle.cpo_text.specs.Spelling.{int_words, minus_words, int_items, to_words, range_words, name_words, ivarg_words, ivarg_sort, are_distinct}
use Rattle.cpo_text.specs.code.Rules.{behind, size_at, signed_at, int_at, name_before, int_before, int_behind, range_at, given_at, ivarg_of, ivarg_at, has_sort, ivargs_more, ivargs_at, interval_at, between_at}
use Rattle.cpo_text.specs.declared.tree.Int.{Int}
use Rattle.cpo_text.specs.declared.tree.Range.{Range}
use Rattle.cpo_text.specs.declared.tree.Ivarg.{Ivarg}
use Rattle.cpo_text.specs.declared.tree.Ivarg.TheVariants.{Optional, Start, End, Size}
use Rattle.cpo_text.specs.declared.tree.Definition.TheVariants.{IntervalVar}
use Rattle.cpo_text.specs.declared.tree.Temporal.{Temporal}
use Rattle.cpo_text.specs.declared.tree.Constrained.TheVariants.{Between}
use Rattle.cpo_text.proofs.operands.Binds.{behind_again}
use Rattle.cpo_text.proofs.operands.Takes.{behind_words, ivarg_long}
use Rattle.cpo_text.proofs.stating.Spelt.{sorts, args_words}

size_again : (o : Option ℕ) (rest : List Word) → size_at (size_word o ∷ rest) ≡ Some (o, rest)
size_again None rest = refl
size_again (Some n) rest = refl

signed_again : (m : Bool) (o : Option ℕ) (rest : List Word) → signed_at m (size_word o ∷ rest) ≡ Some (record { minus = m; size = o }, rest)
unfolding signed_at
signed_again m o rest = rw (size_again o rest) refl

size_no_sign : (s : List ℕ) (o : Option ℕ) (rest : List Word) → behind s (size_word o ∷ rest) ≡ None
size_no_sign s None rest = refl
size_no_sign s (Some n) rest = refl

pub int_again : (i : Int) (rest : List Word) → int_at (int_words i ++ rest) ≡ Some (i, rest)
unfolding int_at
int_again i rest = signed i.minus refl
  where
    signed : (b : Bool) → i.minus ≡ b → int_at ((minus_words b ++ size_word i.size ∷ []) ++ rest) ≡ Some (i, rest)
    signed true is = rw (signed_again true i.size rest, sym is) refl
    signed false is = rw (size_no_sign (codes "-") i.size rest, signed_again false i.size rest, sym is) refl

pub name_before_again : (s : List ℕ) (a : List ℕ) (rest : List Word) → name_before s (name a ∷ sign s ∷ rest) ≡ Some (a, rest)
unfolding name_before
name_before_again s a rest = rw (behind_again s rest) refl

pub int_before_again : (s : List ℕ) (i : Int) (rest : List Word) → int_before s (int_words i ++ sign s ∷ rest) ≡ Some (i, rest)
unfolding int_before
int_before_again s i rest = rw (int_again i (sign s ∷ rest)) (rw (behind_again s rest) refl)

pub int_behind_again : (s : List ℕ) (o : Option Int) (rest : List Word) → behind s rest ≡ None → int_behind s (behind_words s o ++ rest) ≡ Some (o, rest)
unfolding int_behind
int_behind_again s None rest free = rw free refl
int_behind_again s (Some i) rest free = rw (behind_again s (int_words i ++ rest), int_again i rest) refl

to_again : (o : Option Int) (rest : List Word) → behind (codes "..") rest ≡ None → int_behind (codes "..") (to_words o ++ rest) ≡ Some (o, rest)
to_again None rest free = int_behind_again (codes "..") None rest free
to_again (Some i) rest free = int_behind_again (codes "..") (Some i) rest free

range_again : (x : Range) (rest : List Word) → behind (codes "..") rest ≡ None → range_at (range_words x ++ rest) ≡ Some (x, rest)
unfolding range_at
range_again x rest free = rw (append_assoc (int_words x.from) (to_words x.to) rest, int_again x.from (to_words x.to ++ rest), to_again x.to rest free) refl

given_again : (x : Range) (rest : List Word) → behind (codes "..") rest ≡ None → given_at (sign (codes "=") ∷ range_words x ++ rest) ≡ Some (x, rest)
unfolding given_at
given_again x rest free = range_again x rest free

pub ivarg_again : (a : Ivarg) (rest : List Word) → behind (codes "..") rest ≡ None → ivarg_at (ivarg_words a ++ rest) ≡ Some (a, rest)
unfolding ivarg_at ivarg_of
ivarg_again Optional rest free = refl
ivarg_again (Start x) rest free = rw (given_again x rest free) refl
ivarg_again (End x) rest free = rw (given_again x rest free) refl
ivarg_again (Size x) rest free = rw (given_again x rest free) refl

-- the list of arguments

not_false : (b : Bool) → not b ≡ true → b ≡ false
not_false true h = cc
not_false false h = refl

other_here : (n m : ℕ) (xs ys : List ℕ) → list_all (λ y. not (n == y)) (xs ++ m ∷ ys) ≡ true → (n == m) ≡ false
other_here n m [] ys all = not_false _ (and_parts _ _ all).0
other_here n m (x ∷ xs) ys all = other_here n m xs ys (and_parts _ _ all).1

sorts_append : (xs ys : List Ivarg) → sorts (xs ++ ys) ≡ sorts xs ++ sorts ys
sorts_append [] ys = refl
sorts_append (x ∷ xs) ys = ap (λ zs. ivarg_sort x ∷ zs) (sorts_append xs ys)

or_false : (a b : Bool) → a ≡ false → b ≡ false → (a || b) ≡ false
or_false a b e f = rw (e, f) refl

-- an argument among others of kinds of their own is of a new kind
new_sort : (seen : List Ivarg) (a : Ivarg) (more : List Ivarg) → are_distinct (sorts (seen ++ a ∷ more)) ≡ true → has_sort a seen ≡ false
new_sort [] a more all = refl
new_sort (b ∷ bs) a more all =
    let p = and_parts (list_all (λ y. not (ivarg_sort b == y)) (sorts (bs ++ a ∷ more))) (are_distinct (sorts (bs ++ a ∷ more))) all in
    let here = subst (λ ys. list_all (λ y. not (ivarg_sort b == y)) ys ≡ true) (sorts_append bs (a ∷ more)) p.0 in
    or_false _ _ (other_here (ivarg_sort b) (ivarg_sort a) (sorts bs) (sorts more) here) (new_sort bs a more p.1)

-- neither a comma nor `..` comes next
pub record IsClosed (rest : List Word) : Type 0 where
  pub comma : behind (codes ",") rest ≡ None
  pub range : behind (codes "..") rest ≡ None

args_again : (f : ℕ) (seen : List Ivarg) (a : Ivarg) (more : List Ivarg) (rest : List Word) → length more < f → are_distinct (sorts (seen ++ a ∷ more)) ≡ true → IsClosed rest
    → ivargs_more f seen (args_words (a ∷ more) ++ rest) ≡ Some (seen ++ a ∷ more, rest)
args_again zero seen a more rest enough distinct closed = absurd (omega arith)
args_again (suc f) seen a [] rest enough distinct closed = rw (ivarg_again a rest closed.range, new_sort seen a [] distinct, closed.comma) refl
args_again (suc f) seen a (b ∷ bs) rest enough distinct closed =
    let after : List Word = args_words (b ∷ bs) ++ rest in
    let next = append_assoc seen (a ∷ []) (b ∷ bs) in
    let more : ivargs_more f (seen ++ a ∷ []) after ≡ Some (seen ++ a ∷ b ∷ bs, rest) =
    args_again f (seen ++ a ∷ []) b bs rest (omega arith) (subst (λ xs. are_distinct (sorts xs) ≡ true) (sym next) distinct) closed ∙ ap (λ (xs : List Ivarg). Some (xs, rest)) next in
    let words : args_words (a ∷ b ∷ bs) ++ rest ≡ ivarg_words a ++ sign (codes ",") ∷ after = append_assoc (ivarg_words a) (sign (codes ",") ∷ args_words (b ∷ bs)) rest in
    rw (words, ivarg_again a (sign (codes ",") ∷ after) refl, new_sort seen a (b ∷ bs) distinct) more

args_long : (a : Ivarg) (more : List Ivarg) → length more < length (args_words (a ∷ more))
args_long a [] = ivarg_long a
args_long a (b ∷ bs) = omega (arith, args_long b bs, length-append (ivarg_words a) (sign (codes ",") ∷ args_words (b ∷ bs)))

ivargs_again : (a : Ivarg) (more : List Ivarg) (rest : List Word) → are_distinct (sorts (a ∷ more)) ≡ true → IsClosed rest → ivargs_at [] (args_words (a ∷ more) ++ rest) ≡ Some (a ∷ more, rest)
unfolding ivargs_at
ivargs_again a more rest distinct closed =
    args_again (length (args_words (a ∷ more) ++ rest)) [] a more rest (omega (arith, args_long a more, length-append (args_words (a ∷ more)) rest)) distinct closed

-- the first argument is no bracket
no_close : (a : Ivarg) (more : List Ivarg) (rest : List Word) → behind (codes ")") (args_words (a ∷ more) ++ rest) ≡ None
no_close Optional [] rest = refl
no_close (Start x) [] rest = refl
no_close (End x) [] rest = refl
no_close (Size x) [] rest = refl
no_close Optional (b ∷ bs) rest = refl
no_close (Start x) (b ∷ bs) rest = refl
no_close (End x) (b ∷ bs) rest = refl
no_close (Size x) (b ∷ bs) rest = refl

pub interval_again : (args : List Ivarg) (rest : List Word) → are_distinct (sorts args) ≡ true → interval_at (round (args_words args) ++ rest) ≡ Some (IntervalVar args, rest)
unfolding interval_at
interval_again [] rest distinct = refl
interval_again (a ∷ more) rest distinct =
    let close : List Word = sign (codes ")") ∷ rest in
    let words : (args_words (a ∷ more) ++ sign (codes ")") ∷ []) ++ rest ≡ args_words (a ∷ more) ++ close = append_assoc (args_words (a ∷ more)) (sign (codes ")") ∷ []) rest in
    rw (words, no_close a more close, ivargs_again a more close distinct (record { comma = refl; range = refl })) refl

pub between_again : (t : Temporal) (a b : List ℕ) (z : Option Int) (rest : List Word)
    → between_at t (round (commas (name_words a ∷ name_words b ∷ int_items z)) ++ rest) ≡ Some (Between t a b z, rest)
unfolding between_at
between_again t a b None rest = rw (int_behind_again (codes ",") None (sign (codes ")") ∷ rest) refl) refl
between_again t a b (Some i) rest =
    let words : (int_words i ++ sign (codes ")") ∷ []) ++ rest ≡ int_words i ++ sign (codes ")") ∷ rest = append_assoc (int_words i) (sign (codes ")") ∷ []) rest in
    rw (words, int_behind_again (codes ",") (Some i) (sign (codes ")") ∷ rest) refl) refl
