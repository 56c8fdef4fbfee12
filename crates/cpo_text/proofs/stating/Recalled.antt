-- What is spelled as a call is read as that call, whatever follows.
use Rattle.std.proofs.Common.{◌≡◌, ℕ, Bool, true, false, List, [], ◌∷◌, ◌++◌, map, length, nat_le, Option, Some, None, refl, ap, ◌∙◌, append_assoc}
use Rattle.std.specs.Prelude.{codes, option_to_list}
use Rattle.cpo_text.specs.Words.{Word, commas, square, round}
use Rattle.cpo_text.specs.Words.Word.{name, sign}
use Rattle.cpo_text.specs.Spelling.{int_words, int_items, name_words, names_words, ints_words, flag_words, types_items, step_words, over_words, spaced_items, aligned_items}
use Rattle.cpo_text.specs.code.Rules.{Found, behind}
use Rattle.cpo_text.specs.code.Calls.{maybe_at, flag_at, types_given_at, types_at, sequence_at, matrix_at, state_function_at, step_function_at, parts_at, alternative_at, over_at, direct_at, spaced_at, spacing_at, no_overlap_at, pair_at, extreme_at, ordered_at, flags_at, aligned_at, always_equal_at, always_no_state_at}
use Rattle.cpo_text.specs.declared.tree.Int.{Int}
use Rattle.cpo_text.specs.declared.tree.StepPair.{StepPair}
use Rattle.cpo_text.specs.declared.tree.Definition.TheVariants.{SequenceVar, TransitionMatrix, StateFunction, StepFunction}
use Rattle.cpo_text.specs.declared.tree.Hierarchy.{Hierarchy}
use Rattle.cpo_text.specs.declared.tree.Over.{Over}
use Rattle.cpo_text.specs.declared.tree.Over.TheVariants.{Named, Listed}
use Rattle.cpo_text.specs.declared.tree.Spaced.{Spaced}
use Rattle.cpo_text.specs.declared.tree.Extreme.{Extreme}
use Rattle.cpo_text.specs.declared.tree.Order.{Order}
use Rattle.cpo_text.specs.declared.tree.Constrained.TheVariants as constrained
use Rattle.cpo_text.proofs.operands.Takes.{behind_words}
use Rattle.cpo_text.proofs.stating.Again.{int_again, int_behind_again}
use Rattle.cpo_text.proofs.listing.Listed.{names_spells, ints_spells, rows_spells, steps_spells}
use Rattle.cpo_text.proofs.stating.Called.{maybe_words, flags_words, types_words, spaced_words, sequence_words, counted_words, no_overlap_words, state_words}

-- the closing bracket and what follows
abbrev close : List Word → List Word
close rest = sign (codes ")") ∷ rest

opened : (inner rest : List Word) → round inner ++ rest ≡ sign (codes "(") ∷ inner ++ close rest
opened inner rest = ap (λ xs. sign (codes "(") ∷ xs) (append_assoc inner (sign (codes ")") ∷ []) rest)

-- words of two parts between the brackets
opened_two : (inner x y rest : List Word) → inner ≡ x ++ y → round inner ++ rest ≡ sign (codes "(") ∷ x ++ (y ++ close rest)
opened_two inner x y rest is = opened inner rest ∙ ap (λ xs. sign (codes "(") ∷ xs) (ap (λ xs. xs ++ close rest) is ∙ append_assoc x y (close rest))

maybe_again : {X : Type 0} (read : List Word → Found X) (spell : X → List Word) (rest : List Word) → ((x : X) → read (spell x ++ rest) ≡ Some (x, rest)) → behind (codes ",") rest ≡ None → (o : Option X)
    → maybe_at read (maybe_words spell o ++ rest) ≡ Some (o, rest)
maybe_again read spell rest again free None = rw free refl
maybe_again read spell rest again free (Some x) = rw (again x) refl

flag_again : (b : Bool) (rest : List Word) → flag_at (flag_words b ++ rest) ≡ Some (b, rest)
unfolding flag_at
flag_again true rest = refl
flag_again false rest = refl

flags_again : (p : Bool × Bool) (rest : List Word) → flags_at (flags_words p ++ rest) ≡ Some (p, rest)
unfolding flags_at
flags_again p rest = rw (flag_again p.0 (sign (codes ",") ∷ flag_words p.1 ++ rest)) (rw (flag_again p.1 rest) refl)

aligned_again : (o : Option (Bool × Bool)) (rest : List Word) → aligned_at (maybe_words flags_words o ++ close rest) ≡ Some (o, close rest)
unfolding aligned_at
aligned_again o rest = maybe_again flags_at flags_words (close rest) (λ p. flags_again p (close rest)) refl o

-- definitions

types_given_again : (is : List Int) (rest : List Word) → types_given_at (types_words is ++ rest) ≡ Some (is, rest)
unfolding types_given_at
types_given_again is rest = ints_spells.again is rest

types_again : (o : Option (List Int)) (rest : List Word) → types_at (maybe_words types_words o ++ close rest) ≡ Some (o, close rest)
unfolding types_at
types_again o rest = maybe_again types_given_at types_words (close rest) (λ is. types_given_again is (close rest)) refl o

pub sequence_again : (ns : List (List ℕ)) (o : Option (List Int)) (rest : List Word) → sequence_at (round (commas (names_words ns ∷ types_items o)) ++ rest) ≡ Some (SequenceVar ns o, rest)
unfolding sequence_at
sequence_again ns o rest =
    ap sequence_at (opened_two (commas (names_words ns ∷ types_items o)) (names_words ns) (maybe_words types_words o) rest (sequence_words ns o))
    ∙ rw (names_spells.again ns (maybe_words types_words o ++ close rest)) (rw (types_again o rest) refl)

pub matrix_again : (rows : List (List Int)) (rest : List Word) → matrix_at (round (commas (square (map ints_words rows) ∷ [])) ++ rest) ≡ Some (TransitionMatrix rows, rest)
unfolding matrix_at
matrix_again rows rest = ap matrix_at (opened (square (map ints_words rows)) rest) ∙ rw (rows_spells.again rows (close rest)) refl

pub state_function_again : (m : Option (List ℕ)) (rest : List Word) → state_function_at (round (commas (map name_words (option_to_list m))) ++ rest) ≡ Some (StateFunction m, rest)
unfolding state_function_at
state_function_again None rest = refl
state_function_again (Some m) rest = refl

pub step_function_again : (ps : List StepPair) (rest : List Word) → nat_le 1 (length ps) ≡ true → step_function_at (round (commas (square (map step_words ps) ∷ [])) ++ rest) ≡ Some (StepFunction ps, rest)
unfolding step_function_at
step_function_again ps rest some = ap step_function_at (opened (square (map step_words ps)) rest) ∙ rw (steps_spells.again ps (close rest)) (rw some refl)

-- constraints

pub parts_again : (t : Hierarchy) (a : List ℕ) (ns : List (List ℕ)) (rest : List Word) → parts_at t (round (commas (name_words a ∷ names_words ns ∷ [])) ++ rest) ≡ Some (constrained.Parts t a ns, rest)
unfolding parts_at
parts_again t a ns rest = ap (parts_at t) (opened (commas (name_words a ∷ names_words ns ∷ [])) rest) ∙ rw (names_spells.again ns (close rest)) refl

pub alternative_again : (a : List ℕ) (ns : List (List ℕ)) (o : Option Int) (rest : List Word)
    → alternative_at (round (commas (name_words a ∷ names_words ns ∷ int_items o)) ++ rest) ≡ Some (constrained.Alternative a ns o, rest)
unfolding alternative_at
alternative_again a ns o rest =
    let counted = counted_words ns o in
    let words : round (commas (name_words a ∷ names_words ns ∷ int_items o)) ++ rest ≡ sign (codes "(") ∷ name a ∷ sign (codes ",") ∷ names_words ns ++ (behind_words (codes ",") o ++ close rest) =
    opened (commas (name_words a ∷ names_words ns ∷ int_items o)) rest
    ∙ ap (λ xs. sign (codes "(") ∷ name a ∷ sign (codes ",") ∷ xs) (ap (λ xs. xs ++ close rest) counted ∙ append_assoc (names_words ns) (behind_words (codes ",") o) (close rest)) in
    ap alternative_at words ∙ rw (names_spells.again ns (behind_words (codes ",") o ++ close rest)) (rw (int_behind_again (codes ",") o (close rest) refl) refl)

over_again : (p : Over) (rest : List Word) → over_at (over_words p ++ rest) ≡ Some (p, rest)
unfolding over_at
over_again (Named n) rest = refl
over_again (Listed ns) rest = rw (names_spells.again ns rest) refl

spaced_again : (s : Spaced) (rest : List Word) → spaced_at (spaced_words s ++ close rest) ≡ Some (s, close rest)
unfolding spaced_at direct_at
spaced_again s rest = rw (maybe_again flag_at flag_words (close rest) (λ b. flag_again b (close rest)) refl s.direct) refl

spacing_again : (o : Option Spaced) (rest : List Word) → spacing_at (maybe_words spaced_words o ++ close rest) ≡ Some (o, close rest)
unfolding spacing_at
spacing_again o rest = maybe_again spaced_at spaced_words (close rest) (λ s. spaced_again s rest) refl o

pub no_overlap_again : (p : Over) (o : Option Spaced) (rest : List Word) → no_overlap_at (round (commas (over_words p ∷ spaced_items o)) ++ rest) ≡ Some (constrained.NoOverlap p o, rest)
unfolding no_overlap_at
no_overlap_again p o rest =
    ap no_overlap_at (opened_two (commas (over_words p ∷ spaced_items o)) (over_words p) (maybe_words spaced_words o) rest (no_overlap_words p o))
    ∙ rw (over_again p (maybe_words spaced_words o ++ close rest)) (rw (spacing_again o rest) refl)

pub pair_again : (a b : List ℕ) (rest : List Word) → pair_at (round (commas (name_words a ∷ name_words b ∷ [])) ++ rest) ≡ Some ((a, b), rest)
unfolding pair_at
pair_again a b rest = refl

pub extreme_again : (t : Extreme) (p a : List ℕ) (rest : List Word) → extreme_at t (round (commas (name_words p ∷ name_words a ∷ [])) ++ rest) ≡ Some (constrained.Extreme t p a, rest)
unfolding extreme_at
extreme_again t p a rest = rw (pair_again p a rest) refl

pub always_no_state_again : (g a : List ℕ) (rest : List Word) → always_no_state_at (round (commas (name_words g ∷ name_words a ∷ [])) ++ rest) ≡ Some (constrained.AlwaysNoState g a, rest)
unfolding always_no_state_at
always_no_state_again g a rest = rw (pair_again g a rest) refl

pub ordered_again : (t : Order) (p a b : List ℕ) (rest : List Word) → ordered_at t (round (commas (name_words p ∷ name_words a ∷ name_words b ∷ [])) ++ rest) ≡ Some (constrained.Ordered t p a b, rest)
unfolding ordered_at
ordered_again t p a b rest = refl

pub always_equal_again : (g a : List ℕ) (v : Int) (o : Option (Bool × Bool)) (rest : List Word)
    → always_equal_at (round (commas (name_words g ∷ name_words a ∷ int_words v ∷ aligned_items o)) ++ rest) ≡ Some (constrained.AlwaysEqual g a v o, rest)
unfolding always_equal_at
always_equal_again g a v o rest =
    let state = state_words v o in
    let words : round (commas (name_words g ∷ name_words a ∷ int_words v ∷ aligned_items o)) ++ rest
    ≡ sign (codes "(") ∷ name g ∷ sign (codes ",") ∷ name a ∷ sign (codes ",") ∷ int_words v ++ (maybe_words flags_words o ++ close rest) =
    opened (commas (name_words g ∷ name_words a ∷ int_words v ∷ aligned_items o)) rest
    ∙ ap (λ xs. sign (codes "(") ∷ name g ∷ sign (codes ",") ∷ name a ∷ sign (codes ",") ∷ xs) (ap (λ xs. xs ++ close rest) state ∙ append_assoc (int_words v) (maybe_words flags_words o) (close rest)) in
    ap always_equal_at words ∙ rw (int_again v (maybe_words flags_words o ++ close rest)) (rw (aligned_again o rest) refl)
