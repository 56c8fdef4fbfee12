-- What is read as a call is spelled so.
use Rattle.std.proofs.Common.{◌≡◌, ℕ, ◌==◌, Bool, true, false, cond, List, [], ◌∷◌, ◌++◌, map, length, nat_le, Option, Some, None, refl, sym, ap, subst, ◌∙◌, append_assoc, append-nil}
use Rattle.std.specs.Prelude.{codes, bytes_eq, option_to_list}
use Rattle.std.proofs.lemmas.Bool.{eqb-true}
use Rattle.cpo_text.specs.Words.{Word, commas, square, round}
use Rattle.cpo_text.specs.Words.Word.{name, number, large, sign, quoted}
use Rattle.cpo_text.specs.Spelling.{int_words, int_items, name_words, names_words, ints_words, flag_words, given, types_items, step_words, definition_words, hierarchy_word, extreme_word, order_word, over_words, spaced_items, aligned_items, constraint_words, is_formed}
use Rattle.cpo_text.specs.code.Rules.{Found, bound, behind, if_behind, name_at, int_at, int_behind}
use Rattle.cpo_text.specs.code.Lists.{names_at, ints_at, rows_at, steps_at}
use Rattle.cpo_text.specs.code.Calls.{maybe_at, flag_at, types_given_at, types_at, sequence_at, matrix_at, state_function_at, step_function_at, parts_at, alternative_at, over_at, direct_at, spaced_at, spacing_at, no_overlap_at, pair_at, extreme_at, ordered_at, flags_at, aligned_at, always_equal_at, always_no_state_at}
use Rattle.cpo_text.specs.declared.tree.Int.{Int}
use Rattle.cpo_text.specs.declared.tree.StepPair.{StepPair}
use Rattle.cpo_text.specs.declared.tree.Definition.{Definition}
use Rattle.cpo_text.specs.declared.tree.Definition.TheVariants.{SequenceVar, TransitionMatrix, StateFunction, StepFunction}
use Rattle.cpo_text.specs.declared.tree.Hierarchy.{Hierarchy}
use Rattle.cpo_text.specs.declared.tree.Over.{Over}
use Rattle.cpo_text.specs.declared.tree.Over.TheVariants.{Named, Listed}
use Rattle.cpo_text.specs.declared.tree.Spaced.{Spaced}
use Rattle.cpo_text.specs.declared.tree.Extreme.{Extreme}
use Rattle.cpo_text.specs.declared.tree.Order.{Order}
use Rattle.cpo_text.specs.declared.tree.Constrained.{Constrained}
use Rattle.cpo_text.specs.declared.tree.Constrained.TheVariants as constrained
use Rattle.cpo_text.specs.declared.tree.Statement.TheVariants.{Define, Constrain}
use Rattle.cpo_text.proofs.operands.Binds.{both, bound_parts, need_parts, some_pair, bytes_same, behind_takes, name_takes}
use Rattle.cpo_text.proofs.operands.Takes.{int_takes, behind_words, int_behind_takes}
use Rattle.cpo_text.proofs.listing.Listed.{names_spells, ints_spells, rows_spells, steps_spells}

-- words in a row

then_words : (ws x mid y rest : List Word) → ws ≡ x ++ mid → mid ≡ y ++ rest → ws ≡ (x ++ y) ++ rest
then_words ws x mid y rest a b = a ∙ ap (λ xs. x ++ xs) b ∙ sym (append_assoc x y rest)

-- between round brackets
pub closed_words : (ws r inner words r2 rest : List Word) → ws ≡ sign (codes "(") ∷ r → r ≡ inner ++ words → words ≡ sign (codes ")") ∷ r2 → r2 ≡ rest → ws ≡ round inner ++ rest
closed_words ws r inner words r2 rest a b c d = a ∙ ap (λ xs. sign (codes "(") ∷ xs) (b ∙ ap (λ xs. inner ++ xs) (c ∙ ap (λ xs. sign (codes ")") ∷ xs) d) ∙ sym (append_assoc inner (sign (codes ")") ∷ []) rest))

-- behind a comma, or nothing

abbrev pub maybe_words : {X : Type 0} → (X → List Word) → Option X → List Word
maybe_words spell None = []
maybe_words spell (Some x) = sign (codes ",") ∷ spell x

abbrev Takes : {X : Type 0} → (List Word → Found X) → (X → List Word) → Type 0
Takes {X} read spell = (ws : List Word) (x : X) (rest : List Word) → read ws ≡ Some (x, rest) → ws ≡ spell x ++ rest

maybe_takes : {X : Type 0} (read : List Word → Found X) (spell : X → List Word) → Takes read spell → (ws : List Word) (o : Option X) (rest : List Word) → maybe_at read ws ≡ Some (o, rest) → ws ≡ maybe_words spell o ++ rest
maybe_takes {X} read spell takes ws o rest h = decided (behind (codes ",") ws) refl h
  where
    decided : (b : Option (List Word)) → behind (codes ",") ws ≡ b → if_behind b (λ r. bound (read r) (λ x r2. Some (Some x, r2))) (Some (None, ws)) ≡ Some (o, rest) → ws ≡ maybe_words spell o ++ rest
    decided None is h = let e = some_pair None o ws rest h in e.1 ∙ ap (λ x. maybe_words spell x ++ rest) e.0
    decided (Some r) is h =
        let p = bound_parts (read r) _ o rest h in
        let e = some_pair (Some p.tree) o p.words rest p.then in
        behind_takes (codes ",") ws r is ∙ ap (λ xs. sign (codes ",") ∷ xs) (takes r p.tree p.words p.first) ∙ both (λ x xs. maybe_words spell x ++ xs) e.0 e.1

-- flags

flag_takes : (ws : List Word) (b : Bool) (rest : List Word) → flag_at ws ≡ Some (b, rest) → ws ≡ flag_words b ++ rest
unfolding flag_at
flag_takes [] b rest h = cc
flag_takes (name n ∷ ws) b rest h = cc
flag_takes (large ∷ ws) b rest h = cc
flag_takes (sign s ∷ ws) b rest h = cc
flag_takes (quoted ∷ ws) b rest h = cc
flag_takes (number n ∷ ws) b rest h = decided (n == 0) refl (n == 1) refl h
  where
    decided : (s : Bool) → (n == 0) ≡ s → (t : Bool) → (n == 1) ≡ t → cond {A = Found Bool} s (Some (false, ws)) (cond t (Some (true, ws)) None) ≡ Some (b, rest) → number n ∷ ws ≡ flag_words b ++ rest
    decided true is t e h = let q = some_pair false b ws rest h in both (λ x xs. number x ∷ xs) (eqb-true n 0 is) q.1 ∙ ap (λ x. flag_words x ++ rest) q.0
    decided false is true e h = let q = some_pair true b ws rest h in both (λ x xs. number x ∷ xs) (eqb-true n 1 e) q.1 ∙ ap (λ x. flag_words x ++ rest) q.0
    decided false is false e h = cc

abbrev pub flags_words : Bool × Bool → List Word
flags_words p = flag_words p.0 ++ sign (codes ",") ∷ flag_words p.1

pub flags_takes : (ws : List Word) (p : Bool × Bool) (rest : List Word) → flags_at ws ≡ Some (p, rest) → ws ≡ flags_words p ++ rest
unfolding flags_at
flags_takes ws x rest h =
    let p = bound_parts (flag_at ws) _ x rest h in
    let q = need_parts (behind (codes ",") p.words) _ x rest p.then in
    let r = bound_parts (flag_at q.words) _ x rest q.then in
    let e = some_pair (p.tree, r.tree) x r.words rest r.then in
    flag_takes ws p.tree p.words p.first
    ∙ ap (λ xs. flag_words p.tree ++ xs) (behind_takes (codes ",") p.words q.words q.first ∙ ap (λ xs. sign (codes ",") ∷ xs) (flag_takes q.words r.tree r.words r.first))
    ∙ both (λ (y : Bool × Bool) xs. flags_words y ++ xs) e.0 e.1

aligned_takes : (ws : List Word) (o : Option (Bool × Bool)) (rest : List Word) → aligned_at ws ≡ Some (o, rest) → ws ≡ maybe_words flags_words o ++ rest
unfolding aligned_at
aligned_takes ws o rest h = maybe_takes flags_at flags_words flags_takes ws o rest h

-- definitions

abbrev pub types_words : List Int → List Word
types_words is = given (codes "types") (ints_words is)

types_given_takes : (ws : List Word) (is : List Int) (rest : List Word) → types_given_at ws ≡ Some (is, rest) → ws ≡ types_words is ++ rest
unfolding types_given_at
types_given_takes ws is rest h =
    let p = bound_parts (name_at ws) _ is rest h in
    by_word p.tree p.words (name_takes ws p.tree p.words p.first) (bytes_eq p.tree (codes "types")) refl p.then
  where
    by_word : (n : List ℕ) (r : List Word) → ws ≡ name n ∷ r → (t : Bool) → bytes_eq n (codes "types") ≡ t → cond t (if_behind (behind (codes "=") r) ints_at None) None ≡ Some (is, rest) → ws ≡ types_words is ++ rest
    by_word n r begun false same h = cc
    by_word n r begun true same h =
        let q = need_parts (behind (codes "=") r) ints_at is rest h in
        begun ∙ both (λ x xs. name x ∷ xs) (bytes_same n (codes "types") same) (behind_takes (codes "=") r q.words q.first ∙ ap (λ xs. sign (codes "=") ∷ xs) (ints_spells.takes q.words is rest q.then))

types_takes : (ws : List Word) (o : Option (List Int)) (rest : List Word) → types_at ws ≡ Some (o, rest) → ws ≡ maybe_words types_words o ++ rest
unfolding types_at
types_takes ws o rest h = maybe_takes types_given_at types_words types_given_takes ws o rest h

pub sequence_words : (ns : List (List ℕ)) (o : Option (List Int)) → commas (names_words ns ∷ types_items o) ≡ names_words ns ++ maybe_words types_words o
sequence_words ns None = sym (append-nil (names_words ns))
sequence_words ns (Some is) = refl

-- the words of the whole call are those of the tree
abbrev pub IsDefinition : List ℕ → List Word → Definition → List Word → Type 0
IsDefinition word ws d rest = ((n : List ℕ) → is_formed (Define n d) ≡ true) × (name word ∷ ws ≡ definition_words d ++ rest)

abbrev pub IsConstraint : List ℕ → List Word → Constrained → List Word → Type 0
IsConstraint word ws c rest = (is_formed (Constrain c) ≡ true) × (name word ∷ ws ≡ constraint_words c ++ rest)

pub sequence_takes : (ws : List Word) (d : Definition) (rest : List Word) → sequence_at ws ≡ Some (d, rest) → IsDefinition (codes "sequenceVar") ws d rest
unfolding sequence_at
sequence_takes ws d rest h =
    let p = need_parts (behind (codes "(") ws) _ d rest h in
    let n = bound_parts (names_at p.words) _ d rest p.then in
    let t = bound_parts (types_at n.words) _ d rest n.then in
    let r = need_parts (behind (codes ")") t.words) _ d rest t.then in
    let e = some_pair (SequenceVar n.tree t.tree) d r.words rest r.then in
    let inner = then_words p.words (names_words n.tree) n.words (maybe_words types_words t.tree) t.words (names_spells.takes p.words n.tree n.words n.first) (types_takes n.words t.tree t.words t.first) in
    let words : ws ≡ round (commas (names_words n.tree ∷ types_items t.tree)) ++ rest =
    closed_words ws p.words (commas (names_words n.tree ∷ types_items t.tree)) t.words r.words rest (behind_takes (codes "(") ws p.words p.first)
    (inner ∙ ap (λ xs. xs ++ t.words) (sym (sequence_words n.tree t.tree))) (behind_takes (codes ")") t.words r.words r.first) e.1 in
    subst (λ x. IsDefinition (codes "sequenceVar") ws x rest) e.0 (λ n. refl, ap (λ xs. name (codes "sequenceVar") ∷ xs) words)

pub matrix_takes : (ws : List Word) (d : Definition) (rest : List Word) → matrix_at ws ≡ Some (d, rest) → IsDefinition (codes "transitionMatrix") ws d rest
unfolding matrix_at
matrix_takes ws d rest h =
    let p = need_parts (behind (codes "(") ws) _ d rest h in
    let m = bound_parts (rows_at p.words) _ d rest p.then in
    let r = need_parts (behind (codes ")") m.words) _ d rest m.then in
    let e = some_pair (TransitionMatrix m.tree) d r.words rest r.then in
    let words : ws ≡ round (square (map ints_words m.tree)) ++ rest =
    closed_words ws p.words (square (map ints_words m.tree)) m.words r.words rest (behind_takes (codes "(") ws p.words p.first) (rows_spells.takes p.words m.tree m.words m.first) (behind_takes (codes ")") m.words r.words r.first) e.1 in
    subst (λ x. IsDefinition (codes "transitionMatrix") ws x rest) e.0 (λ n. refl, ap (λ xs. name (codes "transitionMatrix") ∷ xs) words)

pub state_function_takes : (ws : List Word) (d : Definition) (rest : List Word) → state_function_at ws ≡ Some (d, rest) → IsDefinition (codes "stateFunction") ws d rest
unfolding state_function_at
state_function_takes ws d rest h =
    let p = need_parts (behind (codes "(") ws) _ d rest h in
    by_close p.words (behind_takes (codes "(") ws p.words p.first) (behind (codes ")") p.words) refl p.then
  where
    by_close : (r : List Word) → ws ≡ sign (codes "(") ∷ r → (o : Option (List Word)) → behind (codes ")") r ≡ o
        → if_behind o (λ r2. Some (StateFunction None, r2)) (bound (name_at r) (λ m r2. if_behind (behind (codes ")") r2) (λ r3. Some (StateFunction (Some m), r3)) None)) ≡ Some (d, rest)
        → IsDefinition (codes "stateFunction") ws d rest
    by_close r begun (Some r2) is h =
        let e = some_pair (StateFunction None) d r2 rest h in
        let words : ws ≡ round [] ++ rest = closed_words ws r [] r r2 rest begun refl (behind_takes (codes ")") r r2 is) e.1 in
        subst (λ x. IsDefinition (codes "stateFunction") ws x rest) e.0 (λ n. refl, ap (λ xs. name (codes "stateFunction") ∷ xs) words)
    by_close r begun None is h =
        let m = bound_parts (name_at r) _ d rest h in
        let q = need_parts (behind (codes ")") m.words) _ d rest m.then in
        let e = some_pair (StateFunction (Some m.tree)) d q.words rest q.then in
        let words : ws ≡ round (name_words m.tree) ++ rest = closed_words ws r (name_words m.tree) m.words q.words rest begun (name_takes r m.tree m.words m.first) (behind_takes (codes ")") m.words q.words q.first) e.1 in
        subst (λ x. IsDefinition (codes "stateFunction") ws x rest) e.0 (λ n. refl, ap (λ xs. name (codes "stateFunction") ∷ xs) words)

pub step_function_takes : (ws : List Word) (d : Definition) (rest : List Word) → step_function_at ws ≡ Some (d, rest) → IsDefinition (codes "stepFunction") ws d rest
unfolding step_function_at
step_function_takes ws d rest h =
    let p = need_parts (behind (codes "(") ws) _ d rest h in
    let m = bound_parts (steps_at p.words) _ d rest p.then in
    by_count p.words m.tree m.words (behind_takes (codes "(") ws p.words p.first) (steps_spells.takes p.words m.tree m.words m.first) (nat_le 1 (length m.tree)) refl m.then
  where
    by_count : (r : List Word) (ps : List StepPair) (r2 : List Word) → ws ≡ sign (codes "(") ∷ r → r ≡ square (map step_words ps) ++ r2 → (t : Bool) → nat_le 1 (length ps) ≡ t
        → cond t (if_behind (behind (codes ")") r2) (λ r3. Some (StepFunction ps, r3)) None) None ≡ Some (d, rest) → IsDefinition (codes "stepFunction") ws d rest
    by_count r ps r2 begun pairs false some h = cc
    by_count r ps r2 begun pairs true some h =
        let q = need_parts (behind (codes ")") r2) _ d rest h in
        let e = some_pair (StepFunction ps) d q.words rest q.then in
        let words : ws ≡ round (square (map step_words ps)) ++ rest = closed_words ws r (square (map step_words ps)) r2 q.words rest begun pairs (behind_takes (codes ")") r2 q.words q.first) e.1 in
        subst (λ x. IsDefinition (codes "stepFunction") ws x rest) e.0 (λ n. some, ap (λ xs. name (codes "stepFunction") ∷ xs) words)

-- constraints

-- a name and a comma
name_comma : (ws : List Word) (n : List ℕ) (r r2 : List Word) → name_at ws ≡ Some (n, r) → behind (codes ",") r ≡ Some r2 → ws ≡ name n ∷ sign (codes ",") ∷ r2
name_comma ws n r r2 a b = name_takes ws n r a ∙ ap (λ xs. name n ∷ xs) (behind_takes (codes ",") r r2 b)

pub parts_takes : (t : Hierarchy) (ws : List Word) (c : Constrained) (rest : List Word) → parts_at t ws ≡ Some (c, rest) → IsConstraint (hierarchy_word t) ws c rest
unfolding parts_at
parts_takes t ws c rest h =
    let p = need_parts (behind (codes "(") ws) _ c rest h in
    let a = bound_parts (name_at p.words) _ c rest p.then in
    let q = need_parts (behind (codes ",") a.words) _ c rest a.then in
    let n = bound_parts (names_at q.words) _ c rest q.then in
    let r = need_parts (behind (codes ")") n.words) _ c rest n.then in
    let e = some_pair (constrained.Parts t a.tree n.tree) c r.words rest r.then in
    let inner = name_comma p.words a.tree a.words q.words a.first q.first ∙ ap (λ xs. name a.tree ∷ sign (codes ",") ∷ xs) (names_spells.takes q.words n.tree n.words n.first) in
    let words : ws ≡ round (commas (name_words a.tree ∷ names_words n.tree ∷ [])) ++ rest =
    closed_words ws p.words (commas (name_words a.tree ∷ names_words n.tree ∷ [])) n.words r.words rest (behind_takes (codes "(") ws p.words p.first) inner (behind_takes (codes ")") n.words r.words r.first) e.1 in
    subst (λ x. IsConstraint (hierarchy_word t) ws x rest) e.0 (refl, ap (λ xs. name (hierarchy_word t) ∷ xs) words)

pub counted_words : (ns : List (List ℕ)) (o : Option Int) → commas (names_words ns ∷ int_items o) ≡ names_words ns ++ behind_words (codes ",") o
counted_words ns None = sym (append-nil (names_words ns))
counted_words ns (Some n) = refl

pub alternative_takes : (ws : List Word) (c : Constrained) (rest : List Word) → alternative_at ws ≡ Some (c, rest) → IsConstraint (codes "alternative") ws c rest
unfolding alternative_at
alternative_takes ws c rest h =
    let p = need_parts (behind (codes "(") ws) _ c rest h in
    let a = bound_parts (name_at p.words) _ c rest p.then in
    let q = need_parts (behind (codes ",") a.words) _ c rest a.then in
    let n = bound_parts (names_at q.words) _ c rest q.then in
    let o = bound_parts (int_behind (codes ",") n.words) _ c rest n.then in
    let r = need_parts (behind (codes ")") o.words) _ c rest o.then in
    let e = some_pair (constrained.Alternative a.tree n.tree o.tree) c r.words rest r.then in
    let counted = then_words q.words (names_words n.tree) n.words (behind_words (codes ",") o.tree) o.words (names_spells.takes q.words n.tree n.words n.first) (int_behind_takes (codes ",") n.words o.tree o.words o.first)
    ∙ ap (λ xs. xs ++ o.words) (sym (counted_words n.tree o.tree)) in
    let inner = name_comma p.words a.tree a.words q.words a.first q.first ∙ ap (λ xs. name a.tree ∷ sign (codes ",") ∷ xs) counted in
    let words : ws ≡ round (commas (name_words a.tree ∷ names_words n.tree ∷ int_items o.tree)) ++ rest =
    closed_words ws p.words (commas (name_words a.tree ∷ names_words n.tree ∷ int_items o.tree)) o.words r.words rest (behind_takes (codes "(") ws p.words p.first) inner (behind_takes (codes ")") o.words r.words r.first) e.1 in
    subst (λ x. IsConstraint (codes "alternative") ws x rest) e.0 (refl, ap (λ xs. name (codes "alternative") ∷ xs) words)

over_takes : (ws : List Word) (p : Over) (rest : List Word) → over_at ws ≡ Some (p, rest) → ws ≡ over_words p ++ rest
unfolding over_at
over_takes ws p rest h = decided (behind (codes "[") ws) h
  where
    decided : (o : Option (List Word)) → if_behind o (λ r. bound (names_at ws) (λ ns r2. Some (Listed ns, r2))) (bound (name_at ws) (λ n r. Some (Named n, r))) ≡ Some (p, rest) → ws ≡ over_words p ++ rest
    decided None h =
        let q = bound_parts (name_at ws) _ p rest h in
        let e = some_pair (Named q.tree) p q.words rest q.then in
        name_takes ws q.tree q.words q.first ∙ both (λ x xs. over_words x ++ xs) e.0 e.1
    decided (Some r) h =
        let q = bound_parts (names_at ws) _ p rest h in
        let e = some_pair (Listed q.tree) p q.words rest q.then in
        names_spells.takes ws q.tree q.words q.first ∙ both (λ x xs. over_words x ++ xs) e.0 e.1

abbrev pub spaced_words : Spaced → List Word
spaced_words s = name s.matrix ∷ maybe_words flag_words s.direct

direct_takes : (ws : List Word) (o : Option Bool) (rest : List Word) → direct_at ws ≡ Some (o, rest) → ws ≡ maybe_words flag_words o ++ rest
unfolding direct_at
direct_takes ws o rest h = maybe_takes flag_at flag_words flag_takes ws o rest h

spaced_takes : (ws : List Word) (s : Spaced) (rest : List Word) → spaced_at ws ≡ Some (s, rest) → ws ≡ spaced_words s ++ rest
unfolding spaced_at
spaced_takes ws s rest h =
    let m = bound_parts (name_at ws) _ s rest h in
    let d = bound_parts (direct_at m.words) _ s rest m.then in
    let made : Spaced = record { matrix = m.tree; direct = d.tree } in
    let e = some_pair made s d.words rest d.then in
    name_takes ws m.tree m.words m.first ∙ ap (λ xs. name m.tree ∷ xs) (direct_takes m.words d.tree d.words d.first) ∙ both (λ x xs. spaced_words x ++ xs) e.0 e.1

spacing_takes : (ws : List Word) (o : Option Spaced) (rest : List Word) → spacing_at ws ≡ Some (o, rest) → ws ≡ maybe_words spaced_words o ++ rest
unfolding spacing_at
spacing_takes ws o rest h = maybe_takes spaced_at spaced_words spaced_takes ws o rest h

pub no_overlap_words : (p : Over) (o : Option Spaced) → commas (over_words p ∷ spaced_items o) ≡ over_words p ++ maybe_words spaced_words o
no_overlap_words p None = sym (append-nil (over_words p))
no_overlap_words p (Some s) = by_flag s.direct
  where
    by_flag : (d : Option Bool) → commas (over_words p ∷ name_words s.matrix ∷ map flag_words (option_to_list d)) ≡ over_words p ++ sign (codes ",") ∷ name s.matrix ∷ maybe_words flag_words d
    by_flag None = refl
    by_flag (Some b) = refl

pub no_overlap_takes : (ws : List Word) (c : Constrained) (rest : List Word) → no_overlap_at ws ≡ Some (c, rest) → IsConstraint (codes "noOverlap") ws c rest
unfolding no_overlap_at
no_overlap_takes ws c rest h =
    let p = need_parts (behind (codes "(") ws) _ c rest h in
    let n = bound_parts (over_at p.words) _ c rest p.then in
    let s = bound_parts (spacing_at n.words) _ c rest n.then in
    let r = need_parts (behind (codes ")") s.words) _ c rest s.then in
    let e = some_pair (constrained.NoOverlap n.tree s.tree) c r.words rest r.then in
    let inner = then_words p.words (over_words n.tree) n.words (maybe_words spaced_words s.tree) s.words (over_takes p.words n.tree n.words n.first) (spacing_takes n.words s.tree s.words s.first) in
    let words : ws ≡ round (commas (over_words n.tree ∷ spaced_items s.tree)) ++ rest =
    closed_words ws p.words (commas (over_words n.tree ∷ spaced_items s.tree)) s.words r.words rest (behind_takes (codes "(") ws p.words p.first)
    (inner ∙ ap (λ xs. xs ++ s.words) (sym (no_overlap_words n.tree s.tree))) (behind_takes (codes ")") s.words r.words r.first) e.1 in
    subst (λ x. IsConstraint (codes "noOverlap") ws x rest) e.0 (refl, ap (λ xs. name (codes "noOverlap") ∷ xs) words)

pub pair_takes : (ws : List Word) (x : List ℕ × List ℕ) (rest : List Word) → pair_at ws ≡ Some (x, rest) → ws ≡ round (commas (name_words x.0 ∷ name_words x.1 ∷ [])) ++ rest
unfolding pair_at
pair_takes ws x rest h =
    let p = need_parts (behind (codes "(") ws) _ x rest h in
    let a = bound_parts (name_at p.words) _ x rest p.then in
    let q = need_parts (behind (codes ",") a.words) _ x rest a.then in
    let b = bound_parts (name_at q.words) _ x rest q.then in
    let r = need_parts (behind (codes ")") b.words) _ x rest b.then in
    let made : List ℕ × List ℕ = (a.tree, b.tree) in
    let e = some_pair made x r.words rest r.then in
    let inner = name_comma p.words a.tree a.words q.words a.first q.first ∙ ap (λ xs. name a.tree ∷ sign (codes ",") ∷ xs) (name_takes q.words b.tree b.words b.first) in
    closed_words ws p.words (name a.tree ∷ sign (codes ",") ∷ name b.tree ∷ []) b.words r.words rest (behind_takes (codes "(") ws p.words p.first) inner (behind_takes (codes ")") b.words r.words r.first) e.1
    ∙ ap (λ (y : List ℕ × List ℕ). round (commas (name_words y.0 ∷ name_words y.1 ∷ [])) ++ rest) e.0

pub extreme_takes : (t : Extreme) (ws : List Word) (c : Constrained) (rest : List Word) → extreme_at t ws ≡ Some (c, rest) → IsConstraint (extreme_word t) ws c rest
unfolding extreme_at
extreme_takes t ws c rest h =
    let p = bound_parts (pair_at ws) _ c rest h in
    let e = some_pair (constrained.Extreme t p.tree.0 p.tree.1) c p.words rest p.then in
    subst (λ x. IsConstraint (extreme_word t) ws x rest) e.0
    (refl, ap (λ xs. name (extreme_word t) ∷ xs) (pair_takes ws p.tree p.words p.first ∙ ap (λ xs. round (commas (name_words p.tree.0 ∷ name_words p.tree.1 ∷ [])) ++ xs) e.1))

pub always_no_state_takes : (ws : List Word) (c : Constrained) (rest : List Word) → always_no_state_at ws ≡ Some (c, rest) → IsConstraint (codes "alwaysNoState") ws c rest
unfolding always_no_state_at
always_no_state_takes ws c rest h =
    let p = bound_parts (pair_at ws) _ c rest h in
    let e = some_pair (constrained.AlwaysNoState p.tree.0 p.tree.1) c p.words rest p.then in
    subst (λ x. IsConstraint (codes "alwaysNoState") ws x rest) e.0
    (refl, ap (λ xs. name (codes "alwaysNoState") ∷ xs) (pair_takes ws p.tree p.words p.first ∙ ap (λ xs. round (commas (name_words p.tree.0 ∷ name_words p.tree.1 ∷ [])) ++ xs) e.1))

pub ordered_takes : (t : Order) (ws : List Word) (c : Constrained) (rest : List Word) → ordered_at t ws ≡ Some (c, rest) → IsConstraint (order_word t) ws c rest
unfolding ordered_at
ordered_takes t ws c rest h =
    let p = need_parts (behind (codes "(") ws) _ c rest h in
    let g = bound_parts (name_at p.words) _ c rest p.then in
    let q = need_parts (behind (codes ",") g.words) _ c rest g.then in
    let a = bound_parts (name_at q.words) _ c rest q.then in
    let s = need_parts (behind (codes ",") a.words) _ c rest a.then in
    let b = bound_parts (name_at s.words) _ c rest s.then in
    let r = need_parts (behind (codes ")") b.words) _ c rest b.then in
    let e = some_pair (constrained.Ordered t g.tree a.tree b.tree) c r.words rest r.then in
    let inner = name_comma p.words g.tree g.words q.words g.first q.first
    ∙ ap (λ xs. name g.tree ∷ sign (codes ",") ∷ xs) (name_comma q.words a.tree a.words s.words a.first s.first ∙ ap (λ xs. name a.tree ∷ sign (codes ",") ∷ xs) (name_takes s.words b.tree b.words b.first)) in
    let words : ws ≡ round (commas (name_words g.tree ∷ name_words a.tree ∷ name_words b.tree ∷ [])) ++ rest =
    closed_words ws p.words (commas (name_words g.tree ∷ name_words a.tree ∷ name_words b.tree ∷ [])) b.words r.words rest (behind_takes (codes "(") ws p.words p.first) inner (behind_takes (codes ")") b.words r.words r.first) e.1 in
    subst (λ x. IsConstraint (order_word t) ws x rest) e.0 (refl, ap (λ xs. name (order_word t) ∷ xs) words)

pub state_words : (v : Int) (o : Option (Bool × Bool)) → commas (int_words v ∷ aligned_items o) ≡ int_words v ++ maybe_words flags_words o
state_words v None = sym (append-nil (int_words v))
state_words v (Some p) = refl

pub always_equal_takes : (ws : List Word) (c : Constrained) (rest : List Word) → always_equal_at ws ≡ Some (c, rest) → IsConstraint (codes "alwaysEqual") ws c rest
unfolding always_equal_at
always_equal_takes ws c rest h =
    let p = need_parts (behind (codes "(") ws) _ c rest h in
    let g = bound_parts (name_at p.words) _ c rest p.then in
    let q = need_parts (behind (codes ",") g.words) _ c rest g.then in
    let a = bound_parts (name_at q.words) _ c rest q.then in
    let s = need_parts (behind (codes ",") a.words) _ c rest a.then in
    let v = bound_parts (int_at s.words) _ c rest s.then in
    let o = bound_parts (aligned_at v.words) _ c rest v.then in
    let r = need_parts (behind (codes ")") o.words) _ c rest o.then in
    let e = some_pair (constrained.AlwaysEqual g.tree a.tree v.tree o.tree) c r.words rest r.then in
    let state = then_words s.words (int_words v.tree) v.words (maybe_words flags_words o.tree) o.words (int_takes s.words v.tree v.words v.first) (aligned_takes v.words o.tree o.words o.first)
    ∙ ap (λ xs. xs ++ o.words) (sym (state_words v.tree o.tree)) in
    let inner = name_comma p.words g.tree g.words q.words g.first q.first
    ∙ ap (λ xs. name g.tree ∷ sign (codes ",") ∷ xs) (name_comma q.words a.tree a.words s.words a.first s.first ∙ ap (λ xs. name a.tree ∷ sign (codes ",") ∷ xs) state) in
    let words : ws ≡ round (commas (name_words g.tree ∷ name_words a.tree ∷ int_words v.tree ∷ aligned_items o.tree)) ++ rest =
    closed_words ws p.words (name g.tree ∷ sign (codes ",") ∷ name a.tree ∷ sign (codes ",") ∷ commas (int_words v.tree ∷ aligned_items o.tree)) o.words r.words rest
    (behind_takes (codes "(") ws p.words p.first) inner (behind_takes (codes ")") o.words r.words r.first) e.1 in
    subst (λ x. IsConstraint (codes "alwaysEqual") ws x rest) e.0 (refl, ap (λ xs. name (codes "alwaysEqual") ∷ xs) words)
