-- The line of an interval, a matrix, a named sequence or a state function says the words of its statement.
use Rattle.std.proofs.Common.{ℕ, zero, suc, ℤ, pos, Bool, true, false, ◌&&◌, List, [], ◌∷◌, ◌++◌, map, length, take, drop, Option, Some, None, refl}
use Rattle.std.specs.Prelude.{IsTrue, codes, nat_le, nat_eq, ◌*◌, int_le, option_map, option_to_list}
use Rattle.std.specs.List.{list_all}
use Rattle.std.specs.Fmt.{decimal}
use Rattle.std.proofs.lemmas.List.{append-nil}
use Rattle.std.proofs.lemmas.Bool.{and_parts, and_from}
use Rattle.cpo_text.specs.Words.{Word, commas}
use Rattle.cpo_text.specs.Spelling.{int_words, ints_words, names_words, name_words, ivarg_words, types_items, is_formed}
use Rattle.sched_base.specs.declared.ids.Itv.{Itv}
use Rattle.sched_base.specs.declared.ids.Mat.{Mat}
use Rattle.sched_model.specs.declared.types.IntervalDef.{IntervalDef}
use Rattle.sched_model.specs.declared.types.MatrixDef.{MatrixDef}
use Rattle.sched_model.specs.declared.types.SequenceDef.{SequenceDef}
use Rattle.sched_model.specs.declared.types.StateDef.{StateDef}
use Rattle.sched_model.specs.Data.{Data}
use Rattle.sched_model.specs.Words.{passes_if_any}
use Rattle.sched_model.specs.Valid.{is_span_of_moments, is_amount, is_interval_def, is_matrix_def, is_sequence_def, is_state_def, is_itv, is_mat, are_distinct, are_parts}
use Rattle.sched_text.specs.Pieces.{listed, interval_names, matrix_name}
use Rattle.sched_text.specs.Canonical.{interval_text, optional_items, range_items, rows, matrix_text, types_text, list_text, named_sequence_text, state_items, state_text}
use Rattle.read_back.specs.Trees.{int_tree, range_tree, optional_args, interval_tree, cell_rows, matrix_tree, sequence_tree, state_tree}
use Rattle.cpo_text.specs.declared.tree.Definition.TheVariants.{IntervalVar}
use Rattle.cpo_text.specs.declared.tree.Statement.TheVariants.{Define}
use Rattle.cpo_text.specs.declared.tree.Ivarg.{Ivarg}
use Rattle.cpo_text.specs.declared.tree.Ivarg.TheVariants.{Start, End, Size}
use Rattle.read_back.specs.Says.{Says}
use Rattle.read_back.specs.Says.Chunk.{sign}
use Rattle.read_back.proofs.Joined.{a_name, a_number}
use Rattle.read_back.proofs.Numbers.{is_literal, span_literals, amount_literal, type_literal}
use Rattle.read_back.proofs.said.Joined.{across, comma}
use Rattle.read_back.proofs.said.Numbers.{a_range}
use Rattle.read_back.proofs.said.Rows.{Row, none, more, in_square, a_call, called, ints_row, names_row, a_given_list}
use Rattle.read_back.proofs.said.Lines.{Lines, no_line, line, defined}
use Rattle.read_back.proofs.Spelt.{is_told, AreTold, matrix_told, intervals_told}

-- intervals

abbrev interval_args : Bool → IntervalDef → List Ivarg
interval_args b d = optional_args b ++ Start (range_tree d.start_lo d.start_hi) ∷ End (range_tree d.end_lo d.end_hi) ∷ Size (range_tree d.size_lo d.size_hi) ∷ []

ranges_row : (d : IntervalDef) → IsTrue (is_interval_def d) → Row (range_items d) (map ivarg_words (interval_args false d))
ranges_row d is =
    let spans = and_parts (is_span_of_moments d.start_lo d.start_hi && is_span_of_moments d.end_lo d.end_hi && is_span_of_moments d.size_lo d.size_hi) (int_le (pos 0) d.size_lo) is in
    let sizes = and_parts (is_span_of_moments d.start_lo d.start_hi && is_span_of_moments d.end_lo d.end_hi) (is_span_of_moments d.size_lo d.size_hi) spans.0 in
    let ends = and_parts (is_span_of_moments d.start_lo d.start_hi) (is_span_of_moments d.end_lo d.end_hi) sizes.0 in
    let start = span_literals d.start_lo d.start_hi ends.0 in
    let end = span_literals d.end_lo d.end_hi ends.1 in
    let size = span_literals d.size_lo d.size_hi sizes.1 in
    more (a_range (codes "start") d.start_lo d.start_hi refl start.0 start.1)
    (more (a_range (codes "end") d.end_lo d.end_hi refl end.0 end.1)
    (more (a_range (codes "size") d.size_lo d.size_hi refl size.0 size.1) none))

interval_row : (b : Bool) (d : IntervalDef) → IsTrue (is_interval_def d) → Row (optional_items b ++ range_items d) (map ivarg_words (interval_args b d))
interval_row true d is = more (a_name (codes "optional") refl) (ranges_row d is)
interval_row false d is = ranges_row d is

interval_formed : (b : Bool) (d : IntervalDef) → IsTrue (is_formed (Define d.name (IntervalVar (interval_args b d))))
interval_formed true d = refl
interval_formed false d = refl

pub interval_line : (d : IntervalDef) → IsTrue (is_told d.name) → IsTrue (is_interval_def d) → Lines (interval_text d) (interval_tree d ∷ [])
interval_line d told is = line _ (interval_tree d) (defined d.name _ _ told (called (codes "intervalVar") refl (interval_row d.optional d is))) (interval_formed d.optional d)

-- matrices

all_front : {X : Type 0} (p : X → Bool) (n : ℕ) (xs : List X) → IsTrue (list_all p xs) → IsTrue (list_all p (take n xs))
all_front p zero xs all = refl
all_front p (suc n) [] all = refl
all_front p (suc n) (x ∷ xs) all = let parts = and_parts (p x) (list_all p xs) all in and_from (p x) _ parts.0 (all_front p n xs parts.1)

all_behind : {X : Type 0} (p : X → Bool) (n : ℕ) (xs : List X) → IsTrue (list_all p xs) → IsTrue (list_all p (drop n xs))
all_behind p zero xs all = all
all_behind p (suc n) [] all = refl
all_behind p (suc n) (x ∷ xs) all = all_behind p n xs (and_parts (p x) (list_all p xs) all).1

all_cells : (zs : List ℤ) → IsTrue (list_all is_amount zs) → IsTrue (list_all is_literal zs)
all_cells [] all = refl
all_cells (z ∷ zs) all = let parts = and_parts (is_amount z) (list_all is_amount zs) all in and_from (is_literal z) _ (amount_literal z parts.0) (all_cells zs parts.1)

rows_row : (k n : ℕ) (cells : List ℤ) → IsTrue (list_all is_literal cells) → Row (rows k n cells) (map ints_words (map (map int_tree) (cell_rows k n cells)))
rows_row zero n cells all = none
rows_row (suc k) n cells all = more (in_square (ints_row (take n cells) (all_front is_literal n cells all))) (rows_row k n (drop n cells) (all_behind is_literal n cells all))

pub matrix_line : (d : MatrixDef) → IsTrue (is_told d.name) → IsTrue (is_matrix_def d) → Lines (matrix_text d) (matrix_tree d ∷ [])
matrix_line d told is =
    let cells = (and_parts (nat_le 1 d.size && nat_le d.size 200 && nat_eq (length d.cells) (d.size * d.size)) (list_all is_amount d.cells) is).1 in
    line _ (matrix_tree d) (defined d.name _ _ told (called (codes "transitionMatrix") refl (more (in_square (rows_row d.size d.size d.cells (all_cells d.cells cells))) none))) refl

-- sequences with names

types_row : (ts : List ℕ) → IsTrue (list_all (λ t. nat_le t 1000000) ts) → Row (map decimal ts) (map int_words (map (λ t. int_tree (pos t)) ts))
types_row [] all = none
types_row (t ∷ ts) all =
    let parts = and_parts (nat_le t 1000000) (list_all (λ u. nat_le u 1000000) ts) all in
    more (a_number t (type_literal t parts.0)) (types_row ts parts.1)

-- the members, and their types where they are there
members_said : (members : List (List ℕ)) (types : Option (List ℕ)) → IsTrue (list_all is_told members) → IsTrue (passes_if_any (λ ts. list_all (λ t. nat_le t 1000000) ts) types)
    → Says (listed members ++ types_text types) (commas (names_words members ∷ types_items (option_map (map (λ t. int_tree (pos t))) types)))
members_said members None told is = rw (append-nil (listed members)) (in_square (names_row members told))
members_said members (Some ts) told is = across (sign (44 ∷ [])) comma (in_square (names_row members told)) (a_given_list (codes "types") refl (types_row ts is))

types_of : (count : ℕ) (types : Option (List ℕ)) → IsTrue (passes_if_any (λ ts. nat_eq (length ts) count && list_all (λ t. nat_le t 1000000) ts) types) → IsTrue (passes_if_any (λ ts. list_all (λ t. nat_le t 1000000) ts) types)
types_of count None is = refl
types_of count (Some ts) is = (and_parts (nat_eq (length ts) count) (list_all (λ t. nat_le t 1000000) ts) is).1

sequence_told : (m : Data) (o : Option (List ℕ)) (members : List Itv) (types : Option (List ℕ)) → AreTold m → IsTrue (passes_if_any is_told o) → IsTrue (is_sequence_def m (record { name = o; members = members; types = types }))
    → Lines (named_sequence_text m (record { name = o; members = members; types = types })) (option_to_list (option_map (sequence_tree m (record { name = o; members = members; types = types })) o))
sequence_told m None members types told named is = no_line
sequence_told m (Some n) members types told named is =
    let parts = and_parts (are_parts m members && nat_le (length members) 500) (passes_if_any (λ ts. nat_eq (length ts) (length members) && list_all (λ t. nat_le t 1000000) ts) types) is in
    let are = and_parts (list_all (is_itv m) members) (are_distinct members) (and_parts (are_parts m members) (nat_le (length members) 500) parts.0).0 in
    let d : SequenceDef = record { name = Some n; members = members; types = types } in
    let texts : List (List ℕ) = (list_text m members ++ types_text types) ∷ [] in
    let words : List (List Word) = names_words (interval_names m members) ∷ types_items (option_map (map (λ t. int_tree (pos t))) types) in
    line _ (sequence_tree m d n) (defined n _ _ named (a_call (codes "sequenceVar") texts words refl (members_said (interval_names m members) types (intervals_told m members told are.0) (types_of (length members) types parts.1)))) refl

pub sequence_line : (m : Data) (d : SequenceDef) → AreTold m → IsTrue (passes_if_any is_told d.name) → IsTrue (is_sequence_def m d) → Lines (named_sequence_text m d) (option_to_list (option_map (sequence_tree m d) d.name))
sequence_line m d told named is = sequence_told m d.name d.members d.types told named is

-- state functions

state_row : (m : Data) (o : Option Mat) → AreTold m → IsTrue (passes_if_any (is_mat m) o) → Row (state_items m o) (map name_words (option_to_list (option_map (matrix_name m) o)))
state_row m None told is = none
state_row m (Some x) told is = more (a_name (matrix_name m x) (matrix_told m x told is)) none

pub state_line : (m : Data) (d : StateDef) → AreTold m → IsTrue (is_told d.name) → IsTrue (is_state_def m d) → Lines (state_text m d) (state_tree m d ∷ [])
state_line m d told named is = line _ (state_tree m d) (defined d.name _ _ named (called (codes "stateFunction") refl (state_row m d.matrix told is))) refl
