-- The text of a sequence or of a function in a constraint says the words of its tree.
use Rattle.std.proofs.Common.{ℕ, zero, suc, ◌<◌, Bool, true, ◌&&◌, List, [], ◌∷◌, length, Option, Some, None, refl, arith}
use Rattle.std.specs.Prelude.{IsTrue, nat_lt, slice_get, option_map, option_and_then, unwrap_or, is_some}
use Rattle.std.specs.List.{list_all}
use Rattle.std.proofs.lemmas.Bool.{ltb-true, and_parts, and_from}
use Rattle.cpo_text.specs.Words.{Word}
use Rattle.cpo_text.specs.Cumulative.{cumul_words}
use Rattle.cpo_text.specs.Spelling.{name_words, over_words}
use Rattle.cpo_text.specs.declared.tree.Over.TheVariants.{Named}
use Rattle.sched_base.specs.declared.ids.Itv.{Itv}
use Rattle.sched_base.specs.declared.ids.Seq.{Seq}
use Rattle.sched_base.specs.declared.ids.Cum.{Cum}
use Rattle.sched_model.specs.declared.types.SequenceDef.{SequenceDef}
use Rattle.sched_model.specs.Data.{Data}
use Rattle.sched_model.specs.Words.{passes, passes_if_any}
use Rattle.sched_model.specs.Valid.{is_itv, is_seq, is_sequence_def, IsValid}
use Rattle.cpo_elab.specs.NamedFirst.{is_named_sequence}
use Rattle.sched_text.specs.Pieces.{interval_names}
use Rattle.sched_text.specs.Canonical.{function_text, cumul_text, use_text, over_text}
use Rattle.read_back.specs.Trees.{by_name, function_tree, named_or_parts, named_or_listed, over_tree, sequence_name}
use Rattle.read_back.specs.Written.{IsWritten, is_named_at}
use Rattle.read_back.specs.Says.{Says}
use Rattle.read_back.proofs.Joined.{a_name}
use Rattle.read_back.proofs.said.Rows.{in_square, names_row}
use Rattle.read_back.proofs.Spelt.{is_told, AreTold, intervals_told}
use Rattle.read_back.proofs.said.Functions.{is_function, function_use}
use Rattle.read_back.proofs.Members.{listing}

-- what is known of the model
pub record Known (m : Data) : Type 0 where
  pub valid : IsValid m
  pub written : IsWritten m
  pub told : AreTold m
  pub functions : IsTrue (list_all (is_function m) m.cumuls)

-- a thing of a list by its place
said_at : {X Y : Type 0} (test : X → Bool) (text : X → List ℕ) (tree : X → Y) (words : Y → List Word) (other : Y) → ((x : X) → IsTrue (test x) → Says (text x) (words (tree x)))
    → (xs : List X) (i : ℕ) → i < length xs → IsTrue (list_all test xs) → Says (unwrap_or (option_map text (slice_get xs i)) []) (words (unwrap_or (option_map tree (slice_get xs i)) other))
said_at test text tree words other each [] i within all = absurd (omega arith)
said_at test text tree words other each (x ∷ xs) zero within all = each x (and_parts (test x) (list_all test xs) all).0
said_at test text tree words other each (x ∷ xs) (suc i) within all = said_at test text tree words other each xs i (omega arith) (and_parts (test x) (list_all test xs) all).1

-- sequences in constraints

abbrev is_usable : Data → SequenceDef → Bool
is_usable m d = passes_if_any is_told d.name && list_all (is_itv m) d.members

use_said : (m : Data) (o : Option (List ℕ)) (members : List Itv) (types : Option (List ℕ)) → AreTold m → IsTrue (is_usable m (record { name = o; members = members; types = types }))
    → Says (use_text m (record { name = o; members = members; types = types })) (over_words (named_or_listed m (record { name = o; members = members; types = types })))
use_said m None members types told is = in_square (names_row (interval_names m members) (intervals_told m members told (and_parts true (list_all (is_itv m) members) is).1))
use_said m (Some n) members types told is = a_name n (and_parts (is_told n) (list_all (is_itv m) members) is).0

usable : (m : Data) (ds : List SequenceDef) → IsTrue (list_all (λ d. passes_if_any is_told d.name) ds) → IsTrue (list_all (is_sequence_def m) ds) → IsTrue (list_all (is_usable m) ds)
usable m [] named are = refl
usable m (d ∷ ds) named are =
    let first = and_parts (passes_if_any is_told d.name) (list_all (λ e. passes_if_any is_told e.name) ds) named in
    let second = and_parts (is_sequence_def m d) (list_all (is_sequence_def m) ds) are in
    and_from (is_usable m d) _ (and_from (passes_if_any is_told d.name) _ first.0 (listing m d second.0).there) (usable m ds first.1 second.1)

pub over_said : (m : Data) (p : Seq) → Known m → IsTrue (is_seq m p) → Says (over_text m p) (over_words (over_tree m p))
over_said m p known is =
    said_at (is_usable m) (use_text m) (named_or_listed m) over_words (Named []) (λ d here. use_said m d.name d.members d.types known.told here)
    m.sequences p.0 (ltb-true p.0 (length m.sequences) is) (usable m m.sequences known.told.sequences known.valid.sequences)

-- the name of a sequence that has one
name_of_use : (m : Data) (o : Option (List ℕ)) (members : List Itv) (types : Option (List ℕ)) → IsTrue (is_some o) → IsTrue (passes_if_any is_told o)
    → Says (use_text m (record { name = o; members = members; types = types })) (name_words (unwrap_or o []))
name_of_use m None members types some told = cc
name_of_use m (Some n) members types some told = a_name n told

name_said : (m : Data) (ds : List SequenceDef) (i : ℕ) → IsTrue (list_all (λ d. passes_if_any is_told d.name) ds) → IsTrue (passes is_named_sequence (slice_get ds i))
    → Says (unwrap_or (option_map (use_text m) (slice_get ds i)) []) (name_words (unwrap_or (option_and_then (λ d. d.name) (slice_get ds i)) []))
name_said m [] i told named = cc
name_said m (d ∷ ds) zero told named = name_of_use m d.name d.members d.types named (and_parts (passes_if_any is_told d.name) (list_all (λ e. passes_if_any is_told e.name) ds) told).0
name_said m (d ∷ ds) (suc i) told named = name_said m ds i (and_parts (passes_if_any is_told d.name) (list_all (λ e. passes_if_any is_told e.name) ds) told).1 named

pub named_said : (m : Data) (p : Seq) → Known m → IsTrue (is_named_at m p) → Says (over_text m p) (name_words (sequence_name m p))
named_said m p known named = name_said m m.sequences p.0 known.told.sequences named

pub function_said : (m : Data) (f : Cum) → Known m → IsTrue (nat_lt f.0 (length m.cumuls)) → Says (function_text m f) (cumul_words (function_tree m f))
function_said m f known is =
    said_at (is_function m) (cumul_text m) (named_or_parts m) cumul_words (by_name []) (λ d here. function_use m d known.told here) m.cumuls f.0 (ltb-true f.0 (length m.cumuls) is) known.functions
