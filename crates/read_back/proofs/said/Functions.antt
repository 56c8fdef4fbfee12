-- The text of a cumulative function says the words of its tree, in its definition and in a constraint.
use Rattle.std.proofs.Common.{ℕ, Bool, true, false, not, ◌&&◌, List, [], ◌∷◌, ◌++◌, map, Option, Some, None, refl}
use Rattle.std.specs.Prelude.{flat_map, IsTrue, codes, if◌then◌else◌, option_map, option_to_list}
use Rattle.std.specs.List.{list_all}
use Rattle.std.proofs.lemmas.List.{append_assoc, append-nil}
use Rattle.std.proofs.lemmas.Bool.{and_parts, and_from}
use Rattle.cpo_text.specs.Words.{Word, Word as word}
use Rattle.cpo_text.specs.Parts.{minus_words}
use Rattle.cpo_text.specs.Cumulative.{cpart_words, more_words, cumul_words}
use Rattle.sched_model.specs.declared.types.CumulDef.{CumulDef}
use Rattle.sched_model.specs.declared.types.Part.{Part}
use Rattle.sched_model.specs.declared.types.Shape.{Shape}
use Rattle.sched_model.specs.declared.types.Shape.TheVariants.{Pulse, Step, PulseOf, StepAtStart, StepAtEnd}
use Rattle.sched_model.specs.Data.{Data}
use Rattle.sched_model.specs.Words.{passes_if_any, is_empty}
use Rattle.sched_model.specs.Valid.{is_moment, is_span_of_moments, is_amount, is_itv, is_shape, is_cumul_def}
use Rattle.sched_text.specs.Canonical.{shape_text, later_part, parts_text, cumul_text, named_cumul_text}
use Rattle.read_back.specs.Trees.{shape_tree, part_tree, parts_tree, cumul_tree, named_or_parts}
use Rattle.read_back.specs.Says.{Says}
use Rattle.read_back.specs.Says.Chunk.{sign}
use Rattle.read_back.proofs.Joined.{nothing, a_name}
use Rattle.read_back.proofs.Numbers.{moment_literal, amount_literal, span_literals}
use Rattle.read_back.proofs.said.Joined.{across, plus, minus}
use Rattle.read_back.proofs.said.Numbers.{an_int}
use Rattle.read_back.proofs.said.Rows.{none, more, called}
use Rattle.read_back.proofs.said.Lines.{Lines, no_line, line, defined}
use Rattle.read_back.proofs.Spelt.{is_told, AreTold, interval_told}

shape_said : (m : Data) (s : Shape) → AreTold m → IsTrue (is_shape m s) → Says (shape_text m s) (cpart_words (shape_tree m s))
shape_said m (Pulse u v h) told is =
    let parts = and_parts (is_span_of_moments u v) (is_amount h) is in
    let span = span_literals u v parts.0 in
    called (codes "pulse") refl (more (an_int u span.0) (more (an_int v span.1) (more (an_int h (amount_literal h parts.1)) none)))
shape_said m (Step u h) told is =
    let parts = and_parts (is_moment u) (is_amount h) is in
    called (codes "step") refl (more (an_int u (moment_literal u parts.0)) (more (an_int h (amount_literal h parts.1)) none))
shape_said m (PulseOf x h) told is =
    let parts = and_parts (is_itv m x) (is_amount h) is in
    called (codes "pulse") refl (more (a_name _ (interval_told m x told parts.0)) (more (an_int h (amount_literal h parts.1)) none))
shape_said m (StepAtStart x h) told is =
    let parts = and_parts (is_itv m x) (is_amount h) is in
    called (codes "stepAtStart") refl (more (a_name _ (interval_told m x told parts.0)) (more (an_int h (amount_literal h parts.1)) none))
shape_said m (StepAtEnd x h) told is =
    let parts = and_parts (is_itv m x) (is_amount h) is in
    called (codes "stepAtEnd") refl (more (a_name _ (interval_told m x told parts.0)) (more (an_int h (amount_literal h parts.1)) none))

-- a sign between two parts, and in front of the first
signed : (b : Bool) {t u : List ℕ} {ws vs : List Word} → Says t ws → Says u vs → Says (t ++ ((if b then codes "-" else codes "+") ++ u)) (ws ++ word.sign (if b then codes "-" else codes "+") ∷ vs)
signed true first second = across (sign (45 ∷ [])) minus first second
signed false first second = across (sign (43 ∷ [])) plus first second

signed_first : (b : Bool) {t : List ℕ} {ws : List Word} → Says t ws → Says ((if b then codes "-" else []) ++ t) (minus_words b ++ ws)
signed_first true here = across (sign (45 ∷ [])) minus nothing here
signed_first false here = here

parts_said : (m : Data) (p : Part) (ps : List Part) → AreTold m → IsTrue (list_all (λ i. is_shape m i.shape) (p ∷ ps))
    → Says (shape_text m p.shape ++ flat_map (later_part m) ps) (cpart_words (shape_tree m p.shape) ++ more_words (map (part_tree m) ps))
parts_said m p [] told are =
    let parts = and_parts (is_shape m p.shape) true are in
    rw (append-nil (shape_text m p.shape), append-nil (cpart_words (shape_tree m p.shape))) (shape_said m p.shape told parts.0)
parts_said m p (q ∷ qs) told are =
    let parts = and_parts (is_shape m p.shape) (list_all (λ i. is_shape m i.shape) (q ∷ qs)) are in
    rw (append_assoc (if q.minus then codes "-" else codes "+") (shape_text m q.shape) (flat_map (later_part m) qs))
    (signed q.minus (shape_said m p.shape told parts.0) (parts_said m q qs told parts.1))

written_out : (m : Data) (ps : List Part) → AreTold m → IsTrue (not (is_empty ps)) → IsTrue (list_all (λ i. is_shape m i.shape) ps) → Says (parts_text m ps) (cumul_words (parts_tree m ps))
written_out m [] told some are = cc
written_out m (p ∷ ps) told some are =
    rw (append_assoc (if p.minus then codes "-" else []) (shape_text m p.shape) (flat_map (later_part m) ps))
    (signed_first p.minus (parts_said m p ps told are))

-- a function of a valid model that a text can write
abbrev pub is_function : Data → CumulDef → Bool
is_function m d = passes_if_any is_told d.name && not (is_empty d.parts) && is_cumul_def m d

function_parts : (m : Data) (o : Option (List ℕ)) (ps : List Part) → AreTold m → IsTrue (is_function m (record { name = o; parts = ps })) → Says (parts_text m ps) (cumul_words (parts_tree m ps))
function_parts m o ps told is =
    let parts = and_parts (passes_if_any is_told o && not (is_empty ps)) (list_all (λ i. is_shape m i.shape) ps) is in
    written_out m ps told (and_parts (passes_if_any is_told o) (not (is_empty ps)) parts.0).1 parts.1

function_name : (m : Data) (n : List ℕ) (ps : List Part) → IsTrue (is_function m (record { name = Some n; parts = ps })) → IsTrue (is_told n)
function_name m n ps is = (and_parts (is_told n) (not (is_empty ps)) (and_parts (is_told n && not (is_empty ps)) (list_all (λ i. is_shape m i.shape) ps) is).0).0

function_told : (m : Data) (o : Option (List ℕ)) (ps : List Part) → AreTold m → IsTrue (is_function m (record { name = o; parts = ps }))
    → Lines (named_cumul_text m (record { name = o; parts = ps })) (option_to_list (option_map (cumul_tree m (record { name = o; parts = ps })) o))
function_told m None ps told is = no_line
function_told m (Some n) ps told is =
    let d : CumulDef = record { name = Some n; parts = ps } in
    line _ (cumul_tree m d n) (defined n _ _ (function_name m n ps is) (function_parts m (Some n) ps told is)) refl

pub function_line : (m : Data) (d : CumulDef) → AreTold m → IsTrue (is_function m d) → Lines (named_cumul_text m d) (option_to_list (option_map (cumul_tree m d) d.name))
function_line m d told is = function_told m d.name d.parts told is

-- by its name, or written out
use_told : (m : Data) (o : Option (List ℕ)) (ps : List Part) → AreTold m → IsTrue (is_function m (record { name = o; parts = ps }))
    → Says (cumul_text m (record { name = o; parts = ps })) (cumul_words (named_or_parts m (record { name = o; parts = ps })))
use_told m None ps told is = function_parts m None ps told is
use_told m (Some n) ps told is = a_name n (function_name m n ps is)

pub function_use : (m : Data) (d : CumulDef) → AreTold m → IsTrue (is_function m d) → Says (cumul_text m d) (cumul_words (named_or_parts m d))
function_use m d told is = use_told m d.name d.parts told is

pub functions_of : (m : Data) (ds : List CumulDef) → IsTrue (list_all (λ d. passes_if_any is_told d.name) ds) → IsTrue (list_all (λ d. not (is_empty d.parts)) ds) → IsTrue (list_all (is_cumul_def m) ds) → IsTrue (list_all (is_function m) ds)
functions_of m [] named filled are = refl
functions_of m (d ∷ ds) named filled are =
    let first = and_parts (passes_if_any is_told d.name) (list_all (λ e. passes_if_any is_told e.name) ds) named in
    let second = and_parts (not (is_empty d.parts)) (list_all (λ e. not (is_empty e.parts)) ds) filled in
    let third = and_parts (is_cumul_def m d) (list_all (is_cumul_def m) ds) are in
    and_from (is_function m d) _ (and_from (passes_if_any is_told d.name && not (is_empty d.parts)) _ (and_from (passes_if_any is_told d.name) _ first.0 second.0) third.0) (functions_of m ds first.1 second.1 third.1)
