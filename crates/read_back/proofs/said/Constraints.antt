-- The text of a constraint or of the objective says the words of its statement.
use Rattle.std.proofs.Common.{◌≡◌, ℕ, ℤ, pos, Bool, true, false, not, ◌&&◌, List, [], ◌∷◌, ◌++◌, map, length, Option, Some, None, refl, subst, arith}
use Rattle.std.specs.Prelude.{IsTrue, codes, if◌then◌else◌, nat_lt, nat_le, int_le, option_map, option_to_list}
use Rattle.std.specs.List.{list_all}
use Rattle.std.specs.Ordering.{int_eq}
use Rattle.std.specs.Fmt.{signed_decimal}
use Rattle.std.proofs.lemmas.Fmt.{decimal_digit}
use Rattle.std.proofs.lemmas.List.{append_assoc, append-nil}
use Rattle.std.proofs.lemmas.Bool.{and_parts, and_from}
use Rattle.std.proofs.lemmas.Bool.Decides.{nat_tests}
use Rattle.std.specs.Option.{IfSome}
use Rattle.cpo_text.specs.Words.{Word, Word as word, commas, call}
use Rattle.cpo_text.specs.Cumulative.{cumul_words}
use Rattle.cpo_text.specs.Expressions.{all_at_least, level, is_logic, are_logics, logic_words}
use Rattle.cpo_text.specs.Spelling.{int_items, temporal_word as tree_word, sense_word as tree_sense, name_words, names_words, flag_words, over_words, spaced_items, constraint_words, is_formed}
use Rattle.cpo_text.specs.declared.cumul.Cumul.{Cumul}
use Rattle.cpo_text.specs.declared.tree.Bound.TheVariants.{AtMost, AtLeast}
use Rattle.cpo_text.specs.declared.tree.Constrained.TheVariants.{Bounded}
use Rattle.cpo_text.specs.declared.tree.Statement.TheVariants.{Constrain}
use Rattle.sched_base.specs.declared.ids.Itv.{Itv}
use Rattle.sched_base.specs.declared.ids.Seq.{Seq}
use Rattle.sched_base.specs.declared.ids.Mat.{Mat}
use Rattle.sched_model.specs.declared.types.Window.{Window}
use Rattle.sched_model.specs.declared.types.Window.TheVariants.{Always, Moments, During}
use Rattle.sched_model.specs.declared.types.End.{End}
use Rattle.sched_model.specs.declared.types.End.TheVariants.{Start, Finish}
use Rattle.sched_model.specs.declared.types.Constraint.{Constraint}
use Rattle.sched_model.specs.declared.types.Constraint.TheVariants.{Temporal, Logic, Span, Alternative, Synchronize, NoOverlap, First, Last, Before, Prev, CumulIn, AlwaysEqual, AlwaysNoState}
use Rattle.sched_model.specs.declared.types.Sense.{Sense}
use Rattle.sched_model.specs.declared.types.Sense.TheVariants.{Minimize, Maximize}
use Rattle.sched_model.specs.declared.types.Objective.{Objective}
use Rattle.sched_model.specs.Data.{Data, same, state_matrix, matrix_of}
use Rattle.sched_model.specs.Domain.{is_row}
use Rattle.sched_model.specs.Words.{is_empty, passes_if_any}
use Rattle.sched_model.specs.declared.types.Expr.{Expr}
use Rattle.sched_model.specs.Rank.{criteria_of, IsRanked}
use Rattle.cpo_elab.specs.lemmas.Criteria.{criteria_are}
use Rattle.sched_model.specs.Valid.{is_small, is_amount, is_itv, is_mat, is_seq, is_member, are_parts, are_distinct, fits_types, is_window, is_expr, is_constraint}
use Rattle.sched_text.specs.Pieces as piece
use Rattle.sched_text.specs.Pieces.{interval_name, matrix_name, interval_names}
use Rattle.sched_text.specs.Shown.{shown, wholes}
use Rattle.sched_text.specs.Canonical.{count_items, list_text, function_text, flag, temporal_word, over_text, distance_text, least_level, within_text, constraint_text, sense_word, objective_text, statement}
use Rattle.read_back.specs.Trees.{int_tree, count_tree, function_tree, temporal_tree, over_tree, spaced_tree, within_tree, constraint_tree, logic_tree, sense_tree, aim_tree, objective_tree}
use Rattle.read_back.specs.Written.{is_written, is_written_expr}
use Rattle.read_back.specs.Laws.{ExpressionsAreSaid, ExpressionsAreFormed}
use Rattle.read_back.specs.Says.{Says}
use Rattle.read_back.specs.Says.Chunk.{sign, blank}
use Rattle.read_back.proofs.Joined.{a_name, a_number}
use Rattle.read_back.proofs.Numbers.{small_literal, amount_literal, span_literals}
use Rattle.read_back.proofs.said.Joined.{across, along, comma, space}
use Rattle.read_back.proofs.said.Numbers.{an_int}
use Rattle.read_back.proofs.said.Rows.{Row, none, more, in_square, names_row, a_call, called}
use Rattle.read_back.proofs.said.Lines.{Lines, no_line, line}
use Rattle.read_back.proofs.Spelt.{is_told, interval_told, intervals_told, matrix_told, state_told}
use Rattle.read_back.proofs.said.Uses.{Known, over_said, named_said, function_said}
use Rattle.read_back.proofs.Members.{member_is}

flag_said : (b : Bool) → Says (flag b) (flag_words b)
flag_said true = subst (λ t. Says t (word.number 1 ∷ [])) (decimal_digit 1 (omega arith)) (a_number 1 refl)
flag_said false = subst (λ t. Says t (word.number 0 ∷ [])) (decimal_digit 0 (omega arith)) (a_number 0 refl)

temporal_said : (from to : End) (equal : Bool) {xs : List (List ℕ)} {ws : List (List Word)} → Row xs ws → Says (piece.call (temporal_word from to equal) xs) (call (tree_word (temporal_tree from to equal)) ws)
temporal_said Start Start false row = called (codes "startBeforeStart") refl row
temporal_said Start Finish false row = called (codes "startBeforeEnd") refl row
temporal_said Finish Start false row = called (codes "endBeforeStart") refl row
temporal_said Finish Finish false row = called (codes "endBeforeEnd") refl row
temporal_said Start Start true row = called (codes "startAtStart") refl row
temporal_said Start Finish true row = called (codes "startAtEnd") refl row
temporal_said Finish Start true row = called (codes "endAtStart") refl row
temporal_said Finish Finish true row = called (codes "endAtEnd") refl row

-- a sequence, and a matrix with its flag where it is there
spaced_said : (m : Data) (p : Seq) (matrix : Option Mat) (direct : Bool) → Known m → IsTrue (is_seq m p) → IsTrue (passes_if_any (fits_types m p) matrix)
    → Says (over_text m p ++ distance_text m matrix direct) (commas (over_words (over_tree m p) ∷ spaced_items (option_map (λ x. spaced_tree m direct x.0) matrix)))
spaced_said m p None direct known is fits = rw (append-nil (over_text m p)) (over_said m p known is)
spaced_said m p (Some x) direct known is fits =
    across (sign (44 ∷ [])) comma (over_said m p known is) (along (sign (44 ∷ [])) comma (a_name (matrix_name m x) (matrix_told m x known.told (and_parts (is_mat m x) _ fits).0)) (flag_said direct))

-- bounds

at_most : Says (60 ∷ 61 ∷ []) (word.sign (60 ∷ 61 ∷ []) ∷ [])
at_most = record { chunks = sign (60 ∷ 61 ∷ []) ∷ []; spelt = refl; said = refl; are = refl; apart = refl }

at_least : Says (62 ∷ 61 ∷ []) (word.sign (62 ∷ 61 ∷ []) ∷ [])
at_least = record { chunks = sign (62 ∷ 61 ∷ []) ∷ []; spelt = refl; said = refl; are = refl; apart = refl }

bounded_said : (b : Bool) (f : List ℕ) (tree : Cumul) (lo hi : ℤ) → Says f (cumul_words tree) → IsTrue (is_small lo) → IsTrue (is_small hi)
    → Says (if b then f ++ codes " <= " ++ signed_decimal hi else f ++ codes " >= " ++ signed_decimal lo) (constraint_words (if b then Bounded tree AtMost (int_tree hi) else Bounded tree AtLeast (int_tree lo)))
bounded_said true f tree lo hi here low high =
    rw (append_assoc f (32 ∷ 60 ∷ 61 ∷ 32 ∷ []) (signed_decimal hi)) (across (blank 32) space here (across (blank 32) space at_most (an_int hi (small_literal hi high))))
bounded_said false f tree lo hi here low high =
    rw (append_assoc f (32 ∷ 62 ∷ 61 ∷ 32 ∷ []) (signed_decimal lo)) (across (blank 32) space here (across (blank 32) space at_least (an_int lo (small_literal lo low))))

within_said : (m : Data) (f : List ℕ) (tree : Cumul) (w : Window) (lo hi : ℤ) → Known m → Says f (cumul_words tree) → IsTrue (is_window m w) → IsTrue (is_small lo) → IsTrue (is_small hi)
    → Says (within_text m f w lo hi) (constraint_words (within_tree m tree w lo hi))
within_said m f tree Always lo hi known here is low high = bounded_said (int_eq lo least_level) f tree lo hi here low high
within_said m f tree (Moments u v) lo hi known here is low high =
    let span = span_literals u v is in
    called (codes "alwaysIn") refl (more here (more (an_int u span.0) (more (an_int v span.1) (more (an_int lo (small_literal lo low)) (more (an_int hi (small_literal hi high)) none)))))
within_said m f tree (During x) lo hi known here is low high =
    called (codes "alwaysIn") refl (more here (more (a_name _ (interval_told m x known.told is)) (more (an_int lo (small_literal lo low)) (more (an_int hi (small_literal hi high)) none))))

-- each constraint

-- the count of an alternative, where it is written
count_row : (n : ℤ) → IsTrue (is_small n) → Row (count_items n) (int_items (count_tree n))
count_row n small = by (int_eq n (pos 1))
  where
    by : (b : Bool) → Row (if b then [] else signed_decimal n ∷ []) (int_items (if b then None else Some (int_tree n)))
    by true = none
    by false = more (an_int n (small_literal n small)) none

parts_said : (m : Data) (word : List ℕ) (x : Itv) (xs : List Itv) → IsTrue (is_told word) → Known m → IsTrue (is_itv m x && are_parts m xs)
    → Says (piece.call word (interval_name m x ∷ list_text m xs ∷ [])) (call word (name_words (interval_name m x) ∷ names_words (interval_names m xs) ∷ []))
parts_said m word x xs spelt known is =
    let parts = and_parts (is_itv m x) (are_parts m xs) is in
    let members = and_parts (list_all (is_itv m) xs) (are_distinct xs) parts.1 in
    called word spelt (more (a_name _ (interval_told m x known.told parts.0)) (more (in_square (names_row (interval_names m xs) (intervals_told m xs known.told members.0))) none))

member_told : (m : Data) (p : Seq) (x : Itv) → Known m → IsTrue (is_member m p x) → Says (interval_name m x) (name_words (interval_name m x))
member_told m p x known is = a_name (interval_name m x) (interval_told m x known.told (member_is m p x known.valid is))

constraint_said : (m : Data) (c : Constraint) → Known m → ExpressionsAreSaid → IsTrue (is_constraint m c) → IsTrue (is_written m c) → Says (constraint_text m c) (constraint_words (constraint_tree m c))
constraint_said m (Temporal from to equal x y z) known said is written =
    let parts = and_parts (is_itv m x && is_itv m y) (is_small z) is in
    let ends = and_parts (is_itv m x) (is_itv m y) parts.0 in
    temporal_said from to equal (more (a_name _ (interval_told m x known.told ends.0)) (more (a_name _ (interval_told m y known.told ends.1)) (more (an_int z (small_literal z parts.1)) none)))
constraint_said m (Logic e) known said is written = said m e known.valid known.written is written
constraint_said m (Span x parts) known said is written = parts_said m (codes "span") x parts refl known is
constraint_said m (Alternative x parts n) known said is written =
    let counted = and_parts (is_itv m x && are_parts m parts && is_small n) (int_le (pos 0) n) is in
    let all = and_parts (is_itv m x && are_parts m parts) (is_small n) counted.0 in
    let ends = and_parts (is_itv m x) (are_parts m parts) all.0 in
    let members = and_parts (list_all (is_itv m) parts) (are_distinct parts) ends.1 in
    called (codes "alternative") refl
    (more (a_name _ (interval_told m x known.told ends.0)) (more (in_square (names_row (interval_names m parts) (intervals_told m parts known.told members.0))) (count_row n all.1)))
constraint_said m (Synchronize x parts) known said is written = parts_said m (codes "synchronize") x parts refl known is
constraint_said m (NoOverlap p matrix direct) known said is written =
    let parts = and_parts (is_seq m p) (passes_if_any (fits_types m p) matrix) is in
    let texts : List (List ℕ) = (over_text m p ++ distance_text m matrix direct) ∷ [] in
    let words : List (List Word) = over_words (over_tree m p) ∷ spaced_items (option_map (λ x. spaced_tree m direct x.0) matrix) in
    a_call (codes "noOverlap") texts words refl (spaced_said m p matrix direct known parts.0 parts.1)
constraint_said m (First p x) known said is written = called (codes "first") refl (more (named_said m p known written) (more (member_told m p x known is) none))
constraint_said m (Last p x) known said is written = called (codes "last") refl (more (named_said m p known written) (more (member_told m p x known is) none))
constraint_said m (Before p x y) known said is written =
    let parts = and_parts (is_member m p x) (is_member m p y) (and_parts (is_member m p x && is_member m p y) (not (same x y)) is).0 in
    called (codes "before") refl (more (named_said m p known written) (more (member_told m p x known parts.0) (more (member_told m p y known parts.1) none)))
constraint_said m (Prev p x y) known said is written =
    let parts = and_parts (is_member m p x) (is_member m p y) (and_parts (is_member m p x && is_member m p y) (not (same x y)) is).0 in
    called (codes "prev") refl (more (named_said m p known written) (more (member_told m p x known parts.0) (more (member_told m p y known parts.1) none)))
constraint_said m (CumulIn f w lo hi) known said is written =
    let high = and_parts (nat_lt f.0 (length m.cumuls) && is_window m w && is_small lo) (is_small hi) (and_parts (nat_lt f.0 (length m.cumuls) && is_window m w && is_small lo && is_small hi) (int_le lo hi) is).0 in
    let low = and_parts (nat_lt f.0 (length m.cumuls) && is_window m w) (is_small lo) high.0 in
    let front = and_parts (nat_lt f.0 (length m.cumuls)) (is_window m w) low.0 in
    within_said m (function_text m f) (function_tree m f) w lo hi known (function_said m f known front.0) front.1 low.1 high.1
constraint_said m (AlwaysEqual g x v i j) known said is written =
    let amount = and_parts (nat_lt g.0 (length m.states) && is_itv m x) (is_amount v) (and_parts (nat_lt g.0 (length m.states) && is_itv m x && is_amount v) (is_row (matrix_of m (state_matrix m g)) v) is).0 in
    let parts = and_parts (nat_lt g.0 (length m.states)) (is_itv m x) amount.0 in
    called (codes "alwaysEqual") refl (more (a_name _ (state_told m g known.told parts.0)) (more (a_name _ (interval_told m x known.told parts.1)) (more (an_int v (amount_literal v amount.1)) (more (flag_said i) (more (flag_said j) none)))))
constraint_said m (AlwaysNoState g x) known said is written =
    let parts = and_parts (nat_lt g.0 (length m.states)) (is_itv m x) is in
    called (codes "alwaysNoState") refl (more (a_name _ (state_told m g known.told parts.0)) (more (a_name _ (interval_told m x known.told parts.1)) none))

bounded_formed : (b : Bool) (f : Cumul) (lo hi : ℤ) → IsTrue (is_formed (Constrain (if b then Bounded f AtMost (int_tree hi) else Bounded f AtLeast (int_tree lo))))
bounded_formed true f lo hi = refl
bounded_formed false f lo hi = refl

within_formed : (m : Data) (f : Cumul) (w : Window) (lo hi : ℤ) → IsTrue (is_formed (Constrain (within_tree m f w lo hi)))
within_formed m f Always lo hi = bounded_formed (int_eq lo least_level) f lo hi
within_formed m f (Moments u v) lo hi = refl
within_formed m f (During x) lo hi = refl

constraint_formed : (m : Data) (c : Constraint) → ExpressionsAreFormed → IsTrue (is_constraint m c) → IsTrue (is_written m c) → IsTrue (is_formed (Constrain (constraint_tree m c)))
constraint_formed m (Temporal from to equal x y z) formed is written = refl
constraint_formed m (Logic e) formed is written = formed m e is written
constraint_formed m (Span x parts) formed is written = refl
constraint_formed m (Alternative x parts n) formed is written = refl
constraint_formed m (Synchronize x parts) formed is written = refl
constraint_formed m (NoOverlap p matrix direct) formed is written = refl
constraint_formed m (First p x) formed is written = refl
constraint_formed m (Last p x) formed is written = refl
constraint_formed m (Before p x y) formed is written = refl
constraint_formed m (Prev p x y) formed is written = refl
constraint_formed m (CumulIn f w lo hi) formed is written = within_formed m (function_tree m f) w lo hi
constraint_formed m (AlwaysEqual g x v i j) formed is written = refl
constraint_formed m (AlwaysNoState g x) formed is written = refl

pub constraint_line : (m : Data) (c : Constraint) → Known m → ExpressionsAreSaid → ExpressionsAreFormed → IsTrue (is_constraint m c && is_written m c) → Lines (statement (constraint_text m c)) (Constrain (constraint_tree m c) ∷ [])
constraint_line m c known said formed is =
    let parts = and_parts (is_constraint m c) (is_written m c) is in
    line _ (Constrain (constraint_tree m c)) (constraint_said m c known said parts.0 parts.1) (constraint_formed m c formed parts.0 parts.1)

-- the objective

sense_said : (s : Sense) {t : List ℕ} {ws : List Word} → Says t ws → Says (piece.call (sense_word s) (t ∷ [])) (call (tree_sense (sense_tree s)) (ws ∷ []))
sense_said Minimize here = called (codes "minimize") refl (more here none)
sense_said Maximize here = called (codes "maximize") refl (more here none)

criteria_row : (m : Data) (es : List Expr) → Known m → ExpressionsAreSaid → IsTrue (list_all (is_expr m) es) → IsTrue (list_all is_written_expr es) → Row (wholes (map (shown m) es)) (map logic_words (map (logic_tree m) es))
criteria_row m [] known said are written = none
criteria_row m (e ∷ es) known said are written =
    let a = and_parts (is_expr m e) (list_all (is_expr m) es) are in
    let b = and_parts (is_written_expr e) (list_all is_written_expr es) written in
    more (said m e known.valid known.written a.0 b.0) (criteria_row m es known said a.1 b.1)

all_formed : (m : Data) (es : List Expr) → ExpressionsAreFormed → IsTrue (list_all (is_expr m) es) → IsTrue (list_all is_written_expr es) → IsTrue (all_at_least 0 (map level (map (logic_tree m) es)))
all_formed m [] formed are written = refl
all_formed m (e ∷ es) formed are written =
    let a = and_parts (is_expr m e) (list_all (is_expr m) es) are in
    let b = and_parts (is_written_expr e) (list_all is_written_expr es) written in
    and_from (is_logic (logic_tree m e)) _ (formed m e a.0 b.0) (all_formed m es formed a.1 b.1)

criteria_formed : (m : Data) (es : List Expr) → is_empty es ≡ false → ExpressionsAreFormed → IsTrue (list_all (is_expr m) es) → IsTrue (list_all is_written_expr es) → IsTrue (are_logics (map (logic_tree m) es))
criteria_formed m [] some formed are written = cc
criteria_formed m (e ∷ es) some formed are written =
    let n = length (map (logic_tree m) es) in
    let there : nat_le 1 (length (map (logic_tree m) (e ∷ es))) ≡ true = grind (arith, nat_tests) in
    and_from _ _ there (all_formed m (e ∷ es) formed are written)

-- one expression, or the criteria
aim_line : (m : Data) (o : Objective) (b : Bool) → is_empty o.criteria ≡ b → Known m → ExpressionsAreSaid → ExpressionsAreFormed
    → IsTrue (list_all (is_expr m) (if b then o.expr ∷ [] else o.criteria)) → IsTrue (list_all is_written_expr (if b then o.expr ∷ [] else o.criteria))
    → Lines (statement (piece.call (sense_word o.sense) ((if b then (shown m o.expr).whole else piece.call (codes "staticLex") (piece.listed (wholes (map (shown m) o.criteria)) ∷ [])) ∷ []))) (aim_tree m b o ∷ [])
aim_line m o true none_there known said formed are written =
    let a = and_parts (is_expr m o.expr) true are in
    let b = and_parts (is_written_expr o.expr) true written in
    line _ (aim_tree m true o) (sense_said o.sense (said m o.expr known.valid known.written a.0 b.0)) (formed m o.expr a.0 b.0)
aim_line m o false some known said formed are written =
    line _ (aim_tree m false o) (sense_said o.sense (called (codes "staticLex") refl (more (in_square (criteria_row m o.criteria known said are written)) none))) (criteria_formed m o.criteria some formed are written)

pub objective_line : (m : Data) (o : Option Objective) → Known m → ExpressionsAreSaid → ExpressionsAreFormed → IsTrue (passes_if_any (λ x. list_all (is_expr m) (criteria_of x)) o) → IsTrue (passes_if_any (λ x. list_all is_written_expr (criteria_of x)) o)
    → Lines (objective_text m o) (map (objective_tree m) (option_to_list o))
objective_line m None known said formed are written = no_line
objective_line m (Some o) known said formed are written = aim_line m o (is_empty o.criteria) refl known said formed are written

-- the criteria of a valid model are expressions
pub criteria_passed : (m : Data) (o : Option Objective) → IfSome o (IsRanked m) → IsTrue (passes_if_any (λ x. is_expr m x.expr) o) → IsTrue (passes_if_any (λ x. list_all (is_expr m) (criteria_of x)) o)
criteria_passed m None ranked valid = refl
criteria_passed m (Some o) ranked valid = criteria_are m o ranked valid
