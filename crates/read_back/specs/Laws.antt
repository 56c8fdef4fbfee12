-- The law that the canonical text of a model reads back to it, and the steps to it.
use Rattle.std.specs.Prelude.{◌≡◌, ◌≤◌, ℕ, pos, Bool, false, not, ◌&&◌, List, length, map, flat_map, IsTrue}
use Rattle.std.specs.List.{list_all}
use Rattle.sched_base.specs.declared.ids.Itv.{Itv}
use Rattle.sched_model.specs.Data.{Data}
use Rattle.cpo_elab.specs.Stages.{empty_stage}
use Rattle.sched_model.specs.Valid.{IsValid, is_expr, is_itv}
use Rattle.sched_model.specs.declared.types.Expr.{Expr}
use Rattle.cpo_text.specs.declared.text.Reading.{Reading}
use Rattle.cpo_text.specs.declared.text.Tree.{Tree}
use Rattle.cpo_text.specs.declared.text.Form.TheVariants.{Tree as Parsed}
use Rattle.cpo_text.specs.declared.tree.Statement.{Statement}
use Rattle.cpo_text.specs.Runs.{is_deep, has_many_nestings}
use Rattle.cpo_text.specs.Expressions.{is_logic, logic_words}
use Rattle.cpo_text.specs.Spelling.{spelling, is_formed}
use Rattle.cpo_text.specs.Reads.{IsRead, text_limit}
use Rattle.cpo_elab.specs.declared.names.Sort.TheVariants.{Interval}
use Rattle.cpo_elab.specs.Named.{NameTest, some_in_logic}
use Rattle.cpo_elab.specs.Elaborated.{expr_of}
use Rattle.cpo_elab.specs.Factors.{factor_of}
use Rattle.cpo_elab.specs.Judged.{statement_limit}
use Rattle.cpo_elab.specs.Answers.{judged}
use Rattle.cpo_elab.specs.Answers.Answer.{Accepted}
use Rattle.cpo_elab.specs.Deserves.{Deserves}
use Rattle.sched_text.specs.Pieces.{interval_name}
use Rattle.sched_text.specs.Shown.{shown}
use Rattle.sched_text.specs.Canonical.{canonical_text}
use Rattle.read_back.specs.Trees.{canonical_statements, logic_tree}
use Rattle.read_back.specs.Written.{IsWritten, is_written_expr, factor}
use Rattle.read_back.specs.Says.{Says}

-- at most 200 brackets are open at a place, and at most 200 `!` and `=>` stand in the statement
abbrev pub is_shallow : Statement → Bool
is_shallow s = not (is_deep (pos 0) (spelling s)) && not (has_many_nestings (spelling s))

-- the canonical text passes no limit on texts; those on models hold by themselves
pub record IsWithinText (m : Data) : Type 0 where
  pub bytes : length (canonical_text m) ≤ text_limit
  pub shallow : IsTrue (list_all is_shallow (canonical_statements m))

-- where a text deserves a model, the canonical text of the model deserves it too, if it passes no limit on texts
abbrev pub ReadsBack : Type 0
ReadsBack = (text : List ℕ) (m : Data) → Deserves text (Accepted m) → IsWithinText m → Deserves (canonical_text m) (Accepted m)

-- What a text deserves is valid, and as a text can write it.
abbrev pub DeservedAreWritten : Type 0
DeservedAreWritten = (text : List ℕ) (m : Data) → Deserves text (Accepted m) → IsValid m × IsWritten m

-- A text that says the words of some statements is read as these.
abbrev pub SaidIsRead : Type 0
SaidIsRead = (text : List ℕ) (ss : List Statement) → Says text (flat_map spelling ss) → IsTrue (list_all is_formed ss) → IsTrue (list_all is_shallow ss)
    → length text ≤ text_limit → length ss ≤ statement_limit → (tree : Tree) × IsRead text tree × (map (λ x. x.form) tree.statements ≡ map Parsed ss)

-- Expressions: their text says the words of their tree, the tree has the brackets that the grammar asks for, ...
abbrev pub ExpressionsAreSaid : Type 0
ExpressionsAreSaid = (m : Data) (e : Expr) → IsValid m → IsWritten m → IsTrue (is_expr m e) → IsTrue (is_written_expr e) → Says (shown m e).whole (logic_words (logic_tree m e))

abbrev pub ExpressionsAreFormed : Type 0
ExpressionsAreFormed = (m : Data) (e : Expr) → IsTrue (is_expr m e) → IsTrue (is_written_expr e) → IsTrue (is_logic (logic_tree m e))

-- ... and it means the same expression in each model with the same intervals.
abbrev pub ExpressionsReturn : Type 0
ExpressionsReturn = (m n : Data) (e : Expr) → IsValid m → n.intervals ≡ m.intervals → IsTrue (is_expr m e) → IsTrue (is_written_expr e) → expr_of n (logic_tree m e) ≡ e

abbrev pub FactorsReturn : Type 0
FactorsReturn = (m : Data) (e : Expr) → factor_of (logic_tree m e) ≡ factor e

-- it names no interval but those of the model
abbrev pub ExpressionsNameIntervals : Type 0
ExpressionsNameIntervals = (m : Data) (e : Expr) (test : NameTest) → IsTrue (is_expr m e) → ((x : Itv) → IsTrue (is_itv m x) → test Interval (interval_name m x) ≡ false) → some_in_logic test (logic_tree m e) ≡ false

-- Whole models: their text says the words of their statements, each of which is formed, ...
abbrev pub CanonicalIsSaid : Type 0
CanonicalIsSaid = (m : Data) → IsValid m → IsWritten m → Says (canonical_text m) (flat_map spelling (canonical_statements m)) × IsTrue (list_all is_formed (canonical_statements m))

-- ... and these are judged to be the model.
abbrev pub CanonicalIsJudged : Type 0
CanonicalIsJudged = (m : Data) (xs : List Reading) → IsValid m → IsWritten m
    → map (λ x. x.form) xs ≡ map Parsed (canonical_statements m) → judged empty_stage 1 xs ≡ Accepted m
