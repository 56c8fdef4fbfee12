-- Tokens whose words are those of some statements fall into runs, one for each statement.
use Rattle.std.proofs.Common.{◌≡◌, List, [], ◌∷◌, ◌++◌, map, refl, ap, ◌∙◌, append_assoc}
use Rattle.std.specs.Prelude.{codes, flat_map}
use Rattle.std.specs.List.{list_any}
use Rattle.std.proofs.lemmas.Bool.{or_parts}
use Rattle.cpo_text.specs.declared.tree.Statement.{Statement}
use Rattle.cpo_text.specs.Words.{Word}
use Rattle.cpo_text.specs.Words.Word.{sign}
use Rattle.cpo_text.specs.Tokens.{Token}
use Rattle.cpo_text.specs.Runs.{runs, words_of}
use Rattle.cpo_text.specs.Spelling.{statement_body, spelling}
use Rattle.cpo_text.specs.lemmas.WordRuns.{words_of_runs, word_runs, before_words}
use Rattle.cpo_text.specs.lemmas.Free.{ends, IsFree}
use Rattle.cpo_text.specs.lemmas.Bodies.{body_free}

-- words up to the first semicolon are a run
first_run : (xs ws : List Word) → IsFree xs → word_runs (xs ++ sign (codes ";") ∷ ws) ≡ (xs ++ sign (codes ";") ∷ []) ∷ word_runs ws
first_run [] ws free = refl
first_run (x ∷ xs) ws free =
    let parts = or_parts (ends x) (list_any ends xs) free in
    rw parts.0 (ap (before_words x) (first_run xs ws parts.1))

statement_runs : (ss : List Statement) → word_runs (flat_map spelling ss) ≡ map spelling ss
statement_runs [] = refl
statement_runs (s ∷ ss) =
    ap word_runs (append_assoc (statement_body s) (sign (codes ";") ∷ []) (flat_map spelling ss))
    ∙ first_run (statement_body s) (flat_map spelling ss) (body_free s)
    ∙ ap (λ rs. spelling s ∷ rs) (statement_runs ss)

pub runs_spelt : (ts : List Token) (ss : List Statement) → words_of ts ≡ flat_map spelling ss → map words_of (runs ts) ≡ map spelling ss
runs_spelt ts ss said = words_of_runs ts ∙ ap word_runs said ∙ statement_runs ss
