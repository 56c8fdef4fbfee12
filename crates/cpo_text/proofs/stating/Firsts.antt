-- The first run of some tokens, and a statement read at its beginning.
use Rattle.std.proofs.Common.{◌≡◌, ℕ, ◌+◌, ◌*◌, ◌<◌, ◌≤◌, Bool, true, false, cond, List, [], ◌∷◌, ◌++◌, length, Option, Some, None, refl, sym, ap, ◌∙◌, arith, append_assoc, length-append}
use Rattle.std.specs.Prelude.{codes}
use Rattle.std.proofs.lemmas.Bool.{or_parts}
use Rattle.std.specs.List.{list_any}
use Rattle.cpo_text.specs.Words.{Word}
use Rattle.cpo_text.specs.Words.Word.{sign}
use Rattle.cpo_text.specs.Tokens.{Token}
use Rattle.cpo_text.specs.Runs.{is_end, before_runs, runs, words_of, offset}
use Rattle.cpo_text.specs.code.Surveys.{first_run, after_run}
use Rattle.cpo_text.specs.Spelling.{statement_body, spelling, IsStatement}
use Rattle.cpo_text.specs.code.Statements.{statement_at}
use Rattle.cpo_text.specs.Reads.{IsGrammatical}
use Rattle.cpo_text.specs.declared.tree.Statement.{Statement}
use Rattle.cpo_text.proofs.stating.Spells.{statement_takes}
use Rattle.cpo_text.proofs.stating.Rereads.{statement_again}
use Rattle.cpo_text.specs.lemmas.Free.{ends, IsFree}
use Rattle.cpo_text.specs.lemmas.Bodies.{body_free}

-- runs

pub runs_first : (t : Token) (ts : List Token) → runs (t ∷ ts) ≡ first_run (t ∷ ts) ∷ runs (after_run (t ∷ ts))
runs_first t [] = decided (is_end t)
  where
    decided : (b : Bool) → cond b ((t ∷ []) ∷ []) (before_runs t []) ≡ cond b (t ∷ []) (t ∷ []) ∷ runs (cond b [] [])
    decided true = refl
    decided false = refl
runs_first t (u ∷ us) = decided (is_end t) (runs_first u us)
  where
    decided : (b : Bool) → runs (u ∷ us) ≡ first_run (u ∷ us) ∷ runs (after_run (u ∷ us))
        → cond b ((t ∷ []) ∷ runs (u ∷ us)) (before_runs t (runs (u ∷ us))) ≡ cond b (t ∷ []) (t ∷ first_run (u ∷ us)) ∷ runs (cond b (u ∷ us) (after_run (u ∷ us)))
    decided true h = refl
    decided false h = rw h refl

pub offset_first : (t : Token) (ts : List Token) → offset (first_run (t ∷ ts)) ≡ t.at
offset_first t ts = decided (is_end t)
  where
    decided : (b : Bool) → offset (cond b (t ∷ []) (t ∷ first_run ts)) ≡ t.at
    decided true = refl
    decided false = refl

fewer : (ts : List Token) → length (after_run ts) ≤ length ts
fewer [] = omega arith
fewer (t ∷ ts) = decided (is_end t) (fewer ts)
  where
    decided : (b : Bool) → length (after_run ts) ≤ length ts → length (cond b ts (after_run ts)) ≤ length (t ∷ ts)
    decided true h = omega arith
    decided false h = omega arith

pub after_fewer : (t : Token) (ts : List Token) → length (after_run (t ∷ ts)) < length (t ∷ ts)
after_fewer t ts = decided (is_end t) (fewer ts)
  where
    decided : (b : Bool) → length (after_run ts) ≤ length ts → length (cond b ts (after_run ts)) < length (t ∷ ts)
    decided true h = omega arith
    decided false h = omega arith

joined_runs : (ts : List Token) → words_of ts ≡ words_of (first_run ts) ++ words_of (after_run ts)
joined_runs [] = refl
joined_runs (t ∷ ts) = decided (is_end t) (joined_runs ts)
  where
    decided : (b : Bool) → words_of ts ≡ words_of (first_run ts) ++ words_of (after_run ts) → words_of (t ∷ ts) ≡ words_of (cond b (t ∷ []) (t ∷ first_run ts)) ++ words_of (cond b ts (after_run ts))
    decided true h = refl
    decided false h = ap (λ ws. t.word ∷ ws) h

-- a statement in front of some words is their first run
first_words : (ts : List Token) (body rest : List Word) → IsFree body → words_of ts ≡ body ++ sign (codes ";") ∷ rest → words_of (first_run ts) ≡ body ++ sign (codes ";") ∷ []
first_words [] [] rest free h = cc
first_words [] (w ∷ ws) rest free h = cc
first_words (t ∷ ts) [] rest free h =
    let is : t.word ≡ sign (codes ";") = cc in
    let end : is_end t ≡ true = rw is refl in
    rw end (ap (λ w. w ∷ []) is)
first_words (t ∷ ts) (w ∷ ws) rest free h =
    let is : t.word ≡ w = cc in
    let more : words_of ts ≡ ws ++ sign (codes ";") ∷ rest = cc in
    let parts = or_parts (ends w) (list_any ends ws) free in
    let other : is_end t ≡ false = rw is parts.0 in
    let after : words_of (first_run ts) ≡ ws ++ sign (codes ";") ∷ [] = first_words ts ws rest parts.1 more in
    rw other (rw is (ap (λ xs. w ∷ xs) after))

pub read_statement : (f : ℕ) (ts : List Token) (s : Statement) (rest : List Word) → statement_at f (words_of ts) ≡ Some (s, rest) → IsStatement (words_of (first_run ts)) s
read_statement f ts s rest h =
    let t = statement_takes f (words_of ts) s rest h in
    record { formed = t.0; spelt = first_words ts (statement_body s) rest (body_free s) (t.1 ∙ append_assoc (statement_body s) (sign (codes ";") ∷ []) rest) }

words_length : (ts : List Token) → length (words_of ts) ≡ length ts
words_length [] = refl
words_length (t ∷ ts) = let more = words_length ts in omega arith

none_some : (s : Statement) (rest : List Word) → ◌≡◌ {A = Option (Statement × List Word)} None (Some (s, rest)) → ⊥
none_some s rest h = cc

pub no_statement : (f : ℕ) (ts : List Token) → 20 * length ts + 11 ≤ f → statement_at f (words_of ts) ≡ None → IsGrammatical (words_of (first_run ts)) → ⊥
no_statement f ts big h (s, is) =
    let whole : words_of ts ≡ spelling s ++ words_of (after_run ts) = joined_runs ts ∙ ap (λ xs. xs ++ words_of (after_run ts)) is.spelt in
    let all = words_length ts in
    let size = ap length whole ∙ length-append (spelling s) (words_of (after_run ts)) in
    let found = statement_again f s (words_of (after_run ts)) is.formed (omega arith) in
    none_some s (words_of (after_run ts)) (sym h ∙ ap (statement_at f) whole ∙ found)
