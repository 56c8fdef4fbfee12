-- How far a log has been read.
use Rattle.std.proofs.Common.{◌≡◌, ℕ, ◌+◌, ◌-◌, ◌≤◌, true, List, [], ◌∷◌, ◌++◌, length, take, drop, Ok, refl, sym, ap, subst, ◌∙◌, arith, append_assoc, length-append, length-drop}
use Rattle.std.proofs.lemmas.List.{take-append-drop, take-append-le, drop-drop, drop-append-le}
use Rattle.std.proofs.lemmas.List.Elements.{All-nil}
use Rattle.std.proofs.lemmas.List.Folds.{list_all-append}
use Rattle.sched_model.specs.Data.{Data}
use Rattle.textline.specs.Lines.{Bytes}
use Rattle.kernel.specs.Steps.{LogState, opening}
use Rattle.kernel.specs.Steps.Steps.{done}
use Rattle.logtext.specs.declared.entry.Entry.{Entry}
use Rattle.logtext.specs.declared.entry.Entry.TheVariants.{Head, Step}
use Rattle.logtext.specs.Spelling.{head_text, line_text, lines_text}
use Rattle.logtext.specs.Entries.{entry_text}
use Rattle.replay.proofs.Spelt.{Spelt}
use Rattle.replay.proofs.Logs.{plain_step, log_more, step_nodes}
use Rattle.logtext.specs.Reading.{IsLineAt}
use Rattle.logtext.specs.declared.version.Version.{Version}
use Rattle.logtext.specs.Logs.{IsLog, MayHold, may_hold}
use Rattle.kernel.specs.declared.types.Line.{Line}
use Rattle.region.specs.Looks.{Refuting}
use Rattle.std.specs.Prelude.{ℤ, Bool}

-- the lines in front of a place lead to this state, and the next line has this number
pub record Reached {W : Type 0} (refutes : Refuting W) (numbers : W → List ℤ) (valid : W → Bool) (m : Data) (bytes : Bytes) (place line : ℕ) (s : LogState) : Type 0 where
  pub version : Version
  pub lines : List (Line W)
  pub may : MayHold version lines
  pub log : IsLog refutes numbers valid m lines s
  pub text : bytes ≡ head_text version ++ (lines_text numbers lines ++ drop place bytes)
  pub number : line ≡ length lines + 2
  pub within : place ≤ length bytes
  pub few : length lines ≤ place
  pub nodes : s.nodes ≤ length lines

module _ {W : Type 0} (refutes : Refuting W) (numbers : W → List ℤ) (valid : W → Bool) where
  abbrev IsEntryAt : Bytes → ℕ → ℕ → Entry W → Type 0
  IsEntryAt bytes from to e = IsLineAt numbers valid bytes from to e

  abbrev pub plain_entry : Entry W → Bytes
  plain_entry e = entry_text numbers e

  -- the line that stands at a place, and what is behind it
  pub line_apart : (bytes : Bytes) (from to : ℕ) (e : Entry W) → IsEntryAt bytes from to e → drop from bytes ≡ plain_entry e ++ drop to bytes
  line_apart bytes from to e at =
      let place : from + (to - from) ≡ to = omega (arith, at.further) in
      sym (take-append-drop (to - from) (drop from bytes)) ∙ ap (λ t. t ++ drop (to - from) (drop from bytes)) at.spells.text_is ∙ ap (λ t. plain_entry e ++ t) (drop-drop (to - from) from bytes ∙ ap (λ n. drop n bytes) place)

  pub entry_spelt : (bytes : Bytes) (from to : ℕ) (e : Entry W) → IsEntryAt bytes from to e → Spelt numbers valid (plain_entry e) e
  entry_spelt bytes from to e at = subst (λ t. Spelt numbers valid t e) at.spells.text_is at.spells

  unfoldable pub reached_head : (m : Data) (bytes : Bytes) (to : ℕ) (version : Version) → IsEntryAt bytes 0 to (Head version) → Reached refutes numbers valid m bytes to 2 (opening m)
  reached_head m bytes to version at = record {
    version = version;
    lines = [];
    may = refl;
    log = record { each = All-nil _; steps = done };
    text = line_apart bytes 0 to (Head version) at;
    number = refl;
    within = at.within;
    few = omega arith;
    nodes = omega arith;
  }

  unfoldable pub reached_more : (m : Data) (bytes : Bytes) (place to line : ℕ) (s t : LogState) (l : Line W) (so_far : Reached refutes numbers valid m bytes place line s) → IsEntryAt bytes place to (Step l) → may_hold so_far.version l ≡ true → plain_step refutes numbers valid m l s ≡ Ok t
      → Reached refutes numbers valid m bytes to (line + 1) t
  reached_more m bytes place to line s t l so_far at holds goes = record {
    version = so_far.version;
    lines = so_far.lines ++ l ∷ [];
    may = list_all-append (may_hold so_far.version) so_far.lines (l ∷ []) ∙ rw (so_far.may, holds) refl;
    log = log_more refutes numbers valid m so_far.lines l s t so_far.log (entry_spelt bytes place to (Step l) at) goes;
    text = so_far.text ∙ ap (λ r. head_text so_far.version ++ r) (ap (λ r. lines_text numbers so_far.lines ++ r) (line_apart bytes place to (Step l) at) ∙ sym (lines_more so_far.lines l (drop to bytes)));
    number = omega (arith, so_far.number, length-append so_far.lines (l ∷ []));
    within = at.within;
    few = omega (arith, so_far.few, at.further, length-append so_far.lines (l ∷ []));
    nodes = omega (arith, so_far.nodes, (step_nodes refutes numbers valid) m l s t goes, length-append so_far.lines (l ∷ []));
  }
    where
      lines_more : (ls : List (Line W)) (l : Line W) (rest : Bytes) → lines_text numbers (ls ++ l ∷ []) ++ rest ≡ lines_text numbers ls ++ (line_text numbers l ++ rest)
      lines_more [] l rest = append_assoc (line_text numbers l) [] rest
      lines_more (k ∷ ks) l rest = append_assoc (line_text numbers k) (lines_text numbers (ks ++ l ∷ [])) rest ∙ ap (λ r. line_text numbers k ++ r) (lines_more ks l rest) ∙ sym (append_assoc (line_text numbers k) (lines_text numbers ks) (line_text numbers l ++ rest))

  -- the same where more is read

  unfoldable pub reached_longer : (m : Data) (fed more : Bytes) (place line : ℕ) (s : LogState) → Reached refutes numbers valid m fed place line s → Reached refutes numbers valid m (fed ++ more) place line s
  reached_longer m fed more place line s so_far = record {
    version = so_far.version;
    lines = so_far.lines;
    may = so_far.may;
    log = so_far.log;
    text =
        ap (λ t. t ++ more) so_far.text ∙ append_assoc (head_text so_far.version) (lines_text numbers so_far.lines ++ drop place fed) more
        ∙ ap (λ r. head_text so_far.version ++ r) (append_assoc (lines_text numbers so_far.lines) (drop place fed) more ∙ ap (λ r. lines_text numbers so_far.lines ++ r) (sym (drop-append-le place fed more so_far.within)));
    number = so_far.number;
    within = omega (arith, so_far.within, length-append fed more);
    few = so_far.few;
    nodes = so_far.nodes;
  }

  pub entry_longer : (fed more : Bytes) (from to : ℕ) (e : Entry W) → IsEntryAt fed from to e → IsEntryAt (fed ++ more) from to e
  entry_longer fed more from to e at =
      let within : from ≤ length fed = omega (arith, at.further, at.within) in
      let short : to - from ≤ length (drop from fed) = omega (arith, at.within, length-drop from fed) in
      record {
        further = at.further;
        within = omega (arith, at.within, length-append fed more);
        spells = subst (λ t. Spelt numbers valid t e) (sym (ap (take (to - from)) (drop-append-le from fed more within) ∙ take-append-le (to - from) (drop from fed) more short)) at.spells;
      }
