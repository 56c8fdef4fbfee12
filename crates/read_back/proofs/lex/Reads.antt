-- A text that says the words of some statements is read as these.
use Rattle.std.proofs.Common.{◌≡◌, ◌≤◌, List, length, sym, subst, arith}
use Rattle.std.specs.Prelude.{flat_map}
use Rattle.std.proofs.lemmas.List.{take_all}
use Rattle.cpo_text.specs.declared.text.Tree.{Tree}
use Rattle.cpo_text.specs.Tokens.{Token}
use Rattle.cpo_text.specs.Runs.{runs}
use Rattle.cpo_text.specs.Spelling.{spelling}
use Rattle.cpo_text.specs.Reads.{AreReadings, told_limit, told}
use Rattle.cpo_elab.specs.Judged.{statement_limit}
use Rattle.read_back.specs.Laws.{SaidIsRead}
use Rattle.read_back.proofs.lex.Tokens.{tokens_said}
use Rattle.read_back.proofs.lex.Words.{said_known}
use Rattle.read_back.proofs.lex.Runs.{runs_spelt}
use Rattle.read_back.proofs.lex.Forms.{readings, are_readings, are_forms, as_many}

all_told : (rs : List (List Token)) → length rs ≤ statement_limit → told rs ≡ rs
unfolding told
all_told rs few = take_all told_limit rs (omega arith)

pub said_is_read : SaidIsRead
said_is_read text ss says formed shallow short few =
    let t = tokens_said text (flat_map spelling ss) says in
    let same = runs_spelt t.tokens ss t.said in
    let xs = readings (runs t.tokens) ss in
    let count = as_many (runs t.tokens) ss same in
    let tree : Tree = record { statements = xs } in (
      tree,
      record {
        short = short;
        tokens = t.tokens;
        are = t.are;
        readings = subst (λ rs. AreReadings rs xs) (sym (all_told (runs t.tokens) (omega arith))) (are_readings (runs t.tokens) ss same formed shallow (said_known text (flat_map spelling ss) says));
      },
      are_forms (runs t.tokens) ss same,
    )
