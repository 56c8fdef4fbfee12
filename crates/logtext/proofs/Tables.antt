-- The place of a word in a table.
use Rattle.std.proofs.Common.{◌≡◌, ℕ, ◌<◌, true, false, Bool, List, [], length, get_or, Option, Some, None, sym, arith}
use Rattle.std.proofs.lemmas.List.Quantifiers.{position-Some}
use Rattle.std.proofs.lemmas.Slice.Eq.{bytes_eq-Decides}
use Rattle.std.proofs.lemmas.List.Sums.{fails_before_first}
use Rattle.std.proofs.lemmas.Grind.{common_steps}
use Rattle.std.specs.List.{position, position_or_len}
use Rattle.std.specs.Str.{bytes_eq}
use Rattle.textline.specs.Lines.{Bytes}
use Rattle.logtext.specs.code.Reads.{FindsWord}

below_none : (p : Bytes → Bool) (ws : List Bytes) (k : ℕ) → position p ws ≡ None → k < length ws → k < position_or_len p ws
below_none p ws k e within = grind (arith, common_steps)

nowhere : (w : Bytes) (ws : List Bytes) (k : ℕ) → position (bytes_eq w) ws ≡ None → k < length ws → w ≡ get_or ws k [] → ⊥
nowhere w ws k e within same =
    let other : bytes_eq w (get_or ws k []) ≡ false = fails_before_first (bytes_eq w) ws k [] (below_none (bytes_eq w) ws k e within) in
    let here : bytes_eq w (get_or ws k []) ≡ true = (bytes_eq-Decides w (get_or ws k [])).1 same in cc

pub finds_word : (ws : List Bytes) (w : Bytes) (r : Option ℕ) → r ≡ position (bytes_eq w) ws → FindsWord ws w r
finds_word ws w (Some k) e = let found = position-Some (bytes_eq w) ws k [] (sym e) in (found.0, (bytes_eq-Decides w (get_or ws k [])).0 found.1)
finds_word ws w None e = λ k within same. nowhere w ws k (sym e) within same
