-- Where a quotation and a comment close: one turn of the loops that look for it.
use Rattle.std.proofs.Common.{◌≡◌, ℕ, suc, ◌+◌, ◌<◌, true, false, List, [], ◌∷◌, length, drop, option_map, Option, Some, None, refl, sym, ap, ◌∙◌, arith}
use Rattle.std.proofs.lemmas.List.{at_drop_more}
use Rattle.cpo_text.specs.Tokens.{begins}
use Rattle.cpo_text.specs.code.Lexing.{close_len}

moved : (i : ℕ) (o : Option ℕ) → option_map (λ n. i + n) (option_map suc o) ≡ option_map (λ n. (i + 1) + n) o
moved i None = refl
moved i (Some n) = ap Some (omega arith)

start : (o : Option ℕ) → option_map (λ n. 0 + n) o ≡ o
start None = refl
start (Some n) = ap Some (omega arith)

here : (bs : List ℕ) → begins 42 47 bs ≡ true → close_len bs ≡ Some 2
here [] is = cc
here (b ∷ bs) is = rw is refl

pub close_turn : (bs : List ℕ) (i d : ℕ) → i < length bs → begins 42 47 (drop i bs) ≡ false
    → option_map (λ n. i + n) (close_len (drop i bs)) ≡ option_map (λ n. (i + 1) + n) (close_len (drop (i + 1) bs))
close_turn bs i d within other =
    let e = at_drop_more (begins 42 47) bs i d within in
    ap (option_map (λ n. i + n)) (at_drop_more close_len bs i d within ∙ (rw (sym e ∙ other) refl)) ∙ moved i (close_len (drop (i + 1) bs))
