-- Nodes that are counted range by range.
use Rattle.std.specs.Prelude.{◌≡◌, ℕ, ◌+◌, ◌<◌, ◌≤◌, List, length, drop}
use Rattle.std.proofs.Common.{get_or, sym, ap, ◌∙◌, arith}
use Rattle.std.proofs.lemmas.List.{at_drop_more, at_drop_all}
use Rattle.std.proofs.lemmas.List.Sums.{sum_by-cons}
use Rattle.calendar.specs.declared.step.Pair.{Pair}
use Rattle.calendar.specs.declared.rules.Demand.{Demand}
use Rattle.calendar.specs.code.Counts.{rule_nodes, made_nodes}

pub count_turn : (demand : Demand) (rs : List Pair) (i n total total' : ℕ) (r : Pair) → total + made_nodes demand (drop i rs) ≡ n → i < length rs → r ≡ get_or rs i r → total' ≡ total + rule_nodes demand r → total' + made_nodes demand (drop (i + 1) rs) ≡ n
count_turn demand rs i n total total' r before within at_i is =
    let turn = at_drop_more (made_nodes demand) rs i r within ∙ sum_by-cons (rule_nodes demand) (get_or rs i r) (drop (i + 1) rs) ∙ ap (λ x. rule_nodes demand x + made_nodes demand (drop (i + 1) rs)) (sym at_i) in
    omega (arith, before, is, turn)

pub count_end : (demand : Demand) (rs : List Pair) (i n total : ℕ) → total + made_nodes demand (drop i rs) ≡ n → length rs ≤ i → total ≡ n
count_end demand rs i n total before done = let end = at_drop_all (made_nodes demand) rs i done in omega (arith, before, end)
