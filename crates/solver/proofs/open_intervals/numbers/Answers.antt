use Rattle.std.proofs.Common.{rules, ◌≡◌, ◌++◌, ◌∷◌, [], List, ℕ, length, ap, ◌∙◌, arith}
use Rattle.std.specs.List.{range_with_len}
use Rattle.solver.proofs.cutting.Sifting.{range_push}
use Rattle.solver.proofs.open_intervals.numbers.Goals as goal

pub loop-x-preserved : goal.loop-x-preserved
loop-x-preserved c = c.in_ok-push.ensures.items ∙ ap (λ (xs : List ℕ). xs ++ c.loop-x.x ∷ []) c.loop-x.invariant ∙ range_push c.loop-x.x

pub returns : goal.returns
returns c =
    let count : length c.intervals-n.result.now ≡ length c.args.model.now.intervals = search rules in
    c.loop-x.invariant ∙ ap (range_with_len 0) (omega (arith, c.loop-x-test.false, c.loop-x.auto.x-end, count))
