use Rattle.std.proofs.Common.{◌+◌, sym, ap, ◌∙◌}
use Rattle.std.proofs.lemmas.List.{at_drop_all}
use Rattle.cpo_elab.specs.NamedFirst.{named_first}
use Rattle.cpo_elab.specs.Answers.{judged}
use Rattle.cpo_elab.specs.Answers.Answer.{Accepted}
use Rattle.cpo_elab.proofs.judging.Stepped.{rest_shaped, rest_judged}
use Rattle.cpo_elab.proofs.whole.judged.Goals as goal

pub returns : goal.returns
returns c =
    let done = rw c.as_slice-reading-items.ensures at c.loop-reading-test.false in
    sym c.loop-reading.invariant.same
    ∙ at_drop_all (judged c.loop-reading.so_far.stage (c.loop-reading.so_far.statements + 1)) c.args.tree.now.statements c.loop-reading.reading-index done
    ∙ ap (λ m. Accepted (named_first m)) (sym c.into_model.ensures)
    ∙ ap (λ m. Accepted m) (sym c.in_ok-named_first.ensures)

pub loop-reading-preserved : goal.loop-reading-preserved
loop-reading-preserved c =
    let within = rw c.as_slice-reading-items.ensures at c.loop-reading-test.true in
    let at_place = rw c.as_slice-reading-items.ensures at c.reading-item.is in
    record {
      shaped = rest_shaped c.args.tree.now.statements c.loop-reading.reading-index c.reading-item.result within at_place c.loop-reading.invariant.shaped;
      same = rest_judged c.args.tree.now.statements c.loop-reading.reading-index c.reading-item.result c.loop-reading.so_far c.in_ok-so_far.so_far _ within at_place c.in_ok-so_far.ensures c.loop-reading.invariant.same;
    }
