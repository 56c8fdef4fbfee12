use Rattle.std.proofs.Common.{◌≡◌, ◌+◌, true, drop}
use Rattle.cpo_elab.specs.Stages.{empty_stage}
use Rattle.cpo_elab.specs.Answers.{judged}
use Rattle.cpo_elab.specs.Shaped.{are_shaped}
use Rattle.cpo_elab.proofs.whole.judged.Given as goal

abbrev pub invariant-loop-reading : goal.invariant-loop-reading
invariant-loop-reading l = record {
  shaped : are_shaped (drop l.reading-index l.tree.statements) ≡ true;
  same : judged l.so_far.stage (l.so_far.statements + 1) (drop l.reading-index l.tree.statements) ≡ judged empty_stage 1 l.tree.statements;
}
