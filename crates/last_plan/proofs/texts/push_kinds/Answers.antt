use Rattle.std.specs.Prelude.{codes}
use Rattle.last_plan.specs.Texts.{kind_line}
use Rattle.last_plan.proofs.Pushed.{five}
use Rattle.last_plan.proofs.texts.push_kinds.Goals as goal

pub returns : goal.returns
returns c =
    let n = c.args.counts.now in
    five _ _ _ _ _ _ (kind_line (codes "d") n.derived) (kind_line (codes "f") n.failed) (kind_line (codes "s") n.split) (kind_line (codes "v") n.solved) (kind_line (codes "restart") n.restarted) c.in_ok-push_line.ensures c.in_ok-push_line-2.ensures c.in_ok-push_line-3.ensures c.in_ok-push_line-4.ensures c.in_ok-push_line-5.ensures
