use Rattle.std.proofs.Common.{◌≡◌, Err, sym, subst, rules}
use Rattle.checker.specs.Checking.{ChecksBy}
use Rattle.checker.specs.code.Faults.{fault_of}
use Rattle.checker.specs.lemmas.Replayed.{falls_short, tells}
use Rattle.bound_report.specs.Bounds.{ShowsBound}
use Rattle.bound_report.specs.laws.Holds.{bound_means}
use Rattle.bound_report.proofs.bounding.bound.Goals as goal

pub returns-in_err-kernel-clause-bounds : goal.returns-in_err-kernel-clause-bounds
returns-in_err-kernel-clause-bounds g c =
    let is : c.from_residual.result ≡ Err (fault_of c.in_err-kernel.field-0.0) = search rules in
    subst (λ r. ChecksBy ShowsBound c.args.model.now r (g.D.Desk.state c.args.desk.now) (g.D.Desk.state c.replay.new.desk)) (sym is)
    (falls_short ShowsBound _ _ _ c.args.model.now c.in_err-kernel.field-0.0 (g.D.Desk.state c.args.desk.now) (g.D.Desk.state c.replay.new.desk) c.in_err-kernel.ensures.replays)

pub returns-clause-bounds : goal.returns-clause-bounds
returns-clause-bounds g c =
    tells ShowsBound _ _ _ c.args.model.now c.in_ok-kernel.kernel (record { bound = c.bound_of.result; best = c.best-best.result; nodes = c.nodes-nodes.result }) (g.D.Desk.state c.args.desk.now) (g.D.Desk.state c.replay.new.desk)
    (λ bytes whole. record { version = whole.version; lines = whole.replayed.lines; suits = whole.suits; state = c.in_ok-kernel.kernel; log = whole.replayed.log; text = whole.text; bound = c.bound_of.ensures; best = c.best-best.ensures; nodes = c.nodes-nodes.ensures }) c.in_ok-kernel.ensures.replays

pub returns-clause-means : goal.returns-clause-means
returns-clause-means g c = bound_means c.args.model.now c.in_ok-kernel.kernel (record { bound = c.bound_of.result; best = c.best-best.result; nodes = c.nodes-nodes.result }) c.in_ok-kernel.ensures.ready c.bound_of.ensures c.best-best.ensures
