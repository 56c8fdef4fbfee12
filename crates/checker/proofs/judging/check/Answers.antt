use Rattle.std.proofs.Common.{◌≡◌, Err, sym, subst, rules}
use Rattle.checker.specs.Checking.{Accepts, Checks}
use Rattle.checker.specs.code.Faults.{fault_of}
use Rattle.checker.specs.lemmas.Replayed.{falls_short, tells}
use Rattle.checker.proofs.judging.check.Goals as goal

pub returns-in_err-kernel-clause-checks : goal.returns-in_err-kernel-clause-checks
returns-in_err-kernel-clause-checks g c =
    let is : c.from_residual.result ≡ Err (fault_of c.in_err-kernel.field-0.0) = search rules in
    subst (λ r. Checks c.args.model.now r (g.D.Desk.state c.args.desk.now) (g.D.Desk.state c.replay.new.desk)) (sym is)
    (falls_short Accepts _ _ _ c.args.model.now c.in_err-kernel.field-0.0 (g.D.Desk.state c.args.desk.now) (g.D.Desk.state c.replay.new.desk) c.in_err-kernel.ensures.replays)

pub returns-clause-checks : goal.returns-clause-checks
returns-clause-checks g c =
    tells Accepts _ _ _ c.args.model.now c.in_ok-kernel.kernel (record { verdict = c.verdict.result; nodes = c.nodes.result }) (g.D.Desk.state c.args.desk.now) (g.D.Desk.state c.replay.new.desk)
    (λ bytes whole. record { version = whole.version; lines = whole.replayed.lines; suits = whole.suits; state = c.in_ok-kernel.kernel; log = whole.replayed.log; text = whole.text; verdict = c.verdict.ensures.value; nodes = c.nodes.ensures }) c.in_ok-kernel.ensures.replays
