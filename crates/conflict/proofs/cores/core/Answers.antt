use Rattle.std.proofs.Common.{◌≡◌, Err, false, length, sym, subst, ◌∙◌, rules}
use Rattle.std.specs.Prelude.{replicate}
use Rattle.std.proofs.lemmas.Bool.{true≢false}
use Rattle.sched_model.specs.declared.types.Verdict.TheVariants.{Infeasible}
use Rattle.kernel.specs.Steps.{verdict_of}
use Rattle.checker.specs.Checking.{ChecksBy}
use Rattle.checker.specs.code.Faults.{fault_of}
use Rattle.checker.specs.lemmas.Replayed.{falls_short, tells}
use Rattle.conflict.specs.Core.{ShowsCore}
use Rattle.conflict.specs.laws.Cores.{noting, shows_core, shows_other, cant_all_hold, few_marks, lists_used}
use Rattle.conflict.proofs.cores.core.Goals as goal

pub returns-in_err-kernel-clause-cores : goal.returns-in_err-kernel-clause-cores
returns-in_err-kernel-clause-cores g c =
    let is : c.from_residual-in_err-kernel.result ≡ Err (fault_of c.in_err-kernel.field-0.0) = search rules in
    subst (λ r. ChecksBy ShowsCore c.args.model.now r (g.D.Desk.state c.args.desk.now) (g.D.Desk.state c.replay.new.desk)) (sym is)
    (falls_short ShowsCore noting _ _ c.args.model.now c.in_err-kernel.field-0.0 (g.D.Desk.state c.args.desk.now) (g.D.Desk.state c.replay.new.desk) c.in_err-kernel.ensures.replays)

pub returns-then-not-shows_none-clause-cores : goal.returns-then-not-shows_none-clause-cores
returns-then-not-shows_none-clause-cores g c =
    tells ShowsCore noting _ _ c.args.model.now c.in_ok-kernel.kernel _ (g.D.Desk.state c.args.desk.now) (g.D.Desk.state c.replay.new.desk)
    (λ bytes whole. shows_other c.args.model.now bytes c.in_ok-kernel.kernel _ _ (λ is. true≢false (sym (c.shows_none.ensures.1 (c.verdict.ensures.value ∙ is)) ∙ search rules)) whole) c.in_ok-kernel.ensures.replays

pub listed-requires : goal.listed-requires
listed-requires g c =
    let none : c.in_ok-used.used ≡ replicate (length c.args.model.now.constraints) false = search rules in
    few_marks c.args.model.now c.in_ok-kernel.kernel _ _ none c.constraints.ensures.valid c.in_ok-kernel.ensures.replays.replayed

pub returns-clause-cores : goal.returns-clause-cores
returns-clause-cores g c =
    let none : c.in_ok-used.used ≡ replicate (length c.args.model.now.constraints) false = search rules in
    let infeasible : verdict_of c.in_ok-kernel.kernel ≡ Infeasible = search rules in
    tells ShowsCore noting _ _ c.args.model.now c.in_ok-kernel.kernel _ (g.D.Desk.state c.args.desk.now) (g.D.Desk.state c.replay.new.desk)
    (λ bytes whole. shows_core c.args.model.now bytes c.in_ok-kernel.kernel _ _ c.in_ok-listed.field-0 none c.in_ok-listed.ensures infeasible whole) c.in_ok-kernel.ensures.replays

pub returns-clause-rises : goal.returns-clause-rises
returns-clause-rises g c =
    let none : c.in_ok-used.used ≡ replicate (length c.args.model.now.constraints) false = search rules in
    (lists_used c.args.model.now c.in_ok-kernel.kernel _ _ c.in_ok-listed.field-0 none c.in_ok-listed.ensures c.in_ok-kernel.ensures.replays.replayed).rises

pub returns-clause-means : goal.returns-clause-means
returns-clause-means g c =
    let none : c.in_ok-used.used ≡ replicate (length c.args.model.now.constraints) false = search rules in
    let infeasible : verdict_of c.in_ok-kernel.kernel ≡ Infeasible = search rules in
    cant_all_hold c.args.model.now c.in_ok-kernel.kernel _ _ c.in_ok-listed.field-0 none c.in_ok-listed.ensures infeasible c.constraints.ensures.valid c.uses_enough.ensures.leaves c.uses_enough.ensures.core c.in_ok-kernel.ensures.replays.replayed
