use Rattle.std.proofs.Common.{◌≡◌, ◌+◌, sym, subst, ◌∙◌}
use Rattle.cpo_elab.specs.code.Judging.{written_in}
use Rattle.cpo_elab.proofs.judging.Ordered.{early_decides}
use Rattle.cpo_elab.proofs.judge.judgement_in.Goals as goal

pub returns-in-Some : goal.returns-in-Some
returns-in-Some c = early_decides c.args.stage.now (c.args.before + 1) c.args.s.now c.in-Some.number (sym c.in-Some.is ∙ c.in_ok-number.ensures)

pub judgement_of-requires : goal.judgement_of-requires
judgement_of-requires c = subst (λ m. c.in_ok-written-in-None.written ≡ written_in m c.args.s.now) c.draft.ensures c.in_ok-written-in-None.ensures
