use Rattle.std.proofs.Common.{Some, subst}
use Rattle.cpo_elab.specs.Answers.Answer.{Accepted}
use Rattle.cpo_elab.specs.Deserves.{Deserves}
use Rattle.given_files.specs.laws.Within.{model_tested, schedule_tested}
use Rattle.reasons.specs.code.Tries.{Tested}
use Rattle.reasons.proofs.Told.{both_told, not_fetched}
use Rattle.reasons.proofs.explaining.explained_with.Goals as goal

pub returns-in-Err-clause-tried : goal.returns-in-Err-clause-tried
returns-in-Err-clause-tried g c = not_fetched c.args.name.now (Some c.args.schedule.now) c.in-Err.stop (g.D.Desk.state c.args.desk.now) (g.D.Desk.state c.fetch.new.desk) c.in-Err.ensures.fetches

pub returns-in-Ok-read_model-clause-tried : goal.returns-in-Ok-read_model-clause-tried
returns-in-Ok-read_model-clause-tried g c =
    let read = g.D.Desk.state c.fetch.new.desk in
    let last = g.D.Desk.state c.tested-told.new.desk in
    both_told c.args.name.now c.args.schedule.now c.in-Ok.bytes c.in-Ok-read_model.model c.tested-told.result (g.D.Desk.state c.args.desk.now) read last c.in-Ok.ensures.only
    c.in-Ok.ensures.fetches.0 c.in-Ok.ensures.fetches.1 (subst (λ t. Deserves t (Accepted c.in-Ok-read_model.model)) c.as_slice.ensures c.in-Ok-read_model.ensures)
    (subst (λ t. Tested c.in-Ok-read_model.model t c.args.schedule.now c.tested-told.result read last) c.as_slice-in-Ok-read_model.ensures c.tested-told.ensures.tested)

pub returns-in-Ok-read_model-clause-model : goal.returns-in-Ok-read_model-clause-model
returns-in-Ok-read_model-clause-model g c =
    model_tested c.args.name.now (g.D.Desk.state c.args.desk.now) (g.D.Desk.state c.fetch.new.desk) (g.D.Desk.state c.tested-told.new.desk) c.in-Ok.ensures.within c.tested-told.ensures.only

pub returns-in-Ok-read_model-clause-schedule : goal.returns-in-Ok-read_model-clause-schedule
returns-in-Ok-read_model-clause-schedule g c =
    schedule_tested c.args.schedule.now (g.D.Desk.state c.args.desk.now) (g.D.Desk.state c.fetch.new.desk) (g.D.Desk.state c.tested-told.new.desk) c.in-Ok.ensures.only c.tested-told.ensures.within
