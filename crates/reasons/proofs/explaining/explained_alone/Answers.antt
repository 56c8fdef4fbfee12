use Rattle.std.proofs.Common.{None, sym, subst}
use Rattle.reasons.specs.Runs.{HoldsText}
use Rattle.reasons.proofs.Told.{alone_told, not_fetched}
use Rattle.reasons.proofs.explaining.explained_alone.Goals as goal

pub returns-in-Err-clause-tried : goal.returns-in-Err-clause-tried
returns-in-Err-clause-tried g c = not_fetched c.args.name.now None c.in-Err.stop (g.D.Desk.state c.args.desk.now) (g.D.Desk.state c.fetch.new.desk) c.in-Err.ensures.fetches

pub returns-in-Ok-read_model-clause-tried : goal.returns-in-Ok-read_model-clause-tried
returns-in-Ok-read_model-clause-tried g c =
    let old = g.D.Desk.state c.args.desk.now in
    alone_told c.args.name.now c.as_slice.result.now c.in-Ok-read_model.model c.of_right.result old (g.D.Desk.state c.fetch.new.desk)
    c.in-Ok.ensures.fetches.0 (subst (λ t. HoldsText c.args.name.now t old) (sym c.as_slice.ensures) c.in-Ok.ensures.fetches.1) c.in-Ok-read_model.ensures c.of_right.ensures
