use Rattle.std.proofs.Common.{refl, subst, ◌∙◌, inl}
use Rattle.given_files.specs.Told.{Reports}
use Rattle.last_plan.proofs.report.end_refused.Goals as goal

pub returns-in-Ok : goal.returns-in-Ok
returns-in-Ok g c =
    let before = g.D.Desk.state c.args.desk.now in
    let after = g.D.Desk.state c.report.new.desk in
    inl (refl, subst (λ t. Reports t before after) (c.as_slice.ensures.value ∙ c.in-Ok.ensures) c.report.ensures)
