use Rattle.std.proofs.Common.{◌≡◌, ◌∙◌, ap, rules, to_z, of_z, w64}
use Rattle.sched_model.specs.States.{first_behind}
use Rattle.sched_model.proofs.rows.Behind.{behind_point}
use Rattle.sched_model.proofs.states.first_behind.Goals as goal

pub returns : goal.returns
returns c = let same : to_z w64 (of_z w64 c.start_of.result) ≡ c.start_of.result = search rules in
    c.copied.ensures ∙ c.at.ensures ∙ behind_point c.args.is.now (to_z w64 (of_z w64 c.start_of.result)) c.count_ended.result c.count_ended.ensures
    ∙ ap (λ t. first_behind t c.args.is.now) (same ∙ c.start_of.ensures)
