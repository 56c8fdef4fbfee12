use Rattle.std.proofs.Common.{◌+◌, nat_le, sum_by, sym, ap, ◌∙◌}
use Rattle.sched_model.specs.Valid.{node_count, node_total}
use Rattle.cpo_elab.specs.Elaborated.{expr_of}
use Rattle.cpo_elab.specs.Judged.{leaves_room}
use Rattle.cpo_elab.proofs.limits.leaves_room.Goals as goal

pub returns-in-Aim : goal.returns-in-Aim
returns-in-Aim c =
    c.expr_fits.ensures ∙ (λ i. nat_le (node_total (c.draft-draft.ensures i) + node_count (expr_of (c.draft-draft.ensures i) c.in-Aim.e)) 100000)
    ∙ sym (ap (leaves_room c.args.stage.now) c.in-Aim.is)

pub returns-in-Rank : goal.returns-in-Rank
returns-in-Rank c =
    c.criteria_fit.ensures
    ∙ (λ i. nat_le (node_total (c.draft-draft.ensures i) + sum_by (λ e. node_count (expr_of (c.draft-draft.ensures i) e)) (c.as_slice-in-Rank.ensures i)) 100000)
    ∙ sym (ap (leaves_room c.args.stage.now) c.in-Rank.is)
