use Rattle.std.proofs.Common.{◌≡◌, subst}
use Rattle.std.specs.Prelude.{IfOk}
use Rattle.sched_model.specs.Rank.{rank_within}
use Rattle.cpo_elab.proofs.holding.rank_of.Goals as goal

pub returns : goal.returns
returns c =
    subst (λ es. IfOk c.make_rank.result (λ o. o ≡ rank_within c.args.draft.now es)) c.in_ok-criteria.ensures
    (subst (λ m. IfOk c.make_rank.result (λ o. o ≡ rank_within m c.in_ok-criteria.criteria)) c.model.ensures.same c.make_rank.ensures)
