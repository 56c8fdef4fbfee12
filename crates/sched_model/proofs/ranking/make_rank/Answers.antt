use Rattle.std.proofs.Common.{◌∙◌, sym, ap, length, not, is_some}
use Rattle.sched_model.specs.declared.types.Expr.{roll-Expr}
use Rattle.sched_model.specs.declared.types.Expr.TheOpen.{Expr-F as expr}
use Rattle.sched_model.specs.code.Ranks.{weights_of, by_weights}
use Rattle.sched_model.proofs.Building.{rank_missing, weights_told, rank_made, rank_unbounded}
use Rattle.sched_model.proofs.ranking.make_rank.Goals as goal

pub returns-in_default : goal.returns-in_default
returns-in_default c = rank_missing c.args.model.now c.args.criteria ((rw c.in_default.is at c.in_ok-found.ensures) ∙ ap (weights_of c.args.model.now) c.as_slice.ensures)

pub weigh-requires : goal.weigh-requires
weigh-requires c =
    ap length c.as_slice-2.ensures.value
    ∙ (weights_told c.args.model.now c.args.criteria c.in-Some.found.items ((rw c.in-Some.is at c.in_ok-found.ensures) ∙ ap (weights_of c.args.model.now) c.as_slice.ensures)).long

pub returns-then-is_none : goal.returns-then-is_none
returns-then-is_none c = rank_unbounded c.args.model.now c.args.criteria c.in-Some.found.items c.in_ok-rank.rank
    ((rw c.in-Some.is at c.in_ok-found.ensures) ∙ ap (weights_of c.args.model.now) c.as_slice.ensures)
    (c.in_ok-rank.ensures ∙ ap (λ ws. roll-Expr (expr.Sum (by_weights ws c.args.criteria))) c.as_slice-2.ensures.value)
    (ap is_some (sym c.hull.ensures) ∙ c.is_none.ensures ∙ ap not c.if-is_none.true)

pub returns : goal.returns
returns c = rank_made c.args.model.now c.args.criteria c.in-Some.found.items c.in_ok-rank.rank
    ((rw c.in-Some.is at c.in_ok-found.ensures) ∙ ap (weights_of c.args.model.now) c.as_slice.ensures)
    (c.in_ok-rank.ensures ∙ ap (λ ws. roll-Expr (expr.Sum (by_weights ws c.args.criteria))) c.as_slice-2.ensures.value)
    (ap is_some (sym c.hull.ensures) ∙ c.is_none.ensures ∙ ap not c.if-is_none.false)
