use Rattle.std.proofs.Common.{subst, sym, List}
use Rattle.std.specs.Prelude.{IfNone}
use Rattle.sched_base.specs.declared.ids.Itv.{Itv}
use Rattle.prop_sets.specs.code.Reordered.{IsReordered}
use Rattle.prop_sets.specs.code.Sides.{IsSideQuiet}
use Rattle.prop_sets.proofs.Making.{still_of}
use Rattle.prop_sets.proofs.table.ask_members.Goals as goal

pub returns-clause-none : goal.returns-clause-none
returns-clause-none c =
    still_of c.args.later c.args.view.now.model.now c.args.p c.args.view.now.region.now.region c.few_members-members.result.now c.deref.result.now c.deref-3.result.now c.few_members-members.ensures.members
    (subst (λ (zs : List Itv). IsReordered c.few_members-members.result.now zs) (sym c.deref.ensures.value) c.in_ok-by_start.ensures.moved) (subst (λ (zs : List Itv). IsReordered c.few_members-members.result.now zs) (sym c.deref-3.ensures.value) c.in_ok-by_start-2.ensures.moved)
    (subst (λ o. IfNone o (IsSideQuiet c.args.later 0 c.args.view.now.region.now.region c.deref.result.now)) c.in_default-2.is c.in_ok-found-2.ensures.none)
    (subst (λ o. IfNone o (IsSideQuiet c.args.later 1 c.args.view.now.region.now.region c.deref-3.result.now)) c.in_default-2.is c.in_ok-found-2.ensures.none_turned)
