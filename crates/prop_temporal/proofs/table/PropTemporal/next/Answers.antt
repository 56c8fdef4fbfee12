use Rattle.std.proofs.Common.{◌≡◌, ◌-◌, rules, subst, sym}
use Rattle.std.specs.Prelude.{suc}
use Rattle.prop_temporal.specs.code.Tasks.{quiet}
use Rattle.prop_temporal.proofs.table.PropTemporal.next.Goals as goal

pub returns-in_default-clause-none : goal.returns-in_default-clause-none
returns-in_default-clause-none c =
    let same : suc (c.args.k - 1) ≡ c.args.k = search rules in
    subst (λ n. quiet c.args.model.now n c.args.region.now.region c.args.best) same c.in_default.ensures.none

pub returns-clause-busy : goal.returns-clause-busy
returns-clause-busy c =
    let same : suc (c.args.k - 1) ≡ c.args.k = search rules in
    λ still. c.in-Some.ensures.busy (subst (λ n. quiet c.args.model.now n c.args.region.now.region c.args.best) (sym same) still)
