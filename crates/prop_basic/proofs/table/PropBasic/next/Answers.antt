use Rattle.std.proofs.Common.{◌≡◌, ◌∙◌, length, rules}
use Rattle.prop_basic.proofs.Asked.{none_by, some_by, none_at, busy_at, obj_is, size_is, expr_is}
use Rattle.prop_basic.proofs.table.PropBasic.next.Goals as goal

pub returns-then-k-eq0-clause-busy : goal.returns-then-k-eq0-clause-busy
returns-then-k-eq0-clause-busy c = some_by c.ask_objective.result (λ f busy. busy_at c.args.model.now c.args.k c.args.region.now.region c.args.best _ (obj_is c.args.model.now c.args.k c.if-k-eq0.true) c.requires.below busy) c.ask_objective.ensures.busy

pub returns-then-k-n-clause-busy : goal.returns-then-k-n-clause-busy
returns-then-k-n-clause-busy c =
    let n : c.len-n.result ≡ length c.args.self.now.intervals = search rules in
    some_by c.ask_size.result (λ f busy. busy_at c.args.model.now c.args.k c.args.region.now.region c.args.best _ (size_is c.args.model.now c.args.k c.len-n.result c.if-k-eq0.false (n ∙ c.requires.of.intervals.size) c.if-k-n.true) c.requires.below busy) c.ask_size.ensures.busy

pub returns-clause-none : goal.returns-clause-none
returns-clause-none c =
    let n : c.len-n.result ≡ length c.args.self.now.intervals = search rules in
    none_by c.ask_constraint.result (none_at c.args.model.now c.args.k c.args.region.now.region c.args.best _ (expr_is c.args.model.now c.args.k c.len-n.result c.if-k-eq0.false (n ∙ c.requires.of.intervals.size) c.if-k-n.false)) c.ask_constraint.ensures.none

pub returns-clause-busy : goal.returns-clause-busy
returns-clause-busy c =
    let n : c.len-n.result ≡ length c.args.self.now.intervals = search rules in
    some_by c.ask_constraint.result (λ f busy. busy_at c.args.model.now c.args.k c.args.region.now.region c.args.best _ (expr_is c.args.model.now c.args.k c.len-n.result c.if-k-eq0.false (n ∙ c.requires.of.intervals.size) c.if-k-n.false) c.requires.below busy) c.ask_constraint.ensures.busy
