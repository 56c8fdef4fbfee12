use Rattle.std.proofs.Common.{◌≡◌, ◌<◌, ◌+◌, ◌-◌, suc, ◌∙◌, None, length, ap, rules, arith}
use Rattle.std.proofs.lemmas.List.{get_or_default}
use Rattle.prop_basic.specs.code.Tables.{tree_at}
use Rattle.prop_basic.proofs.Watching.{watched_objective, watched_size, watched_constraint}
use Rattle.prop_basic.proofs.table.PropBasic.watched.Goals as goal

pub returns-then-k-eq0 : goal.returns-then-k-eq0
returns-then-k-eq0 c = λ m for_it cell h. watched_objective m c.args.self.now c.args.k c.named.result.now c.self.inside.objective c.if-k-eq0.true c.named.ensures (ap (λ t. t.objective) c.self.view_is) for_it cell h

pub returns-then-i-n : goal.returns-then-i-n
returns-then-i-n c = λ m for_it cell h. watched_size m c.args.self.now c.args.k _ _ c.deref.result.now c.if-k-eq0.false (c.deref.ensures.value ∙ ap (λ t. t.intervals) c.self.view_is) (omega arith) (omega arith) (omega arith) for_it cell h

pub returns : goal.returns
returns c = λ m for_it cell h.
    let n : c.len-n.result ≡ length c.args.self.now.intervals = search rules in
    let size : length c.self.inside.trees.items ≡ length m.constraints = ap (λ t. length t.trees) c.self.view_is ∙ for_it.trees.size in
    let own = c.requires.1 in
    let within : c.args.k < suc (length m.intervals + length m.constraints) = omega (arith, c.requires.2, own.intervals.size, own.trees.size, for_it.intervals.size, for_it.trees.size) in
    let i = c.args.k - 1 - c.len-n.result in
    let at : c.index.result.now ≡ tree_at c.args.self.now.trees i =
    c.index.ensures ∙ get_or_default c.self.inside.trees.items i c.index.result.now None (omega (arith, size, within, n, for_it.intervals.size, c.if-i-n.false)) ∙ ap (λ t. tree_at t.trees i) c.self.view_is in
    watched_constraint m c.args.self.now c.args.k c.len-n.result c.named-2.result.now c.index.result.now c.if-k-eq0.false n c.if-i-n.false within c.named-2.ensures at for_it cell h
