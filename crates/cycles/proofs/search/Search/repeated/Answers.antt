use Rattle.std.proofs.Common.{rules, ◌≡◌, ◌≤◌, get_or, sym, subst, arith}
use Rattle.std.specs.Prelude.{slice_set}
use Rattle.cycles.specs.declared.node.Node.{Node}
use Rattle.cycles.specs.code.Search.{node_at}
use Rattle.cycles.specs.code.Ways.{IsMarked}
use Rattle.cycles.specs.laws.Marking.{marked_more, marked_end}
use Rattle.cycles.proofs.search.Search.repeated.Goals as goal

pub returns-then-y-n-clause-none : goal.returns-then-y-n-clause-none
returns-then-y-n-clause-none c =
    let same : c.node-node.result ≡ node_at c.args.self.now.nodes c.loop-node.y = search rules in
    let none : get_or c.loop-node.seen.items c.node-node.result.point 0 ≡ 0 = search rules in
    marked_end c.args.arcs.now c.args.n c.args.self.now c.args.k c.loop-node.seen.items c.loop-node.y c.requires.of (search rules) (subst (λ (y : Node). get_or c.loop-node.seen.items y.point 0 ≡ 0) same none) c.loop-node.invariant

pub loop-node-preserved : goal.loop-node-preserved
loop-node-preserved c =
    let same : c.node-node.result ≡ node_at c.args.self.now.nodes c.loop-node.y = search rules in
    let none : get_or c.loop-node.seen.items c.node-node.result.point 0 ≡ 0 = search rules in
    let some : c.args.n ≤ c.loop-node.y = omega (arith, c.if-y-n.false) in
    subst (λ (y : Node). IsMarked c.args.self.now.nodes c.args.n c.args.k (slice_set c.loop-node.seen.items y.point c.loop-node.y) y.next) (sym same)
    (marked_more c.args.arcs.now c.args.n c.args.self.now c.args.k c.loop-node.seen.items c.loop-node.y c.requires.of some (omega (arith, some, c.requires.of.points c.loop-node.y c.loop-node.invariant.within))
    (subst (λ (y : Node). get_or c.loop-node.seen.items y.point 0 ≡ 0) same none) c.loop-node.invariant)
