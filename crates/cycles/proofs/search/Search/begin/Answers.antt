use Rattle.std.proofs.Common.{rules, ◌≡◌, ℕ, length, [], ◌∷◌, ◌++◌, subst, arith}
use Rattle.cycles.specs.code.Search.{IsSearch, IsShort}
use Rattle.cycles.specs.laws.Beginning.{begun_more, begun_search, begun_short}
use Rattle.cycles.proofs.search.Search.begin.Goals as goal

pub loop-v-preserved : goal.loop-v-preserved
loop-v-preserved c =
    let ns : c.push.new.self.items ≡ c.loop-v.self-inside.nodes.items ++ c.root.result ∷ [] = search rules in
    let ls : c.push-in-loop-v.new.self.items ≡ c.loop-v.self-inside.last.items ++ c.loop-v.v ∷ [] = search rules in
    rw (ns, ls) (begun_more c.loop-v.self-inside.nodes.items c.loop-v.self-inside.last.items c.loop-v.v c.root.result c.root.ensures.point c.root.ensures.len c.root.ensures.lower c.root.ensures.upper c.loop-v.invariant)

pub returns-clause-search : goal.returns-clause-search
returns-clause-search c arcs =
    let at_end : c.loop-v.v ≡ length c.args.first.now = omega (arith, c.loop-v-test.false, c.loop-v.auto.v-end) in
    subst (λ (n : ℕ). IsSearch arcs n (record { nodes = c.loop-v.self-inside.nodes.items; last = c.loop-v.self-inside.last.items })) at_end (begun_search c.loop-v.self-inside.nodes.items c.loop-v.self-inside.last.items c.loop-v.v c.loop-v.invariant arcs)

pub returns-clause-short : goal.returns-clause-short
returns-clause-short c =
    let at_end : c.loop-v.v ≡ length c.args.first.now = omega (arith, c.loop-v-test.false, c.loop-v.auto.v-end) in
    subst (λ (n : ℕ). IsShort n (record { nodes = c.loop-v.self-inside.nodes.items; last = c.loop-v.self-inside.last.items })) at_end (begun_short c.loop-v.self-inside.nodes.items c.loop-v.self-inside.last.items c.loop-v.v c.loop-v.invariant)
