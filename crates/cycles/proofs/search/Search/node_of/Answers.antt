use Rattle.std.proofs.Common.{rules, ◌≡◌, ◌+◌, ◌<◌, ◌≤ℤ◌, ◌^◌, pos, neg_ℤ, length, subst}
use Rattle.cycles.specs.declared.node.Node.{Node}
use Rattle.cycles.specs.code.Search.{last_of, node_at}
use Rattle.cycles.specs.laws.Reads.{len_enough, low_enough, high_enough}
use Rattle.cycles.proofs.search.Search.node_of.Goals as goal

pub returns-clause-lower : goal.returns-clause-lower
returns-clause-lower c =
    let same : node_at c.args.self.now.nodes (last_of c.args.self.now c.args.v) ≡ c.node.result = search rules in
    let size : length c.args.self.now.last < 2 ^ 63 = search rules in
    subst (λ (y : Node). neg_ℤ (pos (2 ^ 126)) ≤ℤ y.value) same (low_enough _ _ _ _ c.requires.of.of c.requires.of.short c.requires.of.below size)

pub returns-clause-upper : goal.returns-clause-upper
returns-clause-upper c =
    let same : node_at c.args.self.now.nodes (last_of c.args.self.now c.args.v) ≡ c.node.result = search rules in
    let size : length c.args.self.now.last < 2 ^ 63 = search rules in
    subst (λ (y : Node). y.value ≤ℤ pos (2 ^ 126)) same (high_enough _ _ _ _ c.requires.of.of c.requires.of.short c.requires.of.below size)

pub returns-clause-len : goal.returns-clause-len
returns-clause-len c =
    let same : node_at c.args.self.now.nodes (last_of c.args.self.now c.args.v) ≡ c.node.result = search rules in
    let size : length c.args.self.now.last < 2 ^ 63 = search rules in
    subst (λ (y : Node). y.len + 1 < 2 ^ 64) same (len_enough _ _ _ _ c.requires.of.of c.requires.of.short c.requires.of.below size)
