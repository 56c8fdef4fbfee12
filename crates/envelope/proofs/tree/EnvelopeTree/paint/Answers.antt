use Rattle.std.proofs.Common.{◌≡◌, ◌+◌, arith, rules, sym, ap, subst, ◌<◌, ◌∙◌, length, length-set}
use Rattle.std.specs.Prelude.{slice_set}
use Rattle.envelope.specs.code.Bars.{Bars, bar_at}
use Rattle.envelope.specs.code.Nodes.{leaf_node}
use Rattle.envelope.specs.code.Trees.{node_at, AreSmall, IsTree}
use Rattle.envelope.proofs.Writes.{JoinBut, joins_leaf, whole, painted, leaf_is, paint_small}
use Rattle.envelope.proofs.tree.EnvelopeTree.paint.Goals as goal

pub refresh-requires-clause-small : goal.refresh-requires-clause-small
refresh-requires-clause-small c =
    let t : Bars = record { bars = c.self.inside.bars.items; capacity = c.self.inside.capacity; on = c.self.inside.on.items } in
    let made : c.leaf.result ≡ leaf_node c.self.inside.capacity c.index.result.now c.args.on = search rules in
    let is = leaf_is t c.args.k c.args.on c.index.result.now c.leaf.result (search rules) c.index.ensures made in
    subst AreSmall (sym c.deref_mut.ensures.value) (paint_small t c.self.inside.width c.self.inside.nodes.items c.args.k c.args.on c.leaf.result c.self.invariant (search rules) is)

pub refresh-requires-clause-joins : goal.refresh-requires-clause-joins
refresh-requires-clause-joins c =
    let tree : IsTree _ c.self.inside.width c.self.inside.nodes.items = c.self.invariant in
    subst (JoinBut (c.self.inside.width + c.args.k)) (sym c.deref_mut.ensures.value)
    (joins_leaf c.self.inside.nodes.items c.self.inside.width (c.self.inside.width + c.args.k) c.leaf.result tree.size (omega arith) tree.joins)

pub invariant_of-self : goal.invariant_of-self
invariant_of-self c =
    let t : Bars = record { bars = c.self.inside.bars.items; capacity = c.self.inside.capacity; on = c.self.inside.on.items } in
    let ns = c.self.inside.nodes.items in
    let at = c.self.inside.width + c.args.k in
    let new = c.refresh.new.nodes in
    let within : c.args.k < length t.bars = search rules in
    let made : c.leaf.result ≡ leaf_node c.self.inside.capacity c.index.result.now c.args.on = search rules in
    let is = leaf_is t c.args.k c.args.on c.index.result.now c.leaf.result within c.index.ensures made in
    let written : c.deref_mut.result.now ≡ slice_set ns at (leaf_node t.capacity (bar_at t c.args.k) c.args.on) = c.deref_mut.ensures.value ∙ ap (slice_set ns at) is in
    let same_length : length c.deref_mut.result.now ≡ length ns = ap length c.deref_mut.ensures.value ∙ length-set ns at c.leaf.result in
    let kept : length new ≡ length c.deref_mut.result.now = search rules in
    let all : c.self.inside.nodes.len ≡ length new = omega (arith, kept, c.deref_mut.ensures.len) in
    subst (IsTree (record { bars = t.bars; capacity = t.capacity; on = slice_set t.on c.args.k c.args.on }) c.self.inside.width) (sym (whole c.self.inside.nodes.len new _ all))
    (painted t c.self.inside.width ns new c.args.k c.args.on c.self.invariant within (kept ∙ same_length)
    (λ j low. c.refresh.ensures.leaves j (omega (arith, low, same_length)) ∙ ap (λ xs. node_at xs j) written)
    (λ j some high. c.refresh.ensures.joins j some (omega (arith, high, same_length)))
    c.refresh.ensures.small)
