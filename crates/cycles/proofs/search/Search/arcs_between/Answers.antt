use Rattle.std.proofs.Common.{rules, ◌≡◌, ℕ, List, [], ◌∷◌, ◌++◌, sym, subst, ap, ◌∙◌, arith}
use Rattle.std.proofs.lemmas.List.{length_push}
use Rattle.cycles.specs.declared.node.Node.{Node}
use Rattle.cycles.specs.code.Walks.{IsGain}
use Rattle.cycles.specs.code.Search.{node_at}
use Rattle.cycles.specs.code.Ways.{IsRead, IsReading}
use Rattle.cycles.specs.laws.Looping.{read_more, reads_on, read_gains}
use Rattle.cycles.proofs.search.Search.arcs_between.Goals as goal

pub returns-then-y-to : goal.returns-then-y-to
returns-then-y-to c =
    let same : c.node-node.result ≡ node_at c.args.self.now.nodes c.loop-walk.y = search rules in
    let grown : c.push.new.self ≡ c.loop-walk.walk ++ c.node-node.result.via ∷ [] = search rules in
    let last : c.node-node.result.next ≡ c.args.to = search rules in
    let read : IsRead c.args.arcs.now c.args.self.now.nodes c.args.from (c.loop-walk.walk ++ c.node-node.result.via ∷ []) c.node-node.result.next =
    subst (λ (y : Node). IsRead c.args.arcs.now c.args.self.now.nodes c.args.from (c.loop-walk.walk ++ y.via ∷ []) y.next) (sym same)
    (read_more c.args.arcs.now c.args.n c.args.self.now c.args.from c.args.to c.loop-walk.walk c.loop-walk.y c.requires.of c.loop-walk.invariant) in
    subst (λ (walk : List ℕ). IsGain c.args.arcs.now c.args.n walk) (sym grown)
    (read_gains c.args.arcs.now c.args.n c.args.self.now c.args.from c.args.to (c.loop-walk.walk ++ c.node-node.result.via ∷ []) c.requires.of c.requires.between
    (omega (arith, length_push c.loop-walk.walk c.node-node.result.via)) (subst (λ (k : ℕ). IsRead c.args.arcs.now c.args.self.now.nodes c.args.from (c.loop-walk.walk ++ c.node-node.result.via ∷ []) k) last read))

pub loop-walk-preserved : goal.loop-walk-preserved
loop-walk-preserved c =
    let same : c.node-node.result ≡ node_at c.args.self.now.nodes c.loop-walk.y = search rules in
    let grown : c.push.new.self ≡ c.loop-walk.walk ++ c.node-node.result.via ∷ [] = search rules in
    let other : c.node-node.result.next ≡ c.args.to → ⊥ = search rules in
    subst (λ (walk : List ℕ). IsReading c.args.arcs.now c.args.self.now.nodes c.args.n c.args.from c.args.to walk c.node-node.result.next) (sym grown)
    (subst (λ (y : Node). IsReading c.args.arcs.now c.args.self.now.nodes c.args.n c.args.from c.args.to (c.loop-walk.walk ++ y.via ∷ []) y.next) (sym same)
    (reads_on c.args.arcs.now c.args.n c.args.self.now c.args.from c.args.to c.loop-walk.walk c.loop-walk.y c.requires.of (λ e. other (ap (λ (y : Node). y.next) same ∙ e)) c.loop-walk.invariant))
