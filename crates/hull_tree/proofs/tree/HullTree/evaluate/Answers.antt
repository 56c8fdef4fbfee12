use Rattle.std.proofs.Common.{ap, sym}
use Rattle.hull_tree.proofs.Whole.{tree_kept}
use Rattle.hull_tree.proofs.tree.HullTree.evaluate.Goals as goal

pub returns-clause-kept : goal.returns-clause-kept
returns-clause-kept c = λ e h. tree_kept e c.args.self.now _ (ap (λ t. t.nodes) (sym c.self.view_is)) (ap (λ t. t.root) (sym c.self.view_is)) (ap (λ t. t.intervals) (sym c.self.view_is)) h
