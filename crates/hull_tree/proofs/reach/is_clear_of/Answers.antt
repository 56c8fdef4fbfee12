use Rattle.std.proofs.Common.{rules}
use Rattle.hull_tree.proofs.Found.{denied}
use Rattle.hull_tree.proofs.Reaching.{clear_before, clear_behind}
use Rattle.hull_tree.proofs.reach.is_clear_of.Goals as goal

pub returns-then-span-reach : goal.returns-then-span-reach
returns-then-span-reach c = λ h. clear_before c.args.atoms.now c.args.reach c.args.span c.requires.reach (search rules) c.if-span-reach.true

pub returns-then-reach-span : goal.returns-then-reach-span
returns-then-reach-span c = λ h. clear_behind c.args.atoms.now c.args.reach c.args.span c.requires.reach (search rules) c.if-reach-span.true

pub returns : goal.returns
returns c = λ h. c.reaches.ensures (denied c.reaches.result h)
