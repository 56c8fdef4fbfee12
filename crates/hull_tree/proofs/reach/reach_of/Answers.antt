use Rattle.hull_tree.proofs.Reaching.{are_counted, none_counted, reach_counted}
use Rattle.hull_tree.proofs.reach.reach_of.Goals as goal

pub returns-then-n-eq0-clause-reach : goal.returns-then-n-eq0-clause-reach
returns-then-n-eq0-clause-reach c = λ i small there. absurd (none_counted c.args.atoms.now c.args.x c.count_below-i.result c.count_up_to-n.result i
    (are_counted c.args.atoms.now c.args.x c.key_at.result c.key_at-2.result c.count_below-i.result c.count_up_to-n.result c.requires c.key_at.ensures c.key_at-2.ensures c.count_below-i.ensures.point c.count_up_to-n.ensures.counted)
    c.if-n-eq0.true small there)

pub returns-clause-reach : goal.returns-clause-reach
returns-clause-reach c = reach_counted c.args.atoms.now c.args.x c.count_below-i.result c.count_up_to-n.result _ c.between.result
    (are_counted c.args.atoms.now c.args.x c.key_at.result c.key_at-2.result c.count_below-i.result c.count_up_to-n.result c.requires c.key_at.ensures c.key_at-2.ensures c.count_below-i.ensures.point c.count_up_to-n.ensures.counted)
    c.between.ensures.reach c.between.ensures.fits
