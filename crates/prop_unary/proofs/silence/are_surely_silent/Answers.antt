use Rattle.std.proofs.Common.{rules}
use Rattle.region.specs.Cells.{bounds_of}
use Rattle.prop_unary.specs.code.Silence.{reach}
use Rattle.prop_unary.proofs.Noted.{orders_within}
use Rattle.prop_unary.proofs.silence.are_surely_silent.Goals as goal

pub returns : goal.returns
returns c = λ told.
    orders_within (bounds_of c.args.region.now.region c.args.first.member) (bounds_of c.args.region.now.region c.args.second.member) c.args.first.keys.front c.args.second.keys.back c.args.n (reach c.args.model.now c.args.d.now.p c.args.d.now.matrix c.args.first.member c.args.second.member) c.are_silent_orders.result
    c.requires.distance c.requires.first.0 c.requires.second.1 (search rules) told
