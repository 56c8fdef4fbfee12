use Rattle.prop_unary.specs.code.Silence.{AreSilentWhere}
use Rattle.prop_unary.specs.code.Circles.{EachOf, EachBetween}
use Rattle.prop_unary.proofs.pairs.ask_places.Given as goal

abbrev pub invariant-loop-k : goal.invariant-loop-k
invariant-loop-k l = EachBetween (λ a. EachOf (AreSilentWhere l.view.model.now l.view.region.now.region l.view.best l.d l.order a) l.members) l.members l.from l.k
