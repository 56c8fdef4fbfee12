use Rattle.prop_unary.specs.code.Heard.{AreHeard}
use Rattle.prop_unary.proofs.heard.heard_of.Given as goal

abbrev pub invariant-loop-k : goal.invariant-loop-k
invariant-loop-k l = AreHeard l.model l.region.region l.d l.first.member l.members l.k l.heard
