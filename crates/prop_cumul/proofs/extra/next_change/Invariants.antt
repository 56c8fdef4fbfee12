use Rattle.prop_cumul.proofs.Raising.{FirstStill}
use Rattle.prop_cumul.proofs.extra.next_change.Given as goal

abbrev pub invariant-loop-part : goal.invariant-loop-part
invariant-loop-part l = FirstStill l.plain.region l.under.region l.below l.parts l.part-index l.a l.to l.n
