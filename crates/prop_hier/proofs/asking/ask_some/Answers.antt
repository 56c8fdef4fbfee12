use Rattle.std.proofs.Common.{refl, rules}
use Rattle.prop_hier.proofs.Members.{busy_at, one_more}
use Rattle.prop_hier.proofs.asking.ask_some.Goals as goal

pub returns-in-Some-clause-busy : goal.returns-in-Some-clause-busy
returns-in-Some-clause-busy c =
    busy_at _ c.args.region.now.region c.args.xs.now c.args.family.now.parts.now c.args.family.now.a c.loop-k.k _ (record { 0 = 0 }) c.requires.members (search rules) refl c.in-Some.ensures.busy

pub loop-k-preserved : goal.loop-k-preserved
loop-k-preserved c =
    one_more _ c.args.region.now.region c.args.xs.now c.loop-k.k _ (record { 0 = 0 }) (search rules) refl c.loop-k.invariant c.in_default.ensures.none

pub loop-k-preserved-then-is_silent : goal.loop-k-preserved-then-is_silent
loop-k-preserved-then-is_silent c =
    one_more _ c.args.region.now.region c.args.xs.now c.loop-k.k _ (record { 0 = 0 }) (search rules) refl c.loop-k.invariant (c.is_silent.ensures c.if-is_silent.true)
