use Rattle.std.proofs.Common.{◌∙◌, sym, ap, arith}
use Rattle.sched_model.specs.declared.types.IntervalDef.{IntervalDef}
use Rattle.read_schedule.proofs.spelling.Names.{not_there, one_more_name, all_named}
use Rattle.read_schedule.proofs.index.index_all.Goals as goal

pub push-requires : goal.push-requires
push-requires c = not_there c.args.defs.now c.loop-i.i c.index-defs-i.result c.loop-i.index c.in_ok-name.name.items c.requires.distinct (omega (arith, c.loop-i-test.true)) c.index-defs-i.is c.loop-i.invariant (c.in_ok-name.ensures ∙ c.as_slice.ensures ∙ ap (λ (x : IntervalDef). x.name) (sym c.index-defs-i.is))

pub loop-i-preserved : goal.loop-i-preserved
loop-i-preserved c = one_more_name c.args.defs.now c.loop-i.i c.index-defs-i.result c.loop-i.index c.push.new.self c.in_ok-name.name.items (omega (arith, c.loop-i-test.true)) c.index-defs-i.is c.loop-i.invariant (c.in_ok-name.ensures ∙ c.as_slice.ensures ∙ ap (λ (x : IntervalDef). x.name) (sym c.index-defs-i.is)) c.in_ok-push.ensures

pub returns : goal.returns
returns c = all_named c.args.defs.now c.loop-i.i c.loop-i.index (omega (arith, c.loop-i-test.false)) c.loop-i.invariant
