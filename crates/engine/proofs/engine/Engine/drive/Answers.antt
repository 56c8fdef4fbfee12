use Rattle.std.proofs.Common.{rules, arith, refl, ap, ◌∙◌}
use Rattle.region.specs.code.Held.{Held}
use Rattle.engine.specs.Runs.{cap_at}
use Rattle.engine.specs.code.Engines.{AreQuiet}
use Rattle.engine.proofs.Leading.{led_none, led_more, broke_more, broke_led, ran_turn, ran_last, ran_capped, on_err}
use Rattle.engine.proofs.Counting.{few_lines, all_lines}
use Rattle.engine.proofs.engine.Engine.drive.Goals as goal

pub loop-put-init : goal.loop-put-init
loop-put-init g c = record {
  made = c.requires.made;
  of = c.requires.of;
  saved = refl;
  promised = refl;
  calm = c.requires.calm;
  ready = c.requires.ready;
  led = led_none g.L.Lines g.met.L.Lines.none c.args.model.now c.args.best c.args.lines.now c.args.region.now.region;
  few = omega arith;
  most = search rules;
}

pub loop-put-preserved : goal.loop-put-preserved
loop-put-preserved g c =
    let i = c.loop-put.invariant in
    let learnt = rw c.in_default.is at c.in_ok-stop.ensures.learnt in
    record {
      made = c.turn.ensures.made;
      of = c.turn.ensures.of;
      saved = c.turn.ensures.saved ∙ i.saved;
      promised = c.turn.ensures.promised ∙ i.promised;
      calm = c.in_ok-stop.ensures.calm;
      ready = g.met.L.Lines.stays_ready c.loop-put.lines c.turn.new.lines learnt.1.lines learnt.1.put i.ready;
      led = led_more g.L.Lines g.met.L.Lines.more c.args.model.now c.args.best c.loop-put.put 1 c.args.lines.now c.loop-put.lines c.turn.new.lines c.args.region.now.region c.loop-put.region.region c.turn.new.region.region i.led learnt.1;
      few = omega (arith, c.loop-put-test.true);
      most = i.most;
    }

pub returns-in_err-stop-clause-broke : goal.returns-in_err-stop-clause-broke
returns-in_err-stop-clause-broke g c =
    on_err _ _ (broke_more g.L.Lines g.met.L.Lines.more g.met.L.Lines.then_breaks c.args.model.now c.args.best c.loop-put.put (cap_at c.args.region.now.region) c.args.lines.now c.loop-put.lines c.turn.new.lines
    c.args.region.now.region c.loop-put.region.region c.turn.new.region.region c.loop-put.invariant.led (omega (arith, c.loop-put.invariant.most, c.loop-put-test.true)) c.in_err-stop.ensures.broke)

pub returns-in-Some-clause-ran : goal.returns-in-Some-clause-ran
returns-in-Some-clause-ran g c =
    let i = c.loop-put.invariant in
    let same = rw c.in-Some.is at c.in_ok-stop.ensures.same in
    ran_turn g.L.Lines (AreQuiet g.P.Propagator c.args.model.now c.turn.new.region.region c.args.best) c.args.model.now c.args.best c.loop-put.put c.args.lines.now c.loop-put.lines c.turn.new.lines
    c.args.region.now.region c.loop-put.region.region c.turn.new.region.region c.in-Some.stop i.led same.1 (ap (λ (h : Held). h.region) same.0)
    (few_lines c.args.model.now c.args.region.now.region c.loop-put.region.region c.loop-put.put _ c.requires.of.region i.of.region i.most c.loop-put-test.true)
    (rw c.in-Some.is at c.in_ok-stop.ensures.ends)

pub returns-then-not-settled-clause-ran : goal.returns-then-not-settled-clause-ran
returns-then-not-settled-clause-ran g c =
    let i = c.loop-put.invariant in
    ran_capped g.L.Lines (AreQuiet g.P.Propagator c.args.model.now c.loop-put.region.region c.args.best) c.args.model.now c.args.best c.loop-put.put c.args.lines.now c.loop-put.lines
    c.args.region.now.region c.loop-put.region.region i.led
    (all_lines c.args.model.now c.args.region.now.region c.loop-put.region.region c.loop-put.put _ c.requires.of.region i.of.region i.most (omega (arith, i.few, c.loop-put-test.false)))
    (search rules)

pub returns-in_err-close-clause-broke : goal.returns-in_err-close-clause-broke
returns-in_err-close-clause-broke g c =
    on_err _ _ (broke_led g.L.Lines c.args.model.now c.args.best c.loop-put.put (cap_at c.args.region.now.region) c.args.lines.now c.loop-put.lines c.args.region.now.region c.loop-put.region.region c.loop-put.invariant.led (omega (arith, c.loop-put.invariant.most, c.loop-put.invariant.few)))

pub returns-clause-ran : goal.returns-clause-ran
returns-clause-ran g c =
    let i = c.loop-put.invariant in
    ran_last g.L.Lines (AreQuiet g.P.Propagator c.args.model.now c.loop-put.region.region c.args.best) c.args.model.now c.args.best c.loop-put.put c.args.lines.now c.loop-put.lines
    c.args.region.now.region c.loop-put.region.region _ i.led
    (all_lines c.args.model.now c.args.region.now.region c.loop-put.region.region c.loop-put.put _ c.requires.of.region i.of.region i.most (omega (arith, i.few, c.loop-put-test.false)))
    (search rules) c.in_ok-close.ensures.ends
