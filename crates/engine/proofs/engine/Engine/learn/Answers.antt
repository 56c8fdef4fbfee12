use Rattle.std.proofs.Common.{ap}
use Rattle.region.specs.code.Held.{Held}
use Rattle.kernel.specs.NoExtra.{is_valid, refutes_none}
use Rattle.kernel.specs.laws.NoExtra.{valid_lem}
use Rattle.kernel.specs.laws.Fits.{fit_derived}
use Rattle.engine.proofs.Leading.{led_one, broke_put, broke_failed, on_err}
use Rattle.engine.proofs.engine.Engine.learn.Goals as goal

pub put-requires-clause-fit : goal.put-requires-clause-fit
put-requires-clause-fit g c =
    fit_derived refutes_none is_valid valid_lem c.args.model.now c.args.best c.args.region.now.region c.args.g c.args.witness c.intervals.ensures.valid c.requires.of.region c.requires.derived

pub returns-in_err-put-clause-broke : goal.returns-in_err-put-clause-broke
returns-in_err-put-clause-broke g c =
    on_err _ _ (broke_failed g.L.Lines c.args.model.now c.args.best c.args.lines.now c.put.new.self c.args.region.now.region c.args.g c.args.witness c.in_err-put.ensures.broke c.requires.derived)

pub returns-in_err-cell-clause-broke : goal.returns-in_err-cell-clause-broke
returns-in_err-cell-clause-broke g c =
    on_err _ _ (broke_put g.L.Lines c.args.model.now c.args.best c.args.lines.now c.put.new.self c.args.region.now.region c.learn.new.self.region c.args.g c.args.witness
    c.in_ok-put.ensures.ok (ap (λ (h : Held). h.region) c.in_err-cell.ensures.err) c.requires.derived)

pub returns-clause-learnt : goal.returns-clause-learnt
returns-clause-learnt g c =
    led_one g.L.Lines c.args.model.now c.args.best c.args.lines.now c.put.new.self c.args.region.now.region c.learn.new.self.region c.args.g c.args.witness
    c.in_ok-put.ensures.ok (ap (λ (h : Held). h.region) c.in_ok-cell.ensures.ok) c.requires.derived
