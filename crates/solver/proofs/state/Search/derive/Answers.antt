use Rattle.std.proofs.Common.{sym, subst}
use Rattle.kernel.specs.code.Pending.{after_saved}
use Rattle.engine.specs.code.Engines.{IsCalm, AreQuiet}
use Rattle.engine.specs.declared.stops.EngineFault.TheVariants as fault
use Rattle.solver.specs.code.Faults.{passed_on}
use Rattle.solver.specs.declared.state.Search.{Search}
use Rattle.solver.specs.code.Searching.{QuietUnlessFailed, IsSpent, IsAtNode}
use Rattle.solver.proofs.logged.Deriving.{ArePlaces, err_is, derived_to, broke_stops, engine_causes, spent_by, derive_stops, node_with}
use Rattle.solver.proofs.logged.Ending.{settled_quiet}
use Rattle.solver.proofs.cutting.Fixing.{derives_keep}
use Rattle.solver.proofs.kept.Keeping.{derived_ready}
use Rattle.solver.proofs.state.Search.derive.Goals as goal

pub returns-in_err-run-clause-derived : goal.returns-in_err-run-clause-derived
returns-in_err-run-clause-derived g c =
    let laws = g.met.L.LogTo in
    let places : ArePlaces g.L.LogTo g.L.Lines = record { lifts = laws.lifts; lifts_broken = laws.lifts_broken; more = laws.writes_more; then_breaks = laws.then_cuts_off; stays_calm = laws.is_calm_still; same_faults = laws.has_same_faults } in
    let m = c.args.model.now in
    let s = c.args.self.now in
    let run = c.in_err-run.ensures in
    λ from plan less logged.
    derive_stops g.P.Propagator g.L.LogTo g.L.Lines m plan from c.run.new.lines (let t : Search g.row.P.Denot = record c.args.self.now { region = c.run.new.region; engine = c.run.new.self } in t) c.from_residual.result (passed_on c.in_err-run.field-0.0) c.from_residual.ensures.1 (
      broke_stops g.L.LogTo g.L.Lines places m plan from c.args.lines.now c.run.new.lines (after_saved s.region.saved s.pending) s.nodes s.found c.best-best.result s.region.region c.run.new.region.region
          c.intervals.ensures.valid c.requires.ready.holding.of.region (sym c.best-best.ensures) less logged run.broke,
      engine_causes g.L.LogTo g.L.Lines places m plan from c.args.lines.now c.run.new.lines 0 _ c.in_err-run.field-0.0 logged (λ is. run.fault (err_is c.in_err-run.field-0.0 fault.Lines is)),
    )

pub returns-clause-ready : goal.returns-clause-ready
returns-clause-ready g c =
    let run = c.in_ok-run.ensures in
    derived_ready g.P.Propagator c.args.model.now c.args.self.now c.run.new.region c.run.new.self c.requires.ready (derives_keep run.ran.led.derive) run.of run.saved run.promised run.made
    (subst (λ b. IsCalm g.P.Propagator c.args.model.now c.run.new.region.region b c.run.new.self) c.best-best.ensures run.calm)

pub returns-clause-settled : goal.returns-clause-settled
returns-clause-settled g c =
    let m = c.args.model.now in
    let r = c.run.new.region.region in
    let ran = c.in_ok-run.ensures.ran in
    λ settled. subst (λ b. QuietUnlessFailed (AreQuiet g.P.Propagator m r b) c.in_ok-run.field-0) c.best-best.ensures (settled_quiet _ ran.n m c.best-best.result r c.in_ok-run.field-0 ran.ends ran.counts settled)

pub returns-clause-derived : goal.returns-clause-derived
returns-clause-derived g c =
    let laws = g.met.L.LogTo in
    let places : ArePlaces g.L.LogTo g.L.Lines = record { lifts = laws.lifts; lifts_broken = laws.lifts_broken; more = laws.writes_more; then_breaks = laws.then_cuts_off; stays_calm = laws.is_calm_still; same_faults = laws.has_same_faults } in
    let m = c.args.model.now in
    let s = c.args.self.now in
    let q = c.run.new.region in
    let run = c.in_ok-run.ensures in
    λ from plan less logged. (
      run.ran.n,
      subst (λ rs. IsAtNode g.L.LogTo m plan from c.run.new.lines (node_with q.region (after_saved rs s.pending) s.nodes s.found) run.ran.n) (sym run.saved)
          (derived_to g.L.LogTo g.L.Lines places m plan from c.args.lines.now c.run.new.lines (after_saved s.region.saved s.pending) s.nodes s.found c.best-best.result run.ran.n s.region.region q.region c.in_ok-run.field-0
          c.intervals.ensures.valid c.requires.ready.holding.of.region run.of.region (sym c.best-best.ensures) less logged run.ran.led run.ran.counts),
      subst (λ b. IsSpent (AreQuiet g.P.Propagator m q.region b) run.ran.n q.region c.in_ok-run.field-0) c.best-best.ensures
          (spent_by _ run.ran.n m c.best-best.result q.region c.in_ok-run.field-0 run.ran.ends run.ran.counts),
    )
