use Rattle.std.proofs.Common.{refl, sym, ap, subst, true≢false}
use Rattle.kernel.specs.Steps.{LogState}
use Rattle.restart_rules.specs.code.Stretches.{begun_anew}
use Rattle.solver.specs.declared.fault.SolveFault.TheVariants.{Fault, NoMemory}
use Rattle.solver.specs.code.Searching.{between, behind_in, IsLogged}
use Rattle.solver.proofs.logged.Anew.{anew_break, anew_stops, anew_to}
use Rattle.solver.proofs.logged.Deriving.{ArePlaces, causes_from}
use Rattle.solver.proofs.state.Search.begin_anew.Goals as goal

pub returns-in_err-write-clause-logged : goal.returns-in_err-write-clause-logged
returns-in_err-write-clause-logged g c =
    let laws = g.met.L.LogTo in
    let places : ArePlaces g.L.LogTo g.L.Lines = record { lifts = laws.lifts; lifts_broken = laws.lifts_broken; more = laws.writes_more; then_breaks = laws.then_cuts_off; stays_calm = laws.is_calm_still; same_faults = laws.has_same_faults } in
    let m = c.args.model.now in
    let s = c.args.self.now in
    λ from plan few over logged.
    anew_stops g.L.LogTo g.L.Lines m (begun_anew plan) from c.write.new.self s c.from_residual.result Fault c.from_residual.ensures.1 (
      anew_break g.L.LogTo g.L.Lines places m plan from c.args.lines.now c.write.new.self s.region.region (behind_in s) s.nodes s.found few over logged c.in_err-write.ensures.broke,
      causes_from g.L.LogTo g.L.Lines places m plan from c.args.lines.now c.write.new.self 0 _ logged (c.in_err-write.ensures.rose, λ calm. true≢false (sym (c.in_err-write.ensures.calm calm))),
    )

pub returns-in_err-restart-clause-logged : goal.returns-in_err-restart-clause-logged
returns-in_err-restart-clause-logged g c =
    let laws = g.met.L.LogTo in
    let places : ArePlaces g.L.LogTo g.L.Lines = record { lifts = laws.lifts; lifts_broken = laws.lifts_broken; more = laws.writes_more; then_breaks = laws.then_cuts_off; stays_calm = laws.is_calm_still; same_faults = laws.has_same_faults } in
    let m = c.args.model.now in
    let s = c.args.self.now in
    λ from plan few over logged.
    anew_stops g.L.LogTo g.L.Lines m (begun_anew plan) from c.write.new.self c.restart.new.self c.from_residual-in_err-restart.result NoMemory c.from_residual-in_err-restart.ensures.1
    (between refl (anew_to g.L.LogTo g.L.Lines places m plan from c.args.lines.now c.write.new.self s.region.region (behind_in s) s.nodes s.found few over logged c.in_ok-write.ensures.ok), tt)

pub returns-clause-nodes : goal.returns-clause-nodes
returns-clause-nodes g c = ap (λ (t : LogState). t.nodes) c.in_ok-restart.ensures.state

pub returns-clause-logged : goal.returns-clause-logged
returns-clause-logged g c =
    let laws = g.met.L.LogTo in
    let places : ArePlaces g.L.LogTo g.L.Lines = record { lifts = laws.lifts; lifts_broken = laws.lifts_broken; more = laws.writes_more; then_breaks = laws.then_cuts_off; stays_calm = laws.is_calm_still; same_faults = laws.has_same_faults } in
    let m = c.args.model.now in
    let s = c.args.self.now in
    λ from plan few over logged.
    subst (λ t. IsLogged g.L.LogTo m (begun_anew plan) from c.write.new.self 0 t) (sym c.in_ok-restart.ensures.state)
    (anew_to g.L.LogTo g.L.Lines places m plan from c.args.lines.now c.write.new.self s.region.region (behind_in s) s.nodes s.found few over logged c.in_ok-write.ensures.ok)
