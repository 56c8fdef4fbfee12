use Rattle.std.proofs.Common.{◌≡◌, Ok, refl, sym, ap, subst, ◌∙◌, arith, true≢false}
use Rattle.kernel.specs.Steps.{best_of, step_at}
use Rattle.engine.specs.code.Engines.{AreQuiet}
use Rattle.logtext.specs.Lifted.{refutes_logged}
use Rattle.restart_rules.specs.code.Stretches.{with_closed}
use Rattle.solver.specs.declared.fault.SolveFault.TheVariants.{Fault, NoMemory}
use Rattle.solver.specs.declared.state.Search.{Search}
use Rattle.solver.specs.code.Searching.{Closes, between, is_failed, node_in, state_in}
use Rattle.solver.proofs.logged.Deriving.{ArePlaces, visit_stops, closed_to, closed_break, causes_from}
use Rattle.solver.proofs.logged.Ending.{closes_line, closes_ends, closes_well, closes_step, spent_well, full_well, quiet_split}
use Rattle.solver.proofs.state.Search.visit.Goals as goal

pub returns-in_err-stop-clause-logged : goal.returns-in_err-stop-clause-logged
returns-in_err-stop-clause-logged g c = λ from plan less logged.
    visit_stops g.L.LogTo g.L.Lines c.args.model.now (with_closed plan) from c.derive.new.lines c.derive.new.self c.from_residual.result c.in_err-stop.field-0.0 c.from_residual.ensures.1 (c.in_err-stop.ensures.derived from plan less logged)

pub returns-in_err-line-clause-logged : goal.returns-in_err-line-clause-logged
returns-in_err-line-clause-logged g c = λ from plan less logged.
    let derived = c.in_ok-stop.ensures.derived from plan less logged in
    visit_stops g.L.LogTo g.L.Lines c.args.model.now (with_closed plan) from c.derive.new.lines c.closing.new.self c.from_residual-in_err-line.result NoMemory c.from_residual-in_err-line.ensures.1 (between refl derived.1.logged, tt)

pub write-requires-clause-fit : goal.write-requires-clause-fit
write-requires-clause-fit g c =
    let s = c.derive.new.self in
    (closes_line c.args.model.now s.region.region (best_of s.found) (is_failed c.in_ok-stop.stop) c.in_ok-line.line c.intervals.ensures.valid c.in_ok-stop.ensures.ready.holding.of.region c.in_ok-line.ensures.line).fit

pub returns-in_err-write-clause-logged : goal.returns-in_err-write-clause-logged
returns-in_err-write-clause-logged g c =
    let laws = g.met.L.LogTo in
    let places : ArePlaces g.L.LogTo g.L.Lines = record { lifts = laws.lifts; lifts_broken = laws.lifts_broken; more = laws.writes_more; then_breaks = laws.then_cuts_off; stays_calm = laws.is_calm_still; same_faults = laws.has_same_faults } in
    let m = c.args.model.now in
    let s = c.derive.new.self in
    let r = s.region.region in
    let best = best_of s.found in
    let stop = c.in_ok-stop.stop in
    let line = c.in_ok-line.line in
    let of = c.in_ok-stop.ensures.ready.holding.of.region in
    let closes = c.in_ok-line.ensures.line in
    let step = closes_step m (node_in s) (is_failed stop) line c.in_ok-stop.ensures.ready.holding.valued closes in
    λ from plan less logged.
    let derived = c.in_ok-stop.ensures.derived from plan less logged in
    visit_stops g.L.LogTo g.L.Lines m (with_closed plan) from c.write.new.self c.closing.new.self c.from_residual-in_err-write.result Fault c.from_residual-in_err-write.ensures.1 (
      closed_break g.L.LogTo g.L.Lines places m plan from c.derive.new.lines c.write.new.self (node_in s) derived.0 line step.0 less.ongoing derived.1 c.in_err-write.ensures.broke
          (closes_line m r best (is_failed stop) line c.intervals.ensures.valid of closes)
          (closes_well m r best (is_failed stop) line derived.0 closes (spent_well m r best (AreQuiet g.P.Propagator m r best) derived.0 stop (c.requires.covers r best of) derived.2)
          (full_well m r (AreQuiet g.P.Propagator m r best) derived.0 stop line derived.2 c.in_ok-line.ensures.full))
          (closes_ends m r best (is_failed stop) line closes) step.1 (omega (arith, step.2, c.in_ok-stop.ensures.nodes, less.more)),
      causes_from g.L.LogTo g.L.Lines places m plan from c.derive.new.lines c.write.new.self derived.0 derived.1.state derived.1.logged (c.in_err-write.ensures.rose, λ calm. true≢false (sym (c.in_err-write.ensures.calm calm))),
    )

pub close-requires-clause-closes : goal.close-requires-clause-closes
close-requires-clause-closes g c =
    (is_failed c.in_ok-stop.stop, subst (λ (u : Search g.row.P.Denot). Closes c.args.model.now u.region.region (best_of u.found) (is_failed c.in_ok-stop.stop) c.in_ok-line.line) (sym c.in_ok-line.ensures.same) c.in_ok-line.ensures.line)

pub close-requires-clause-spent : goal.close-requires-clause-spent
close-requires-clause-spent g c = λ k is not.
    let m = c.args.model.now in
    let s = c.derive.new.self in
    subst (λ (u : Search g.row.P.Denot). AreQuiet g.P.Propagator m u.region.region (best_of u.found)) (sym c.in_ok-line.ensures.same)
    (quiet_split (AreQuiet g.P.Propagator m s.region.region (best_of s.found)) m s.region.region (best_of s.found) c.in_ok-stop.stop c.in_ok-line.line k c.in_ok-stop.ensures.stop c.in_ok-line.ensures.line is (sym c.is_capped-capped.ensures ∙ not))

pub returns-in_err-close-clause-logged : goal.returns-in_err-close-clause-logged
returns-in_err-close-clause-logged g c =
    let laws = g.met.L.LogTo in
    let places : ArePlaces g.L.LogTo g.L.Lines = record { lifts = laws.lifts; lifts_broken = laws.lifts_broken; more = laws.writes_more; then_breaks = laws.then_cuts_off; stays_calm = laws.is_calm_still; same_faults = laws.has_same_faults } in
    let m = c.args.model.now in
    let s = c.derive.new.self in
    let r = s.region.region in
    let best = best_of s.found in
    let stop = c.in_ok-stop.stop in
    let line = c.in_ok-line.line in
    let of = c.in_ok-stop.ensures.ready.holding.of.region in
    let closes = c.in_ok-line.ensures.line in
    let step = closes_step m (node_in s) (is_failed stop) line c.in_ok-stop.ensures.ready.holding.valued closes in
    λ from plan less logged.
    let derived = c.in_ok-stop.ensures.derived from plan less logged in
    visit_stops g.L.LogTo g.L.Lines m (with_closed plan) from c.write.new.self c.close.new.self c.from_residual-in_err-close.result NoMemory c.from_residual-in_err-close.ensures.1 (
      between refl (closed_to g.L.LogTo g.L.Lines places m plan from c.derive.new.lines c.write.new.self (node_in s) derived.0 line step.0 less.ongoing derived.1 c.in_ok-write.ensures.ok
          (closes_line m r best (is_failed stop) line c.intervals.ensures.valid of closes)
          (closes_well m r best (is_failed stop) line derived.0 closes (spent_well m r best (AreQuiet g.P.Propagator m r best) derived.0 stop (c.requires.covers r best of) derived.2)
          (full_well m r (AreQuiet g.P.Propagator m r best) derived.0 stop line derived.2 c.in_ok-line.ensures.full))
          (closes_ends m r best (is_failed stop) line closes) step.1 (omega (arith, step.2, c.in_ok-stop.ensures.nodes, less.more))),
      tt,
    )

pub returns-clause-logged : goal.returns-clause-logged
returns-clause-logged g c =
    let laws = g.met.L.LogTo in
    let places : ArePlaces g.L.LogTo g.L.Lines = record { lifts = laws.lifts; lifts_broken = laws.lifts_broken; more = laws.writes_more; then_breaks = laws.then_cuts_off; stays_calm = laws.is_calm_still; same_faults = laws.has_same_faults } in
    let m = c.args.model.now in
    let s = c.derive.new.self in
    let r = s.region.region in
    let best = best_of s.found in
    let stop = c.in_ok-stop.stop in
    let line = c.in_ok-line.line in
    let of = c.in_ok-stop.ensures.ready.holding.of.region in
    let closes = c.in_ok-line.ensures.line in
    let after = state_in c.in_ok-close.field-0 c.close.new.self in
    λ from plan less logged.
    let derived = c.in_ok-stop.ensures.derived from plan less logged in
    closed_to g.L.LogTo g.L.Lines places m plan from c.derive.new.lines c.write.new.self (node_in s) derived.0 line after less.ongoing derived.1 c.in_ok-write.ensures.ok
    (closes_line m r best (is_failed stop) line c.intervals.ensures.valid of closes)
    (closes_well m r best (is_failed stop) line derived.0 closes (spent_well m r best (AreQuiet g.P.Propagator m r best) derived.0 stop (c.requires.covers r best of) derived.2)
    (full_well m r (AreQuiet g.P.Propagator m r best) derived.0 stop line derived.2 c.in_ok-line.ensures.full))
    (closes_ends m r best (is_failed stop) line closes)
    (subst (λ (u : Search g.row.P.Denot). step_at refutes_logged m (node_in u) line ≡ Ok after) c.in_ok-line.ensures.same c.in_ok-close.ensures.step)
    (omega (arith, c.in_ok-close.ensures.nodes, ap (λ (u : Search g.row.P.Denot). u.nodes) c.in_ok-line.ensures.same, c.in_ok-stop.ensures.nodes, less.more))
