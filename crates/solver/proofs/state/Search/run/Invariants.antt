use Rattle.std.proofs.Common.{◌≡◌, ◌≤◌, true}
use Rattle.restart_rules.specs.Restarts.{first_stretch}
use Rattle.restart_rules.specs.code.Stretches.{plan_of}
use Rattle.solver.specs.code.Searching.{IsReady, IsLogged, state_in}
use Rattle.solver.proofs.state.Search.run.Given as goal

abbrev pub invariant-loop-n : goal.invariant-loop-n
invariant-loop-n g l = record {
  ready : IsReady g.P.Propagator l.model l.self;
  lines : g.L.Lines.ready l.lines;
  nodes : l.self.nodes ≡ l._n;
  closed : l.stretches.closed ≤ l._n;
  logged : (from : g.row.L.Denot) → IsLogged g.L.LogTo l.model (plan_of l.nodes l.restarts first_stretch) from l.initial.lines 0 (state_in true l.initial.self) → IsLogged g.L.LogTo l.model (plan_of l.nodes l.restarts l.stretches) from l.lines 0 (state_in true l.self);
}
