use Rattle.std.proofs.Common.{◌≡◌, ◌≤◌, ◌-◌}
use Rattle.region.specs.code.Held.{IsHeldOf}
use Rattle.engine.specs.code.Engines.{IsFor, IsCalm}
use Rattle.engine.specs.Runs.{cap_at, Led}
use Rattle.engine.proofs.engine.Engine.drive.Given as goal

abbrev pub invariant-loop-put : goal.invariant-loop-put
invariant-loop-put g l = record {
  made : IsFor g.P.Propagator l.model l.self;
  of : IsHeldOf l.model l.region;
  saved : l.region.saved ≡ l.initial.region.saved;
  promised : l.region.promised ≡ l.initial.region.promised;
  calm : IsCalm g.P.Propagator l.model l.region.region l.best l.self;
  ready : g.L.Lines.ready l.lines;
  led : Led g.L.Lines l.model l.best l.put l.initial.lines l.lines l.initial.region.region l.region.region;
  few : l.put ≤ l.most;
  most : l.most ≡ cap_at l.initial.region.region;
}

abbrev pub decreases-loop-put : goal.decreases-loop-put
decreases-loop-put g l = l.most - l.put
