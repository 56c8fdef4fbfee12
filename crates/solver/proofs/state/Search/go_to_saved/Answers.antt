use Rattle.std.proofs.Common.{◌≡◌, refl, sym, ap, subst}
use Rattle.kernel.specs.Steps.{best_of}
use Rattle.engine.specs.code.Engines.{AreQuiet, IsCalm}
use Rattle.solver.specs.declared.state.Search.{Search}
use Rattle.solver.specs.code.Searching.{IsReady}
use Rattle.solver.proofs.kept.Silent.{saved_for, unwound_to, unwound_ready}
use Rattle.solver.proofs.state.Search.go_to_saved.Goals as goal

pub undo-requires : goal.undo-requires
undo-requires g c =
    let s = c.args.self.now in
    saved_for (AreQuiet g.P.Propagator c.requires.holding.0) s.intervals.list s.region.saved s.marks.items c.requires.holding.1.marks c.requires.one

pub returns : goal.returns
returns g c = λ m holding.
    let p = g.P.Propagator in
    let s = c.args.self.now in
    let h = c.undo.new.self in
    let unwound = unwound_to p m s h c.pop.new.self.items c.in-Some.mark holding c.requires.one c.in-Some.ensures.items c.undo.ensures.region c.undo.ensures.spare (c.undo.ensures.of m holding.of) in
    let rouse = c.rouse.ensures in
    let found : best_of c.rouse.new.self.found ≡ best_of s.found = ap (λ u. best_of u.found) rouse.same in
    subst (λ (u : Search g.row.P.Denot). IsReady p m u) (sym rouse.same)
    (unwound_ready p m s (record { region = h; pending = c.new.result; marks = c.pop.new.self; engine = c.rouse.new.self.engine; energy = s.energy; intervals = c.restore.new.self; found = s.found; nodes = s.nodes; guide = s.guide })
    c.pop.new.self.items c.in-Some.mark holding unwound c.new.ensures.none refl c.restore.ensures refl refl (rouse.made m holding.engine)
    (subst (λ b. IsCalm p m h.region b c.rouse.new.self.engine) found (rouse.calm m h.region holding.engine unwound.of.region unwound.popped.newest.spent)))
