use Rattle.std.proofs.Common.{rules, ◌≡◌, refl, sym, subst}
use Rattle.region.specs.Guesses.{turned}
use Rattle.engine.specs.code.Engines.{AreQuiet}
use Rattle.kernel.specs.Steps.{best_of}
use Rattle.solver.specs.declared.mark.Mark.{Mark}
use Rattle.solver.proofs.kept.Keeping.{split_ready, split_of}
use Rattle.solver.proofs.state.Search.split.Goals as goal

pub returns-clause-ready : goal.returns-clause-ready
returns-clause-ready g c = λ m ready quiet.
    let p = g.P.Propagator in
    let s = c.args.self.now in
    let cell = c.in_ok-cell.ensures in
    let k : Mark = record { best = c.best.result; capped = c.args.capped; count = c.count.result } in
    let of = split_of m s.region c.split.new.region c.args.g ready.holding.of c.requires.splits cell.region cell.saved in
    split_ready p m s (record { region = c.split.new.region; pending = c.split.new.self; marks = c.push.new.self; engine = c.wake.new.self; energy = s.energy; intervals = s.intervals; found = s.found; nodes = s.nodes; guide = s.guide })
    c.args.g k ready c.requires.splits cell.region cell.saved cell.pending (search rules) c.count.ensures
    (λ spent. subst (λ b. AreQuiet p m s.region.region b) (sym c.best.ensures) (quiet spent))
    (c.wake.ensures.made m ready.holding.engine)
    (c.wake.ensures.calm m s.region.region c.split.new.region.region (best_of s.found) ready.holding.engine ready.holding.of.region of.region
    (λ o h j. cell.narrows.others o (subst (λ x. o ≡ x → ⊥) cell.cell h) (subst (λ x. o ≡ turned x → ⊥) cell.cell j)) ready.calm)
    refl refl refl
