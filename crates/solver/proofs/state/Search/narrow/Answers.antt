use Rattle.std.proofs.Common.{◌≡◌, sym, ap, subst}
use Rattle.region.specs.Guesses.{turned}
use Rattle.kernel.specs.Steps.{best_of}
use Rattle.solver.proofs.cutting.Fixing.{KeepsFixed, guess_keeps}
use Rattle.solver.proofs.kept.Keeping.{derived_ready}
use Rattle.solver.proofs.state.Search.narrow.Goals as goal

pub returns : goal.returns
returns g c =
    let p = g.P.Propagator in
    let m = c.args.model.now in
    let s = c.args.self.now in
    let ready = c.requires.ready in
    let h = c.assume.new.self in
    let cell = c.in_ok-cell.ensures in
    let of = cell.of m ready.holding.of in
    derived_ready p m s h c.wake.new.self ready (subst (KeepsFixed s.region.region) (sym (ap (λ k. k.region) cell.ok)) (guess_keeps s.region.region c.args.guess c.requires.splits)) of (ap (λ k. k.saved) cell.ok) (ap (λ k. k.promised) cell.ok)
    (c.wake.ensures.made m ready.holding.engine)
    (c.wake.ensures.calm m s.region.region h.region (best_of s.found) ready.holding.engine ready.holding.of.region of.region
    (λ o a b. cell.narrows.others o (subst (λ x. o ≡ x → ⊥) cell.cell a) (subst (λ x. o ≡ turned x → ⊥) cell.cell b)) ready.calm)
