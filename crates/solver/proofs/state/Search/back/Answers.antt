use Rattle.std.proofs.Common.{rules, ◌≡◌, ◌<◌, refl, sym, ap, subst, ◌∙◌, true≢false}
use Rattle.region.specs.Guesses.{turned}
use Rattle.kernel.specs.Steps.{best_of}
use Rattle.engine.specs.code.Engines.{IsCalm}
use Rattle.solver.specs.declared.state.Search.{Search}
use Rattle.solver.specs.code.Searching.{IsReady}
use Rattle.solver.proofs.kept.Keeping.{none_behind, back_to, back_ready, none_in}
use Rattle.solver.proofs.kept.Silent.{none_waits, some_in}
use Rattle.solver.proofs.state.Search.back.Goals as goal

pub returns-in_default-clause-left : goal.returns-in_default-clause-left
returns-in_default-clause-left g c = none_behind g.P.Propagator c.requires.0 c.args.self.now c.requires.1 (none_in c.args.self.now.marks.items (λ less. true≢false (sym (c.in_default.ensures.variant.1 (subst (λ n. 0 < n) (search rules) less)))))

pub returns-clause-ready : goal.returns-clause-ready
returns-clause-ready g c = λ m holding more.
    let p = g.P.Propagator in
    let s = c.args.self.now in
    let next = c.in-Some-next.ensures in
    let takes = next.takes in
    let q = c.next.new.region.region in
    let rouse = c.rouse.ensures in
    let back = back_to p m s c.in-Some-next.cell c.next.new.region c.next.new.self c.pop.new.self.items c.in-Some.mark takes holding c.in-Some.ensures.items in
    let found : best_of c.rouse.new.self.found ≡ best_of s.found = ap (λ u. best_of u.found) rouse.same in
    let calm : IsCalm p m takes.region (best_of s.found) c.rouse.new.self.engine = subst (λ b. IsCalm p m takes.region b c.rouse.new.self.engine) found (rouse.calm m takes.region holding.engine back.before back.popped.newest.spent) in
    let now : IsCalm p m q (best_of s.found) c.wake.new.self = c.wake.ensures.calm m takes.region q (best_of s.found) (rouse.made m holding.engine) back.before back.of.region
    (λ o h k. takes.narrows.others o (subst (λ x. o ≡ x → ⊥) takes.cell_is h) (subst (λ x. o ≡ turned x → ⊥) takes.cell_is k)) calm in
    subst (λ (u : Search g.row.P.Denot). let t : Search g.row.P.Denot = record u { engine = c.wake.new.self } in IsReady p m t) (sym rouse.same)
    (back_ready p m s (record { region = c.next.new.region; pending = c.next.new.self; marks = c.pop.new.self; engine = c.wake.new.self; energy = s.energy; intervals = c.restore.new.self; found = s.found; nodes = s.nodes; guide = s.guide })
    c.in-Some-next.cell c.pop.new.self.items c.in-Some.mark takes holding back next.pending refl c.restore.ensures refl refl (c.wake.ensures.made m (rouse.made m holding.engine)) now)

pub returns-clause-holding : goal.returns-clause-holding
returns-clause-holding g c = λ m holding. (returns-clause-ready g c m holding refl).holding

pub returns-in_default-next-clause-holding : goal.returns-in_default-next-clause-holding
returns-in_default-next-clause-holding g c = λ m holding. absurd (some_in c.pop.new.self.items c.in-Some.mark (sym c.in-Some.ensures.items ∙ none_waits g.P.Propagator m c.args.self.now holding c.in_default-next.ensures.none))
