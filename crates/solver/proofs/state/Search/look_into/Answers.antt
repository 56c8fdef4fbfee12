use Rattle.std.proofs.Common.{length, sym, ap, subst, ◌∙◌, arith}
use Rattle.std.proofs.lemmas.List.{length_push}
use Rattle.region.specs.code.Held.{Held}
use Rattle.kernel.specs.Steps.{best_of}
use Rattle.solver.specs.declared.state.Search.{Search}
use Rattle.solver.specs.code.Searching.{IsUnmoved}
use Rattle.solver.proofs.kept.Silent.{on_ok, back_from, unmoved_by}
use Rattle.solver.proofs.state.Search.look_into.Goals as goal

pub undo-requires : goal.undo-requires
undo-requires g c =
    let s = c.args.self.now in
    let saved = c.run-ran.ensures.saved ∙ ap (λ h. h.saved) c.in_ok-cell.ensures.ok ∙ ap (λ h. h.saved) c.in_ok-save.ensures.ok in
    omega (arith, ap length saved, length_push s.region.saved s.region.region)

pub returns : goal.returns
returns g c =
    let p = g.P.Propagator in
    let m = c.args.model.now in
    let s = c.args.self.now in
    let r = s.region.region in
    let resting = c.requires.resting in
    let e = c.forget_changes.new.self in
    let undone = c.undo.new.self in
    let back = back_from s.region c.save.new.self c.run-ran.new.region undone c.in_ok-save.ensures.ok
    (c.run-ran.ensures.saved ∙ ap (λ h. h.saved) c.in_ok-cell.ensures.ok) (c.run-ran.ensures.promised ∙ ap (λ h. h.promised) c.in_ok-cell.ensures.ok)
    c.undo.ensures.region c.undo.ensures.spare in
    on_ok c.left_by.result _
    (subst (λ (h : Held). let t : Search g.row.P.Denot = record s { engine = e; region = h } in IsUnmoved p m s t) (sym back)
    (unmoved_by p m s e undone.spare resting (c.forget_changes.ensures.made m (c.rest.ensures.made m c.run-ran.ensures.made))
    (c.forget_changes.ensures.calm m r (best_of s.found) (c.rest.ensures.calm m r (best_of s.found) resting.quiet))))
