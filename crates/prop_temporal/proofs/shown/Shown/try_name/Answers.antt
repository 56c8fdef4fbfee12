use Rattle.std.proofs.Common.{◌++◌, ◌∷◌, [], subst, sym}
use Rattle.prop_temporal.specs.code.Shown.{Shown, Tries}
use Rattle.prop_temporal.specs.laws.Named.{named, point_within}
use Rattle.prop_temporal.specs.laws.Collecting.{one_shown}
use Rattle.prop_temporal.proofs.shown.Shown.try_name.Goals as goal

pub returns : goal.returns
returns c =
    let r = c.args.look.now.region in
    let w = named c.args.model.now r c.args.i c.in-Some.e (sym c.in-Some.ensures) in
    rw (c.in_ok-push.ensures.items, c.in_ok-push-2.ensures.items, c.weighed.ensures.same)
    (subst (λ (s : Shown). Tries c.args.model.now r c.args.i s (record { names = c.self.inside.names.items ++ c.args.i ∷ []; arcs = c.self.inside.arcs.items ++ c.in-Some.e ∷ [] })) c.self.view_is
    (one_shown c.args.model.now r c.args.i (record { names = c.self.inside.names.items; arcs = c.self.inside.arcs.items }) c.in-Some.e c.in-Some.ensures c.requires.valid
    (record { tail = point_within r c.in-Some.e.tail w.ends.tail; head = point_within r c.in-Some.e.head w.ends.head; lower = c.weighed.ensures.lower; upper = c.weighed.ensures.upper })))
