use Rattle.std.proofs.Common.{◌≡◌, length, ap, ◌∙◌, subst, sym, arith}
use Rattle.region.specs.declared.types.Bounds.{Bounds}
use Rattle.region.specs.Looks.{HasMoments}
use Rattle.region.specs.code.Flat.{bounds_under}
use Rattle.region.proofs.Places.{look_length}
use Rattle.region.proofs.Shown.{shown_field, shown_bounds_moments}
use Rattle.region.proofs.look.Look.bounds_at.Goals as goal

pub read_bounds-c-requires-clause-within : goal.read_bounds-c-requires-clause-within
read_bounds-c-requires-clause-within c =
    let size : length c.args.self.now.region.bounds ≡ length c.self.inside.frame.now.sizes = rw (← c.self.view_is) (look_length c.self.inside.frame.now c.self.inside.cells.now c.self.inside.guess) in
    omega (arith, size, c.requires)

pub returns-in-Some-clause-value : goal.returns-in-Some-clause-value
returns-in-Some-clause-value c =
    let size : length c.args.self.now.region.bounds ≡ length c.self.inside.frame.now.sizes = rw (← c.self.view_is) (look_length c.self.inside.frame.now c.self.inside.cells.now c.self.inside.guess) in
    rw (← c.self.view_is) (shown_field (λ b. b) c.self.inside.frame.now c.self.inside.cells.now c.self.inside.guess c.in-Some.g c.topic.result c.args.n c.bounds_under.result c.in-Some.is c.topic.ensures (omega (arith, size, c.requires))
    (c.bounds_under.ensures ∙ ap (bounds_under c.topic.result c.args.n) c.read_bounds-c.ensures.value))

pub returns-in-Some-clause-moments : goal.returns-in-Some-clause-moments
returns-in-Some-clause-moments c =
    let size : length c.args.self.now.region.bounds ≡ length c.self.inside.frame.now.sizes = rw (← c.self.view_is) (look_length c.self.inside.frame.now c.self.inside.cells.now c.self.inside.guess) in
    subst (λ (b : Bounds). HasMoments b) (sym (c.bounds_under.ensures ∙ ap (bounds_under c.topic.result c.args.n) c.read_bounds-c.ensures.value))
    (shown_bounds_moments c.self.inside.frame.now c.self.inside.cells.now c.self.inside.guess c.in-Some.g c.topic.result c.args.n c.self.invariant c.in-Some.is c.topic.ensures (omega (arith, size, c.requires)))
