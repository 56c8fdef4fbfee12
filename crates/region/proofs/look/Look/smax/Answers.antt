use Rattle.std.proofs.Common.{◌≡◌, true, ◌∙◌, ap, sym, subst, length, arith, get_or, w64, to_z, of_z}
use Rattle.std.proofs.lemmas.Int.{to_z-of_z}
use Rattle.sched_model.specs.Valid.{is_moment}
use Rattle.region.specs.declared.types.Bounds.{Bounds}
use Rattle.region.specs.Cells.{unknown}
use Rattle.region.specs.code.Flat.{region_from, bounds_from}
use Rattle.region.proofs.Places.{look_length, smax_read, looked_none}
use Rattle.region.proofs.Shown.{shown_field, shown_bounds_moments}
use Rattle.region.proofs.look.Look.smax.Goals as goal

pub read_number-smax-requires-clause-within : goal.read_number-smax-requires-clause-within
read_number-smax-requires-clause-within c =
    let size : length c.args.self.now.region.bounds ≡ length c.self.inside.frame.now.sizes = rw (← c.self.view_is) (look_length c.self.inside.frame.now c.self.inside.cells.now c.self.inside.guess) in
    omega (arith, size, c.requires)

pub returns-in-None-clause-value : goal.returns-in-None-clause-value
returns-in-None-clause-value c =
    let size : length c.args.self.now.region.bounds ≡ length c.self.inside.frame.now.sizes = rw (← c.self.view_is) (look_length c.self.inside.frame.now c.self.inside.cells.now c.self.inside.guess) in
    let own : to_z w64 (of_z w64 c.read_number-smax.result) ≡ c.read_number-smax.result = grind (arith, to_z-of_z) in
    let within = smax_read c.self.inside.frame.now.sizes c.self.inside.cells.now c.args.x.0 (omega (arith, size, c.requires)) in
    rw (← c.self.view_is) (own ∙ c.read_number-smax.ensures.value ∙ within ∙ ap (λ (b : Bounds). b.smax) (looked_none c.self.inside.guess (region_from c.self.inside.frame.now c.self.inside.cells.now) c.args.x.0 c.in-None.is))

pub returns-in-Some-clause-value : goal.returns-in-Some-clause-value
returns-in-Some-clause-value c =
    let size : length c.args.self.now.region.bounds ≡ length c.self.inside.frame.now.sizes = rw (← c.self.view_is) (look_length c.self.inside.frame.now c.self.inside.cells.now c.self.inside.guess) in
    let own : to_z w64 (of_z w64 c.read_number-smax.result) ≡ c.read_number-smax.result = grind (arith, to_z-of_z) in
    let shown : to_z w64 (of_z w64 c.smax_under.result) ≡ c.smax_under.result = grind (arith, to_z-of_z) in
    let read = smax_read c.self.inside.frame.now.sizes c.self.inside.cells.now c.args.x.0 (omega (arith, size, c.requires)) in
    rw (← c.self.view_is) (shown ∙ shown_field (λ b. b.smax) c.self.inside.frame.now c.self.inside.cells.now c.self.inside.guess c.in-Some.g c.topic.result c.args.x.0 c.smax_under.result c.in-Some.is c.topic.ensures (omega (arith, size, c.requires))
    (c.smax_under.ensures (get_or (bounds_from c.self.inside.frame.now.sizes c.self.inside.cells.now) c.args.x.0 unknown) (sym (own ∙ c.read_number-smax.ensures.value ∙ read))))

pub returns-in-Some-clause-moment : goal.returns-in-Some-clause-moment
returns-in-Some-clause-moment c =
    let size : length c.args.self.now.region.bounds ≡ length c.self.inside.frame.now.sizes = rw (← c.self.view_is) (look_length c.self.inside.frame.now c.self.inside.cells.now c.self.inside.guess) in
    let own : to_z w64 (of_z w64 c.read_number-smax.result) ≡ c.read_number-smax.result = grind (arith, to_z-of_z) in
    let shown : to_z w64 (of_z w64 c.smax_under.result) ≡ c.smax_under.result = grind (arith, to_z-of_z) in
    let read = smax_read c.self.inside.frame.now.sizes c.self.inside.cells.now c.args.x.0 (omega (arith, size, c.requires)) in
    subst (λ z. is_moment z ≡ true) (sym (shown ∙ c.smax_under.ensures (get_or (bounds_from c.self.inside.frame.now.sizes c.self.inside.cells.now) c.args.x.0 unknown) (sym (own ∙ c.read_number-smax.ensures.value ∙ read))))
    (shown_bounds_moments c.self.inside.frame.now c.self.inside.cells.now c.self.inside.guess c.in-Some.g c.topic.result c.args.x.0 c.self.invariant c.in-Some.is c.topic.ensures (omega (arith, size, c.requires))).smax
