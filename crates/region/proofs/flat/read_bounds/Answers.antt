use Rattle.std.proofs.Common.{◌≡◌, ◌*◌, pos, ◌∙◌, ap, sym, subst, arith, w64, to_z, of_z}
use Rattle.std.proofs.lemmas.Int.{to_z-of_z}
use Rattle.region.specs.declared.types.Bounds.{Bounds}
use Rattle.region.specs.Looks.{HasMoments}
use Rattle.region.specs.code.Flat.{presence_from, number_at}
use Rattle.region.proofs.Places.{bounds_read}
use Rattle.region.proofs.Moments.{bounds_moments}
use Rattle.region.proofs.flat.read_bounds.Goals as goal

pub returns-clause-value : goal.returns-clause-value
returns-clause-value c =
    let first : to_z w64 (of_z w64 (number_at c.args.cells.now (5 * c.args.n))) ≡ number_at c.args.cells.now (5 * c.args.n) = grind (arith, to_z-of_z) in
    bounds_read c.args.frame.now.sizes c.args.cells.now c.args.n _ _ _ _ _ _ _ c.requires.within (c.presence_from.ensures ∙ ap presence_from first)
    (grind (arith, to_z-of_z)) (grind (arith, to_z-of_z)) (grind (arith, to_z-of_z)) (grind (arith, to_z-of_z))
    (record { least = pos 0; greatest = pos 0 }) (grind (arith, to_z-of_z)) (grind (arith, to_z-of_z))

pub returns-clause-moments : goal.returns-clause-moments
returns-clause-moments c = subst (λ (b : Bounds). HasMoments b) (sym (returns-clause-value c)) (bounds_moments c.args.frame.now c.args.cells.now c.args.n c.requires.cells c.requires.within)
