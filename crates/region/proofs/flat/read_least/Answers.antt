use Rattle.std.proofs.Common.{◌≡◌, true, ap, ◌∙◌, sym, subst, arith, w64, to_z, of_z}
use Rattle.std.proofs.lemmas.Int.{to_z-of_z}
use Rattle.sched_model.specs.Valid.{is_moment}
use Rattle.region.specs.declared.types.SizeRange.{SizeRange}
use Rattle.region.proofs.Places.{no_size, pmin_read}
use Rattle.region.proofs.Moments.{bounds_moments}
use Rattle.region.proofs.flat.read_least.Goals as goal

pub returns-clause-value : goal.returns-clause-value
returns-clause-value c =
    let own : to_z w64 (of_z w64 c.size.result.least) ≡ c.size.result.least = grind (arith, to_z-of_z) in
    own ∙ ap (λ (s : SizeRange). s.least) (c.size.ensures no_size) ∙ pmin_read c.args.frame.now.sizes c.args.cells.now c.args.n c.requires.within

pub returns-clause-moment : goal.returns-clause-moment
returns-clause-moment c = subst (λ z. is_moment z ≡ true) (sym (returns-clause-value c)) (bounds_moments c.args.frame.now c.args.cells.now c.args.n c.requires.cells c.requires.within).pmin
