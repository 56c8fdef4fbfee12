use Rattle.std.specs.Prelude.{◌<◌, IsTrue, length}
use Rattle.std.proofs.Common.{sym, subst}
use Rattle.region.specs.Guesses.{admits_topic}
use Rattle.region.specs.code.Held.{Held}
use Rattle.region.specs.code.Flat.{IsKept, region_from}
use Rattle.region.proofs.Places.{named, refused_within}
use Rattle.region.proofs.Moments.{refused_moment}
use Rattle.region.proofs.Kept.{on_ok, either_way, refused_kept, refused_view, none_saved, kept_pairs}
use Rattle.region.proofs.region.Region.refuse_topic.Goals as goal

pub refused_write-requires-clause-named : goal.refused_write-requires-clause-named
refused_write-requires-clause-named c = named c.self.inside.frame c.self.inside.cells.list c.args.t (subst (λ (h : Held). IsTrue (admits_topic h.region c.args.t)) (sym c.self.view_is) c.requires)

pub refused_write-requires-clause-moment : goal.refused_write-requires-clause-moment
refused_write-requires-clause-moment c = refused_moment c.self.inside.frame c.self.inside.cells.list c.args.t c.self.invariant.list (subst (λ (h : Held). IsTrue (admits_topic h.region c.args.t)) (sym c.self.view_is) c.requires)

pub write-requires : goal.write-requires
write-requires c = subst (λ i. i < length c.self.inside.cells.list) (sym c.refused_write.ensures.place) (refused_within c.self.inside.frame c.self.inside.cells.list c.args.t c.self.invariant.list (subst (λ (h : Held). IsTrue (admits_topic h.region c.args.t)) (sym c.self.view_is) c.requires))

pub invariant_of-self : goal.invariant_of-self
invariant_of-self c = either_way c.write.result
    (refused_kept c.self.inside.frame c.self.inside.cells c.write.new.cells c.args.t c.refused_write.result.place c.refused_write.result.number c.self.invariant (subst (λ (h : Held). IsTrue (admits_topic h.region c.args.t)) (sym c.self.view_is) c.requires) c.refused_write.ensures.number)
    (λ same. subst (λ t. IsKept c.self.inside.frame t) (sym same) c.self.invariant)
    c.write.ensures.ok c.write.ensures.err

pub returns-clause-ok : goal.returns-clause-ok
returns-clause-ok c = rw (← c.self.view_is) (on_ok c.write.result
    (refused_view c.self.inside.frame c.self.inside.cells c.write.new.cells c.args.t c.refused_write.result.place c.refused_write.result.number c.self.invariant (subst (λ (h : Held). IsTrue (admits_topic h.region c.args.t)) (sym c.self.view_is) c.requires) c.refused_write.ensures.place c.refused_write.ensures.number)
    c.write.ensures.ok)

pub returns-clause-unsaved : goal.returns-clause-unsaved
returns-clause-unsaved c = rw (← c.self.view_is) (λ e. c.write.ensures.unsaved (none_saved (region_from c.self.inside.frame) c.self.inside.cells.saved e))

pub returns-clause-pairs : goal.returns-clause-pairs
returns-clause-pairs c = rw (← c.self.view_is) (kept_pairs c.self.inside.frame c.self.inside.cells.list c.args.t c.self.invariant.list ((subst (λ (h : Held). IsTrue (admits_topic h.region c.args.t)) (sym c.self.view_is) c.requires)))
