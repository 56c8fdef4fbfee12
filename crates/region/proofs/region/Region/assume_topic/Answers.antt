use Rattle.std.specs.Prelude.{◌<◌, ◌&&◌, IsTrue, length}
use Rattle.std.proofs.Common.{sym, subst}
use Rattle.region.specs.Guesses.{admits_topic, is_ready}
use Rattle.region.specs.code.Held.{Held}
use Rattle.region.specs.code.Flat.{IsKept, region_from}
use Rattle.region.specs.laws.Lists.{both_true}
use Rattle.region.proofs.Places.{named, assumed_within}
use Rattle.region.proofs.Kept.{on_ok, either_way, assumed_kept, assumed_view, none_saved, kept_pairs}
use Rattle.region.proofs.region.Region.assume_topic.Goals as goal

pub assumed_write-requires : goal.assumed_write-requires
assumed_write-requires c = named c.self.inside.frame c.self.inside.cells.list c.args.t ((both_true _ (is_ready (region_from c.self.inside.frame c.self.inside.cells.list) c.args.t) (subst (λ (h : Held). IsTrue (admits_topic h.region c.args.t && is_ready h.region c.args.t)) (sym c.self.view_is) c.requires)).0)

pub write-requires : goal.write-requires
write-requires c = subst (λ i. i < length c.self.inside.cells.list) (sym c.assumed_write.ensures.place) (assumed_within c.self.inside.frame c.self.inside.cells.list c.args.t c.self.invariant.list (both_true _ (is_ready (region_from c.self.inside.frame c.self.inside.cells.list) c.args.t) (subst (λ (h : Held). IsTrue (admits_topic h.region c.args.t && is_ready h.region c.args.t)) (sym c.self.view_is) c.requires)).0)

pub invariant_of-self : goal.invariant_of-self
invariant_of-self c = either_way c.write.result
    (assumed_kept c.self.inside.frame c.self.inside.cells c.write.new.cells c.args.t c.assumed_write.result.place c.assumed_write.result.number c.self.invariant (subst (λ (h : Held). IsTrue (admits_topic h.region c.args.t && is_ready h.region c.args.t)) (sym c.self.view_is) c.requires) c.assumed_write.ensures.number)
    (λ same. subst (λ t. IsKept c.self.inside.frame t) (sym same) c.self.invariant)
    c.write.ensures.ok c.write.ensures.err

pub returns-clause-ok : goal.returns-clause-ok
returns-clause-ok c = rw (← c.self.view_is) (on_ok c.write.result
    (assumed_view c.self.inside.frame c.self.inside.cells c.write.new.cells c.args.t c.assumed_write.result.place c.assumed_write.result.number c.self.invariant (subst (λ (h : Held). IsTrue (admits_topic h.region c.args.t && is_ready h.region c.args.t)) (sym c.self.view_is) c.requires) c.assumed_write.ensures.place c.assumed_write.ensures.number)
    c.write.ensures.ok)

pub returns-clause-unsaved : goal.returns-clause-unsaved
returns-clause-unsaved c = rw (← c.self.view_is) (λ e. c.write.ensures.unsaved (none_saved (region_from c.self.inside.frame) c.self.inside.cells.saved e))

pub returns-clause-pairs : goal.returns-clause-pairs
returns-clause-pairs c = rw (← c.self.view_is) (kept_pairs c.self.inside.frame c.self.inside.cells.list c.args.t c.self.invariant.list ((both_true _ (is_ready (region_from c.self.inside.frame c.self.inside.cells.list) c.args.t) (subst (λ (h : Held). IsTrue (admits_topic h.region c.args.t && is_ready h.region c.args.t)) (sym c.self.view_is) c.requires)).0))
