use Rattle.std.proofs.Common.{◌≡◌, true, sym, subst}
use Rattle.solver.specs.code.Searching.{is_ordered}
use Rattle.solver.proofs.cutting.Branching.{ordered_at}
use Rattle.solver.proofs.cutting.Sifting.{index_below, counts_in, counts_out, fewer_left, nearer, none_then, none_open}
use Rattle.solver.proofs.open_intervals.OpenIntervals.sift.Goals as goal

pub cut-requires-clause-ordered : goal.cut-requires-clause-ordered
cut-requires-clause-ordered c =
    let r = c.args.look.now.region in
    subst (λ b. is_ordered b ≡ true) (sym c.bounds.ensures.value) (ordered_at c.args.model.now r (record { 0 = c.index.result.now }) c.requires.of
    (index_below r c.places.self c.self.inside.list.items c.self.inside.count c.places.i c.index.result.now c.self.view_is c.places.invariant.is c.places-test.true c.index.ensures))

pub places-smaller-in_default : goal.places-smaller-in_default
places-smaller-in_default c = fewer_left c.places.self.count c.leave.new.self.count c.places.i c.leave.ensures.one (counts_in c.places.self c.self.inside.list.items c.self.inside.count c.places.i c.self.view_is c.places-test.true)

pub places-smaller : goal.places-smaller
places-smaller c = nearer c.places.self.count c.places.i (counts_in c.places.self c.self.inside.list.items c.self.inside.count c.places.i c.self.view_is c.places-test.true)

pub returns-clause-none : goal.returns-clause-none
returns-clause-none c =
    none_then c.places.last _ (λ is. none_open c.args.look.now.region c.places.self c.places.invariant.is
    (counts_out c.places.self c.self.inside.list.items c.self.inside.count c.places.i c.self.view_is c.places-test.false (c.places.invariant.none is)))
