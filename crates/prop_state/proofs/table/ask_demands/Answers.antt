use Rattle.std.proofs.Common.{◌≡◌, true, sym, subst, ◌∙◌, arith}
use Rattle.prop_state.specs.code.Walks.{EachOf, AreAsked}
use Rattle.refute_state.specs.code.Gathered.{demands_at}
use Rattle.prop_state.specs.laws.Unwatched.{demanded_there}
use Rattle.prop_state.proofs.Asked.{none_to}
use Rattle.prop_state.proofs.Remembering.{quiet_asked, quiet_unasked, fresh_named, no_items}
use Rattle.prop_state.proofs.table.ask_demands.Goals as goal

pub note_demands-requires-clause-demands : goal.note_demands-requires-clause-demands
note_demands-requires-clause-demands c = subst (EachOf (λ d. demands_at c.args.view.now.model.now c.args.k d ≡ true)) (sym c.requires.demands) (demanded_there c.args.view.now.model.now c.args.k)

pub returns-then-is_empty-clause-none : goal.returns-then-is_empty-clause-none
returns-then-is_empty-clause-none c =
    let none = sym c.deref.ensures.value ∙ no_items c.deref.result.now (sym c.is_empty.ensures ∙ c.if-is_empty.true) in
    let room = c.requires.room in
    let same = c.note_demands.ensures.same in
    quiet_unasked c.args.view.now.model.now c.args.k c.args.view.now.region.now.region c.args.view.now.best c.args.known.now c.args.cs.now c.note_demands.new.notes c.note_fresh.new.fresh.items c.note_fresh.new.others.items none c.requires.demands c.requires.of c.requires.known
    (omega (arith, room, same)) c.note_demands.ensures.noted c.in_ok-note_fresh.ensures

pub ask_fresh-requires-clause-fresh : goal.ask_fresh-requires-clause-fresh
ask_fresh-requires-clause-fresh c =
    rw (c.deref.ensures.value, c.deref-2.ensures.value)
    (fresh_named c.args.view.now.model.now c.args.view.now.region.now.region c.args.k c.args.cs.now c.note_demands.new.notes c.args.known.now _ c.note_fresh.new.fresh.items c.note_fresh.new.others.items c.in_ok-note_fresh.ensures)

pub returns-clause-none : goal.returns-clause-none
returns-clause-none c =
    let room = c.requires.room in
    let same = c.note_demands.ensures.same in
    none_to c.ask_fresh.result (λ asked.
    quiet_asked c.args.view.now.model.now c.args.k c.args.view.now.region.now.region c.args.view.now.best c.args.known.now c.args.cs.now c.note_demands.new.notes c.note_fresh.new.fresh.items c.note_fresh.new.others.items c.requires.demands c.requires.of c.requires.known
    (omega (arith, room, same)) c.note_demands.ensures.noted c.in_ok-note_fresh.ensures
    (subst (AreAsked c.args.view.now.model.now c.args.view.now.region.now.region c.args.view.now.best c.args.k c.args.cs.now) c.deref.ensures.value asked)) c.ask_fresh.ensures.none
