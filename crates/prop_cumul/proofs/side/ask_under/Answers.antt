use Rattle.std.proofs.Common.{sym, subst}
use Rattle.std.specs.Prelude.{Some}
use Rattle.region.specs.Guesses.{with_guess}
use Rattle.prop_cumul.specs.laws.Asking.{TellsExtra, own_tell, refuted_under}
use Rattle.prop_cumul.proofs.side.ask_under.Goals as goal

pub moment_under-requires-clause-tells : goal.moment_under-requires-clause-tells
moment_under-requires-clause-tells c =
    let m = c.args.at.now.model.now in
    let r = c.args.at.now.region.now.region in
    subst (λ is. TellsExtra m r (with_guess c.args.g r) c.args.at.now.bound c.args.at.now.below is) (sym c.requires.parts)
    (own_tell m r c.args.at.now.bound c.args.at.now.below c.args.x c.args.g c.requires.on)

pub best_moment-t-requires-clause-tells : goal.best_moment-t-requires-clause-tells
best_moment-t-requires-clause-tells c =
    let m = c.args.at.now.model.now in
    let r = c.args.at.now.region.now.region in
    subst (λ is. TellsExtra m r (with_guess c.args.g r) c.args.at.now.bound c.args.at.now.below is) (sym c.requires.parts)
    (own_tell m r c.args.at.now.bound c.args.at.now.below c.args.x c.args.g c.requires.on)

pub returns-clause-busy : goal.returns-clause-busy
returns-clause-busy c =
    refuted_under c.args.at.now.model.now c.args.at.now.region.now.region c.args.at.now.best c.args.at.now.c c.args.at.now.bound c.args.at.now.below (Some c.args.g) c.in_ok-raised.raised.t c.requires.ready.of c.requires.ready.bound c.requires.admitted c.in_ok-raised.ensures.some
