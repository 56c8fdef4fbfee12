use Rattle.std.proofs.Common.{◌≡◌, ◌∙◌, sym, ap, subst, rules}
use Rattle.std.specs.Prelude.{Some}
use Rattle.region.specs.Guesses.{with_guess, looked_at}
use Rattle.region.specs.Looks.{seen_at}
use Rattle.refute_cumul.specs.OnCumul.{refutes}
use Rattle.refute_cumul.specs.code.Sides.{is_high}
use Rattle.prop_cumul.specs.laws.Asking.{TellsExtra, own_tell, test_is}
use Rattle.prop_cumul.proofs.side.PointTest.is_high_under.Goals as goal

pub is_high_at-requires-clause-tells : goal.is_high_at-requires-clause-tells
is_high_at-requires-clause-tells c =
    let at = c.args.self.now.at.now in
    let m = at.model.now in
    let r = at.region.now.region in
    subst (λ is. TellsExtra m r (with_guess c.args.g r) at.bound at.below is) (sym c.requires.tested.parts)
    (own_tell m r at.bound at.below c.args.self.now.x c.args.g c.requires.on)

pub returns : goal.returns
returns c =
    let at = c.args.self.now.at.now in
    let m = at.model.now in
    let r = at.region.now.region in
    let is : c.is_high_at.result ≡ is_high m (looked_at (Some c.args.g) r) at.bound at.below c.args.self.now.t = search rules in
    test_is m r at.best at.c at.bound at.below (Some c.args.g) c.args.self.now.t c.is_high_at.result c.requires.tested.ready.of c.requires.tested.ready.bound c.requires.admitted is
    ∙ sym (ap (refutes m (seen_at r at.best (Some c.args.g))) c.requires.tested.witness)
