use Rattle.std.proofs.Common.{◌≡◌, refl, sym, subst, true, rules}
use Rattle.std.specs.Prelude.{None}
use Rattle.region.specs.Looks.{seen_at}
use Rattle.refute_cumul.specs.declared.witness.CumulWitness.TheVariants.{Point}
use Rattle.refute_cumul.specs.OnCumul.{refutes}
use Rattle.refute_cumul.specs.laws.Loads.{side}
use Rattle.prop_cumul.specs.laws.Asking.{busy_plain, plain_found, refuted_under, refutes_under}
use Rattle.prop_cumul.proofs.side.ask_plain.Goals as goal

pub returns-clause-some : goal.returns-clause-some
returns-clause-some c =
    let at = c.args.at.now in
    let m = at.model.now in
    let r = at.region.now.region in
    let is : c.point_at.result ≡ Point at.c c.in_ok-raised.raised.t (side at.below) = search rules in
    plain_found m r at.best c.point_at.result (subst (λ w. refutes m (seen_at r at.best None) w ≡ true) (sym is)
    (refutes_under m r at.best at.c at.bound at.below None c.in_ok-raised.raised.t c.requires.ready.of c.requires.ready.bound refl c.in_ok-raised.ensures.some))

pub returns-clause-busy : goal.returns-clause-busy
returns-clause-busy c =
    let at = c.args.at.now in
    busy_plain at.model.now at.region.now.region at.best at.c
    (refuted_under at.model.now at.region.now.region at.best at.c at.bound at.below None c.in_ok-raised.raised.t c.requires.ready.of c.requires.ready.bound refl c.in_ok-raised.ensures.some)
