use Rattle.std.proofs.Common.{◌≡◌, sym, subst, true, rules}
use Rattle.std.specs.Prelude.{Some}
use Rattle.region.specs.Looks.{seen_at}
use Rattle.refute_cumul.specs.declared.witness.CumulWitness.TheVariants.{Point}
use Rattle.refute_cumul.specs.OnCumul.{refutes}
use Rattle.refute_cumul.specs.laws.Loads.{side}
use Rattle.prop_cumul.specs.laws.Asking.{refutes_under}
use Rattle.prop_cumul.proofs.side.found_at.Goals as goal

pub tighten_by-requires-clause-refuted : goal.tighten_by-requires-clause-refuted
tighten_by-requires-clause-refuted c =
    let at = c.args.at.now in
    let m = at.model.now in
    let r = at.region.now.region in
    let is : c.point_at-witness.result ≡ Point at.c c.args.t (side at.below) = search rules in
    subst (λ w. refutes m (seen_at r at.best (Some c.args.g)) w ≡ true) (sym is)
    (refutes_under m r at.best at.c at.bound at.below (Some c.args.g) c.args.t c.requires.ready.of c.requires.ready.bound c.requires.admitted c.requires.high)
