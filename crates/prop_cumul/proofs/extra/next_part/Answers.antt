use Rattle.std.proofs.Common.{◌≡◌, sym, subst, rules, to_z, of_z, w64}
use Rattle.refute_cumul.specs.code.Loads.{bounded}
use Rattle.prop_cumul.specs.code.Extra.{IsStillOf, AreStill}
use Rattle.prop_cumul.proofs.Raising.{both_still}
use Rattle.prop_cumul.proofs.extra.next_part.Goals as goal

pub returns : goal.returns
returns c =
    let same : to_z w64 (of_z w64 c.next_of.result) ≡ c.next_of.result = search rules in
    let first : IsStillOf (bounded c.args.plain.now.region c.args.below c.args.part) c.args.a c.args.to c.next_of-n.result = search rules in
    let second : IsStillOf (bounded c.args.under.now.region c.args.below c.args.part) c.args.a c.next_of-n.result c.next_of.result = search rules in
    subst (λ n. AreStill c.args.plain.now.region c.args.under.now.region c.args.below c.args.part c.args.a c.args.to n) (sym same)
    (both_still c.args.plain.now.region c.args.under.now.region c.args.below c.args.part c.args.a c.args.to c.next_of-n.result c.next_of.result first second)
