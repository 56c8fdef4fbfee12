use Rattle.std.proofs.Common.{◌≡◌, sym, subst, rules, to_z, of_z, w64}
use Rattle.prop_cumul.specs.code.Extra.{gain, IsStillOf, IsStill}
use Rattle.prop_cumul.proofs.Raising.{gain_still}
use Rattle.prop_cumul.proofs.extra.MovedAdded.until.Goals as goal

pub returns : goal.returns
returns c =
    let same : to_z w64 (of_z w64 c.next_of-2.result) ≡ c.next_of-2.result = search rules in
    let first : IsStillOf c.args.self.now.before c.args.a c.args.to c.next_of.result = search rules in
    let second : IsStillOf c.args.self.now.now c.args.a c.next_of.result c.next_of-2.result = search rules in
    subst (λ n. IsStill (gain c.args.self.now.before c.args.self.now.now) c.args.a c.args.to n) (sym same)
    (gain_still c.args.self.now.before c.args.self.now.now c.args.a c.args.to c.next_of.result c.next_of-2.result first second)
