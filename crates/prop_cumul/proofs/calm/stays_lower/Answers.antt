use Rattle.std.proofs.Common.{◌≡◌, ◌-ℤ◌, rules}
use Rattle.std.specs.Int.{int_min, int_max}
use Rattle.refute_cumul.specs.code.Profiles.{StaysBelow}
use Rattle.prop_cumul.proofs.Calming.{lower_between}
use Rattle.prop_cumul.proofs.calm.stays_lower.Goals as goal

pub returns : goal.returns
returns c on =
    let ps = c.args.profile.now.levels in
    let limit : c.in-Some.limit ≡ c.args.calm.limit -ℤ c.args.h = search rules in
    let first : c.greater-from.result ≡ int_max c.args.from c.args.calm.from = search rules in
    let last : c.smaller-to.result ≡ int_min c.args.to c.args.calm.to = search rules in
    let low : StaysBelow ps c.greater-from.result c.smaller-to.result c.in-Some.limit = search rules in
    lower_between ps c.args.calm c.args.from c.args.to c.greater-from.result c.smaller-to.result c.args.h c.in-Some.limit limit first last low
