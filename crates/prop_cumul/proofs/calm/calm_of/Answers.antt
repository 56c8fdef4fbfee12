use Rattle.std.proofs.Common.{◌≡◌, rules, to_z, of_z, w64}
use Rattle.std.specs.Int.{w128}
use Rattle.region.specs.Cells.{Region}
use Rattle.refute_cumul.specs.code.Loads.{limit_of, window_of}
use Rattle.refute_cumul.specs.code.Profiles.{StaysBelow}
use Rattle.prop_cumul.proofs.Calming.{calm_is}
use Rattle.prop_cumul.proofs.calm.calm_of.Goals as goal

pub returns : goal.returns
returns c =
    let b = c.args.at.now.bound in
    let ps = c.args.at.now.profile.now.levels in
    let first : to_z w64 (of_z w64 c.in_ok-from.from) ≡ c.in_ok-from.from = search rules in
    let last : to_z w64 (of_z w64 c.in_ok-from.to) ≡ c.in_ok-from.to = search rules in
    let limit : to_z w128 (of_z w128 c.limit_of-limit.result) ≡ c.limit_of-limit.result = search rules in
    let is : c.limit_of-limit.result ≡ limit_of c.args.at.now.below b.lo b.hi = search rules in
    let window : (r : Region) → (c.in_ok-from.from, c.in_ok-from.to) ≡ window_of r b.window = search rules in
    let low : StaysBelow ps c.in_ok-from.from c.in_ok-from.to c.limit_of-limit.result = search rules in
    calm_is b c.args.at.now.below ps c.in_ok-from.from c.in_ok-from.to c.limit_of-limit.result _ _ _ first last limit window is low
