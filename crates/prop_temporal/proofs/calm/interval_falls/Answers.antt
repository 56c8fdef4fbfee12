use Rattle.std.proofs.Common.{◌≡◌, ◌+◌, ◌*◌, ◌+ℤ◌, ◌-ℤ◌, pos, ◌&&◌, ◌||◌, not, int_lt, true, rules}
use Rattle.region.specs.Cells.{bounds_of, is_there}
use Rattle.refute_basic.specs.Cycle.{itv}
use Rattle.prop_temporal.specs.code.Heights.{height_in}
use Rattle.prop_temporal.specs.laws.Falling.{falls_sizes}
use Rattle.prop_temporal.proofs.calm.interval_falls.Goals as goal

pub returns : goal.returns
returns c = λ yes.
    let r = c.args.look.now.region in
    let x = c.args.x in
    let h = height_in c.args.heights.now in
    let low : ((not (int_lt (h (2 * x)) ((bounds_of r (itv x)).pmin +ℤ h (2 * x + 1))) && not (int_lt (h (2 * x + 1)) ((pos 0 -ℤ (bounds_of r (itv x)).pmax) +ℤ h (2 * x)))) || not (is_there r (itv x))) ≡ true = search (rules, yes) in
    falls_sizes c.args.model.now r h x low
