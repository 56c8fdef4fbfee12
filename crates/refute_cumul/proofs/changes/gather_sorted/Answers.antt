use Rattle.std.proofs.Common.{◌≤◌, ◌*◌, length, rules, arith}
use Rattle.refute_cumul.proofs.Changing.{sorted_load, as_long}
use Rattle.refute_cumul.proofs.changes.gather_sorted.Goals as goal

pub returns-clause-load : goal.returns-clause-load
returns-clause-load c t = sorted_load c.args.look.now.region c.args.below c.args.parts.now c.gather.new.changes.items c.sort_all.new.changes.items t c.gather.ensures.all c.sort_all.ensures.moved

pub returns-clause-few : goal.returns-clause-few
returns-clause-few c = let same = as_long c.gather.new.changes.items c.sort_all.new.changes.items c.sort_all.ensures.moved in
    let long : length c.gather.new.changes.items ≤ 2 * length c.args.parts.now = search rules in
    omega (arith, same, long)
