use Rattle.std.proofs.Common.{◌≡◌, rules, to_z, of_z, w64}
use Rattle.std.specs.Int.{w128}
use Rattle.sched_model.proofs.levels.Levels.{level_by}
use Rattle.sched_model.proofs.cumulative.is_level_at.Goals as goal

pub returns : goal.returns
returns c = let same_t : to_z w64 (of_z w64 c.args.t) ≡ c.args.t = search rules in
    level_by c.args.model.now c.args.a.now c.args.b.f c.args.b.window c.args.b.lo c.args.b.hi c.args.t (to_z w64 (of_z w64 c.args.b.lo)) (to_z w64 (of_z w64 c.args.b.hi)) (to_z w64 (of_z w64 c.args.t)) c.sum_at.result (to_z w128 (of_z w128 c.sum_at.result))
    c.parts_of.result.now c.is_within.result c.if-not-is_in_window.ensures c.parts_of.ensures c.sum_at.ensures.value c.is_within.ensures same_t (search rules) (search rules) (search rules)
