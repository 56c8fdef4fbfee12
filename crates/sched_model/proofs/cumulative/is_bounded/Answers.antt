use Rattle.std.proofs.Common.{◌≡◌, ◌∙◌, rules, to_z, of_z, w64}
use Rattle.sched_model.proofs.levels.Levels.{level_fails}
use Rattle.sched_model.proofs.levels.Blocks.{window_decides}
use Rattle.sched_model.proofs.cumulative.is_bounded.Goals as goal

pub returns-then-not-is_level_at : goal.returns-then-not-is_level_at
returns-then-not-is_level_at c = let same : to_z w64 (of_z w64 c.begin_of.result) ≡ c.begin_of.result = search rules in
    level_fails c.args.model.now c.args.a.now c.args.b.f c.args.b.window c.args.b.lo c.args.b.hi (to_z w64 (of_z w64 c.begin_of.result)) (same ∙ c.begin_of.ensures) c.if-not-is_level_at.ensures

pub returns : goal.returns
returns c = let same : to_z w64 (of_z w64 c.begin_of.result) ≡ c.begin_of.result = search rules in
    window_decides c.args.model.now c.args.a.now c.args.b.f c.args.b.window c.args.b.lo c.args.b.hi (to_z w64 (of_z w64 c.begin_of.result)) c.keep_in_window.result (same ∙ c.begin_of.ensures) c.if-not-is_level_at.ensures c.keep_in_window.ensures.yes c.keep_in_window.ensures.no
