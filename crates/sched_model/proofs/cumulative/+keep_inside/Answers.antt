use Rattle.std.proofs.Common.{◌≡◌, ◌∙◌, ℕ, ap, sym, rules, to_z, of_z, w64}
use Rattle.sched_model.specs.Cumulative.{is_level_at}
use Rattle.sched_model.specs.Changes.{keep_inside}
use Rattle.sched_model.proofs.levels.Blocks.{block_from, each_keeps, from_some, one_moment, halves_from}
use Rattle.sched_model.proofs.cumulative.+keep_inside.Goals as goal

tested : (t : ℕ) (c : goal.After-keep_each t) → c.keep_each.result ≡ keep_inside c.args.model.now c.args.a.now c.args.b.f c.args.b.window c.args.b.lo c.args.b.hi c.args.span
tested t c = let filled = from_some c.fill_sorted.result _ (sym c.if-is_some.ensures) c.fill_sorted.ensures in
    block_from c.args.model.now c.args.a.now c.args.b.f c.args.b.window c.args.b.lo c.args.b.hi c.args.span c.parts_of-parts.result.now _ _ _ c.fill_sorted.new.changes.items c.as_slice.result.now c.keep_each.result
    c.parts_of-parts.ensures filled.0 c.as_slice.ensures.value c.sum_at-before.ensures.value (search rules) (search rules) c.keep_each.ensures

pub returns-then-is_some-clause-yes : goal.returns-then-is_some-clause-yes
returns-then-is_some-clause-yes t c h = sym (tested t c) ∙ h

pub returns-then-is_some-clause-no : goal.returns-then-is_some-clause-no
returns-then-is_some-clause-no t c each = tested t c ∙ each_keeps c.args.model.now c.args.a.now c.args.b.f c.args.b.window c.args.b.lo c.args.b.hi c.args.span each

pub returns-in-None-clause-yes : goal.returns-in-None-clause-yes
returns-in-None-clause-yes t c h = let same : to_z w64 (of_z w64 c.args.span.to) ≡ c.args.span.to = search rules in
    one_moment c.args.model.now c.args.a.now c.args.b.f c.args.b.window c.args.b.lo c.args.b.hi c.args.span c.in-None.ensures
    (sym (c.is_level_at.ensures ∙ ap (is_level_at c.args.model.now c.args.a.now c.args.b.f c.args.b.window c.args.b.lo c.args.b.hi) same) ∙ h)

pub returns-else-not-keep_inside-clause-yes : goal.returns-else-not-keep_inside-clause-yes
returns-else-not-keep_inside-clause-yes t c h =
    let from : to_z w64 (of_z w64 c.args.span.from) ≡ c.args.span.from = search rules in
    let mid : to_z w64 (of_z w64 c.in-Some.t) ≡ c.in-Some.t = search rules in
    let to : to_z w64 (of_z w64 c.args.span.to) ≡ c.args.span.to = search rules in
    halves_from c.args.model.now c.args.a.now c.args.b.f c.args.b.window c.args.b.lo c.args.b.hi c.args.span.from c.in-Some.t c.args.span.to
    (to_z w64 (of_z w64 c.args.span.from)) (to_z w64 (of_z w64 c.in-Some.t)) (to_z w64 (of_z w64 c.in-Some.t)) (to_z w64 (of_z w64 c.args.span.to))
    c.in-Some.ensures.0 c.in-Some.ensures.1 from mid mid to (c.keep_inside.ensures.yes c.if-not-keep_inside.false) (c.keep_inside-in-Some.ensures.yes h)
