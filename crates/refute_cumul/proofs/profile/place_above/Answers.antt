use Rattle.std.proofs.Common.{◌≡◌, ◌≤ℤ◌, ◌<ℤ◌, get_or, pos, subst, rules, to_z, of_z}
use Rattle.std.specs.Int.{w128}
use Rattle.refute_cumul.specs.declared.profile.Level.{Level}
use Rattle.refute_cumul.specs.declared.reach.Reach.{Reach}
use Rattle.refute_cumul.proofs.Placing.{IsPassed, passed_one, passed_run, never_by_moment, above_here, late_here, low_here}
use Rattle.refute_cumul.proofs.profile.place_above.Goals as goal

pub returns-then-levels-i-clause-none : goal.returns-then-levels-i-clause-none
returns-then-levels-i-clause-none c = let e : Level = record { t = pos 0; level = pos 0 } in
    let same : to_z w128 (of_z w128 c.args.limit) ≡ c.args.limit = search rules in
    let late : c.args.to ≤ℤ (get_or c.args.levels.now c.loop-i.i e).t = search rules in
    never_by_moment c.args.levels.now c.args.k c.loop-i.i c.args.to c.args.limit c.requires.rising (subst (λ z. IsPassed c.args.levels.now c.args.k c.loop-i.i z) same c.loop-i.invariant) c.loop-i-test.true
    (late_here c.args.levels.now c.loop-i.i c.args.to e c.loop-i-test.true late)

pub returns-then-limit-levels-clause-some : goal.returns-then-limit-levels-clause-some
returns-then-limit-levels-clause-some c = let e : Level = record { t = pos 0; level = pos 0 } in
    let early : (get_or c.args.levels.now c.loop-i.i e).t <ℤ c.args.to = search rules in
    let over : c.args.limit <ℤ (get_or c.args.levels.now c.loop-i.i e).level = search rules in
    above_here c.args.levels.now c.args.k c.loop-i.i c.args.to c.args.limit e c.loop-i.invariant.from c.loop-i-test.true early over

pub loop-i-preserved-then-reach-limit : goal.loop-i-preserved-then-reach-limit
loop-i-preserved-then-reach-limit c = let q : Reach = record { top = pos 0; next = 0 } in
    let low : (get_or c.args.reaches.now c.loop-i.i q).top ≤ℤ to_z w128 (of_z w128 c.args.limit) = search rules in
    passed_run c.args.levels.now c.args.k c.loop-i.i (to_z w128 (of_z w128 c.args.limit)) (get_or c.args.reaches.now c.loop-i.i q) c.loop-i.invariant (c.requires.each.each c.loop-i.i q c.loop-i-test.true) low

pub loop-i-preserved : goal.loop-i-preserved
loop-i-preserved c = let e : Level = record { t = pos 0; level = pos 0 } in
    let low : (get_or c.args.levels.now c.loop-i.i e).level ≤ℤ to_z w128 (of_z w128 c.args.limit) = search rules in
    passed_one c.args.levels.now c.args.k c.loop-i.i (to_z w128 (of_z w128 c.args.limit)) c.loop-i.invariant c.loop-i-test.true (low_here c.args.levels.now c.loop-i.i _ e c.loop-i-test.true low)
