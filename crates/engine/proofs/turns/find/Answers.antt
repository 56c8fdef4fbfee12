use Rattle.std.proofs.Common.{◌≡◌, ℕ, false, refl, sym, ap, subst, ◌∙◌, ◌<◌, arith}
use Rattle.wake_levels.specs.code.Waking.{Waking, is_awake, without_on_all, woken_on}
use Rattle.engine.proofs.Turning.{asleep, later, quiet_all, asleep_all}
use Rattle.engine.proofs.turns.find.Goals as goal

pub returns-in_default-clause-none : goal.returns-in_default-clause-none
returns-in_default-clause-none g c =
    quiet_all (g.P.Propagator.size c.args.model.now) (λ k. g.P.Propagator.quiet c.args.model.now k c.args.region.now.region c.args.best) c.awake.levels _ c.in_default.ensures.turn refl c.awake.invariant.calm

pub returns-in_default-clause-asleep : goal.returns-in_default-clause-asleep
returns-in_default-clause-asleep g c = subst (λ (w : Waking). (k : ℕ) → is_awake w k ≡ false) (sym c.first.ensures.same) (asleep_all c.awake.levels _ c.in_default.ensures.turn refl)

pub awake-smaller-in_default-2 : goal.awake-smaller-in_default-2
awake-smaller-in_default-2 g c =
    (asleep (g.P.Propagator.size c.args.model.now) (λ k. g.P.Propagator.quiet c.args.model.now k c.args.region.now.region c.args.best) c.awake.levels c.unwake.new.self _ c.in-Some.turn
    c.in-Some.ensures.turn refl (c.unwake.ensures ∙ ap (λ (w : Waking). record w { levels = without_on_all c.in-Some.turn.k w.levels }) c.first.ensures.same) (rw c.in_default-2.is at c.in_ok-f.ensures.none) c.awake.invariant.calm).lighter

pub awake-preserved-in_default-2 : goal.awake-preserved-in_default-2
awake-preserved-in_default-2 g c =
    let now = asleep (g.P.Propagator.size c.args.model.now) (λ k. g.P.Propagator.quiet c.args.model.now k c.args.region.now.region c.args.best) c.awake.levels c.unwake.new.self _ c.in-Some.turn
    c.in-Some.ensures.turn refl (c.unwake.ensures ∙ ap (λ (w : Waking). record w { levels = without_on_all c.in-Some.turn.k w.levels }) c.first.ensures.same) (rw c.in_default-2.is at c.in_ok-f.ensures.none) c.awake.invariant.calm in
    record {
      of = c.next.ensures.kept;
      below = now.below ∙ c.awake.invariant.below;
      within = subst (λ n. c.min-late.result < n) (sym now.count) c.awake.invariant.within;
      calm = now.calm;
    }

pub awake-smaller-then-can_wait : goal.awake-smaller-then-can_wait
awake-smaller-then-can_wait g c =
    (later (g.P.Propagator.size c.args.model.now) c.level_behind-behind.result (λ k. g.P.Propagator.quiet c.args.model.now k c.args.region.now.region c.args.best) c.awake.levels c.put_off.new.levels _ c.in-Some.turn
    c.in-Some.ensures.turn refl (rw c.first.ensures.same at c.level_behind-behind.ensures.within) (omega (arith, c.if-turn-late.true, c.level_behind-behind.ensures.behind))
    (c.put_off.ensures ∙ ap (λ (w : Waking). record w { levels = woken_on c.in-Some.turn.k c.level_behind-behind.result (without_on_all c.in-Some.turn.k w.levels) }) c.first.ensures.same) c.awake.invariant.calm).lighter

pub awake-preserved-then-can_wait : goal.awake-preserved-then-can_wait
awake-preserved-then-can_wait g c =
    let now = later (g.P.Propagator.size c.args.model.now) c.level_behind-behind.result (λ k. g.P.Propagator.quiet c.args.model.now k c.args.region.now.region c.args.best) c.awake.levels c.put_off.new.levels _ c.in-Some.turn
    c.in-Some.ensures.turn refl (rw c.first.ensures.same at c.level_behind-behind.ensures.within) (omega (arith, c.if-turn-late.true, c.level_behind-behind.ensures.behind))
    (c.put_off.ensures ∙ ap (λ (w : Waking). record w { levels = woken_on c.in-Some.turn.k c.level_behind-behind.result (without_on_all c.in-Some.turn.k w.levels) }) c.first.ensures.same) c.awake.invariant.calm in
    record {
      of = c.can_wait.ensures.kept;
      below = now.below ∙ c.awake.invariant.below;
      within = subst (λ n. c.min-late.result < n) (sym now.count) c.awake.invariant.within;
      calm = now.calm;
    }

pub awake-smaller : goal.awake-smaller
awake-smaller g c =
    (later (g.P.Propagator.size c.args.model.now) c.min-late.result (λ k. g.P.Propagator.quiet c.args.model.now k c.args.region.now.region c.args.best) c.awake.levels c.put_off-then-is_late.new.levels _ c.in-Some.turn
    c.in-Some.ensures.turn refl c.awake.invariant.within c.if-turn-late-2.true (c.put_off-then-is_late.ensures ∙ ap (λ (w : Waking). record w { levels = woken_on c.in-Some.turn.k c.min-late.result (without_on_all c.in-Some.turn.k w.levels) }) c.first.ensures.same) c.awake.invariant.calm).lighter

pub awake-preserved : goal.awake-preserved
awake-preserved g c =
    let now = later (g.P.Propagator.size c.args.model.now) c.min-late.result (λ k. g.P.Propagator.quiet c.args.model.now k c.args.region.now.region c.args.best) c.awake.levels c.put_off-then-is_late.new.levels _ c.in-Some.turn
    c.in-Some.ensures.turn refl c.awake.invariant.within c.if-turn-late-2.true (c.put_off-then-is_late.ensures ∙ ap (λ (w : Waking). record w { levels = woken_on c.in-Some.turn.k c.min-late.result (without_on_all c.in-Some.turn.k w.levels) }) c.first.ensures.same) c.awake.invariant.calm in
    record {
      of = c.next.ensures.kept;
      below = now.below ∙ c.awake.invariant.below;
      within = subst (λ n. c.min-late.result < n) (sym now.count) c.awake.invariant.within;
      calm = now.calm;
    }
