use Rattle.std.proofs.Common.{◌≡◌, inl, inr, ℕ, ◌<◌, List, [], get_or, set, slice_get, length, subst, sym, ap, ◌∙◌, arith}
use Rattle.std.proofs.lemmas.List.{set-get_or}
use Rattle.iqueue.specs.code.Queue.{Queue}
use Rattle.wake_levels.specs.code.Queues.{lists_of}
use Rattle.wake_levels.proofs.Queueing.{turn_at, no_turn, list_at, below_at, lists_count, first_below, empty_list}
use Rattle.wake_levels.proofs.levels.first_on.Goals as goal
use Rattle.base_laws.specs.laws.Numbers.{below_or_last}

pub returns-in-Some-clause-turn : goal.returns-in-Some-clause-turn
returns-in-Some-clause-turn c =
    let qs = c.args.queues.now in
    let i = c.loop-level.level in
    let q = c.index-queues-level.result in
    let at : q ≡ get_or qs i q = subst (λ (ps : List Queue). q ≡ get_or ps i q) c.loop-level.invariant.same c.index-queues-level.is in
    let low : i < length qs = omega (arith, c.loop-level-test.true) in
    let lows : i < length (lists_of qs) = omega (arith, low, lists_count qs) in
    sym (turn_at (lists_of qs) i c.in-Some.k lows c.loop-level.invariant.before (ap (λ (ks : List ℕ). slice_get ks 0) (list_at qs i q low at ∙ ap (λ (p : Queue). p.list) c.index-queues-level.is) ∙ sym c.in-Some.ensures.first))

pub returns-in-Some-clause-below : goal.returns-in-Some-clause-below
returns-in-Some-clause-below c n are =
    let qs = c.args.queues.now in
    let i = c.loop-level.level in
    let q = c.index-queues-level.result in
    let at : q ≡ get_or qs i q = subst (λ (ps : List Queue). q ≡ get_or ps i q) c.loop-level.invariant.same c.index-queues-level.is in
    let low : i < length qs = omega (arith, c.loop-level-test.true) in
    let here : Queue = get_or c.loop-level.queues i q in
    subst (λ (m : ℕ). c.in-Some.k < m) (sym (ap (λ (p : Queue). p.below) c.index-queues-level.is) ∙ below_at qs i n q low at are) (first_below here.below c.in-Some.k here.list c.in-Some.ensures.first c.in-Some.ensures.distinct)

pub loop-level-preserved : goal.loop-level-preserved
loop-level-preserved c =
    let qs = c.args.queues.now in
    let i = c.loop-level.level in
    let q = c.index-queues-level.result in
    let at : q ≡ get_or qs i q = subst (λ (ps : List Queue). q ≡ get_or ps i q) c.loop-level.invariant.same c.index-queues-level.is in
    let low : i < length qs = omega (arith, c.loop-level-test.true) in
    let new : c.first.new.self ≡ get_or qs i q = c.first.ensures.same ∙ sym c.index-queues-level.is ∙ at in
    record {
      before = λ j less. elim (below_or_last j i less) [
        | inl h ↦ c.loop-level.invariant.before j h
        | inr e ↦ subst (λ (j : ℕ). get_or (lists_of qs) j [] ≡ []) (sym e) (list_at qs i q low at ∙ ap (λ (p : Queue). p.list) c.index-queues-level.is ∙ empty_list (get_or c.loop-level.queues i q).list c.in_default.ensures.first)
      ];
      same = ap (λ (ps : List Queue). set ps i c.first.new.self) c.loop-level.invariant.same ∙ ap (set qs i) new ∙ set-get_or qs i q;
    }

pub returns-clause-turn : goal.returns-clause-turn
returns-clause-turn c =
    let qs = c.args.queues.now in
    sym (no_turn (lists_of qs) (λ i less. c.loop-level.invariant.before i (omega (arith, less, c.loop-level-test.false, lists_count qs))))
