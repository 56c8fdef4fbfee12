use Rattle.std.proofs.Common.{◌≡◌, ◌∙◌, ap, sym, subst, arith, true}
use Rattle.sched_model.specs.Valid.{IsValid, is_itv, is_within_limits}
use Rattle.calendar.specs.Rules.{rules_of, with_constraints}
use Rattle.calendar.specs.code.Counts.{made_nodes}
use Rattle.calendar.specs.laws.Fitting.{valid_rules}
use Rattle.cpo_elab.specs.Stages.{demand_of}
use Rattle.cpo_elab.proofs.adding.Made.{rules_counted, room_for_rules, grown_rules}
use Rattle.cpo_elab.proofs.draft.Draft.with_calendar.Goals as goal

pub add_calendar-requires-clause-valid : goal.add_calendar-requires-clause-valid
add_calendar-requires-clause-valid c =
    let m = c.self.inside.model in
    let there = subst (λ m. is_itv m c.args.a ≡ true) (sym c.self.view_is) c.requires.there in
    let limits = subst (λ m. is_within_limits (with_constraints (rules_of (demand_of c.args.word) c.args.a c.args.calendar.now) m) ≡ true) (sym c.self.view_is) c.requires.limits in
    subst (λ ps. IsValid (with_constraints (rules_of (demand_of c.args.word) c.args.a ps) m)) (sym c.function-function.ensures.pairs)
    (valid_rules m (demand_of c.args.word) c.args.a c.args.calendar.now c.self.invariant.valid there c.function-function.ensures.steps limits)

pub overflow_sub-room : goal.overflow_sub-room
overflow_sub-room c =
    let limits = subst (λ m. is_within_limits (with_constraints (rules_of (demand_of c.args.word) c.args.a c.args.calendar.now) m) ≡ true) (sym c.self.view_is) c.requires.limits in
    let count = rules_counted (demand_of c.args.word) c.args.a c.args.calendar.now c.ranges-2.result.now _ c.ranges-2.ensures.closed (c.made_nodes-count.ensures ∙ ap (λ d. made_nodes d c.ranges-2.result.now) c.demand_of.ensures) in
    room_for_rules c.self.inside.model (rules_of (demand_of c.args.word) c.args.a c.args.calendar.now) c.self.inside.room _ c.self.invariant.room_sum limits count

pub invariant_of-result : goal.invariant_of-result
invariant_of-result c =
    let m = c.self.inside.model in
    let there = subst (λ m. is_itv m c.args.a ≡ true) (sym c.self.view_is) c.requires.there in
    let limits = subst (λ m. is_within_limits (with_constraints (rules_of (demand_of c.args.word) c.args.a c.args.calendar.now) m) ≡ true) (sym c.self.view_is) c.requires.limits in
    let count = rules_counted (demand_of c.args.word) c.args.a c.args.calendar.now c.ranges-2.result.now _ c.ranges-2.ensures.closed (c.made_nodes-count.ensures ∙ ap (λ d. made_nodes d c.ranges-2.result.now) c.demand_of.ensures) in
    let valid = valid_rules m (demand_of c.args.word) c.args.a c.args.calendar.now c.self.invariant.valid there c.function-function.ensures.steps limits in
    let less = room_for_rules m (rules_of (demand_of c.args.word) c.args.a c.args.calendar.now) c.self.inside.room _ c.self.invariant.room_sum limits count in
    grown_rules c.self.inside.names c.self.inside.cells c.self.inside.room _ c.made_nodes-count.result m _ (rules_of (demand_of c.args.word) c.args.a c.args.calendar.now) c.self.invariant
    (c.in_ok-add_calendar.ensures ∙ ap (λ ps. with_constraints (rules_of (demand_of c.args.word) c.args.a ps) m) c.function-function.ensures.pairs) valid count (omega (arith, less))
