use Rattle.std.proofs.Common.{◌≡◌, ◌+◌, ◌∙◌, Err, rules, sym, ap, subst, length, arith, true}
use Rattle.sched_model.specs.Domain.{are_segments, lists_present}
use Rattle.sched_model.specs.Words.{placewise}
use Rattle.sched_model.specs.laws.Limits.{limits_of}
use Rattle.read_schedule.specs.code.Rows.{order_row, state_row}
use Rattle.read_schedule.specs.code.Reads.{HasSlots, ReadsBeside, ReadsBody}
use Rattle.read_schedule.specs.declared.stop.PartStop.TheVariants.{Line}
use Rattle.read_schedule.proofs.whole.Body.{slots_failed, orders_stop, states_stop, end_stops, all_there, read_front, read_domain, all_read, few_segments}
use Rattle.read_schedule.proofs.reading.read_body.Goals as goal

pub returns-in_err-slots : goal.returns-in_err-slots
returns-in_err-slots c =
    let is : c.from_residual.result ≡ Err c.in_err-slots.field-0.0 = search rules in
    subst (ReadsBody c.args.model.now c.args.lines.now) (sym is) (slots_failed c.args.model.now c.requires.valid c.args.lines.now c.read_slots.new.lines c.in_err-slots.field-0.0 c.requires.stand c.in_err-slots.ensures)

pub returns-in-Err-Line : goal.returns-in-Err-Line
returns-in-Err-Line c =
    let m = c.args.model.now in
    let a = c.in_ok-a.a in
    let is : c.read_orders.result ≡ Err (Line c.in-Err-Line.n) = search rules in
    let stops = subst (ReadsBeside (order_row m) (lists_present a) m.sequences a c.read_slots.new.lines c.read_orders.new.lines) is c.read_orders.ensures in
    orders_stop m c.intervals-before.ensures.valid c.in_ok-slots.slots a c.args.lines.now c.read_slots.new.lines c.in-Err-Line.n _ c.in_ok-slots.ensures.0 c.in_ok-a.ensures c.in_ok-slots.ensures.1 stops
    (ap (λ j. length c.intervals-before.result.now + j) c.in-Err-Line.n-is ∙ ap (λ ds. length ds + c.in-Err-Line.n) c.intervals-before.ensures.list)

pub overflow_add-result-in-Err-Line-read_states : goal.overflow_add-result-in-Err-Line-read_states
overflow_add-result-in-Err-Line-read_states c =
    let m = c.args.model.now in
    let is : c.read_states.result ≡ Err (Line c.in-Err-Line-read_states.n) = search rules in
    let stops = subst (ReadsBeside state_row (are_segments m) m.states c.in-Ok.read.0 c.read_orders.new.lines c.read_states.new.lines) is c.read_states.ensures in
    let few = limits_of m c.intervals-before.ensures.valid.limits in
    omega (arith, few_segments m c.read_orders.new.lines c.in-Err-Line-read_states.n stops, few.intervals, few.sequences, few.states, ap length c.intervals-before.ensures.list, ap length c.sequences.ensures.list)

pub returns-in-Err-Line-read_states : goal.returns-in-Err-Line-read_states
returns-in-Err-Line-read_states c =
    let m = c.args.model.now in
    let a = c.in_ok-a.a in
    let is : c.read_states.result ≡ Err (Line c.in-Err-Line-read_states.n) = search rules in
    let stops = subst (ReadsBeside state_row (are_segments m) m.states c.in-Ok.read.0 c.read_orders.new.lines c.read_states.new.lines) is c.read_states.ensures in
    states_stop m c.intervals-before.ensures.valid c.in_ok-slots.slots a c.in-Ok.read.1 c.args.lines.now c.read_slots.new.lines c.read_orders.new.lines c.in-Err-Line-read_states.n _ c.in_ok-a.ensures c.in_ok-slots.ensures.1 c.in-Ok.ensures.1 c.in-Ok.ensures.2 stops
    (ap (λ ds. length ds + length c.sequences.result.now + c.in-Err-Line-read_states.n) c.intervals-before.ensures.list ∙ ap (λ ds. length m.intervals + length ds + c.in-Err-Line-read_states.n) c.sequences.ensures.list)

pub returns-in-None : goal.returns-in-None
returns-in-None c =
    let m = c.args.model.now in
    let a = c.in-Ok-read_states.read.0 in
    let orders = c.in-Ok.read.1 in
    let segs = c.in-Ok-read_states.read.1 in
    let same : a ≡ c.in_ok-a.a = c.in-Ok-read_states.ensures.0 ∙ c.in-Ok.ensures.0 in
    let has = subst (HasSlots m c.in_ok-slots.slots) (sym same) c.in_ok-a.ensures in
    let lists = subst (λ b. placewise (lists_present b) m.sequences orders ≡ true) (sym same) c.in-Ok.ensures.1 in
    let fin = all_read a orders segs in (
      read_domain m a orders segs has.domain lists c.in-Ok-read_states.ensures.1,
      all_there m fin c.args.lines.now c.read_states.new.lines (read_front m c.in_ok-slots.slots a orders segs c.args.lines.now c.read_slots.new.lines c.read_orders.new.lines c.read_states.new.lines has c.in_ok-slots.ensures.1 c.in-Ok.ensures.2 c.in-Ok-read_states.ensures.2) c.in-None.ensures,
    )

pub returns : goal.returns
returns c =
    let m = c.args.model.now in
    let a = c.in-Ok-read_states.read.0 in
    let orders = c.in-Ok.read.1 in
    let segs = c.in-Ok-read_states.read.1 in
    let same : a ≡ c.in_ok-a.a = c.in-Ok-read_states.ensures.0 ∙ c.in-Ok.ensures.0 in
    let has = subst (HasSlots m c.in_ok-slots.slots) (sym same) c.in_ok-a.ensures in
    let lists = subst (λ b. placewise (lists_present b) m.sequences orders ≡ true) (sym same) c.in-Ok.ensures.1 in
    let fin = all_read a orders segs in
    end_stops m c.intervals-before.ensures.valid fin c.args.lines.now c.read_states.new.lines c.in-Some.n _ (read_domain m a orders segs has.domain lists c.in-Ok-read_states.ensures.1)
    (read_front m c.in_ok-slots.slots a orders segs c.args.lines.now c.read_slots.new.lines c.read_orders.new.lines c.read_states.new.lines has c.in_ok-slots.ensures.1 c.in-Ok.ensures.2 c.in-Ok-read_states.ensures.2) c.in-Some.ensures
    (ap (λ ds. length ds + length c.sequences.result.now + length c.states.result.now + c.in-Some.n) c.intervals-before.ensures.list
    ∙ ap (λ ds. length m.intervals + length ds + length c.states.result.now + c.in-Some.n) c.sequences.ensures.list
    ∙ ap (λ ds. length m.intervals + length m.sequences + length ds + c.in-Some.n) c.states.ensures.list)
