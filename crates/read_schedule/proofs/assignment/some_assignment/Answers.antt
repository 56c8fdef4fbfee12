use Rattle.std.proofs.Common.{◌∙◌, ap, map, length, refl}
use Rattle.sched_model.specs.Value.{present_of}
use Rattle.sched_model.specs.declared.types.Assignment.{Assignment}
use Rattle.read_schedule.proofs.given.Assignments.{some_domain}
use Rattle.read_schedule.proofs.assignment.some_assignment.Goals as goal

pub returns : goal.returns
returns c =
    let bare : Assignment = record { slots = c.args.slots; orders = c.new.result; segs = c.new-2.result } in
    some_domain c.args.model.now c.args.slots bare c.in_ok-orders.orders c.in_ok-segs.segs (length c.states.result.now) c.sequences.ensures.valid c.requires refl
    (c.in_ok-orders.ensures ∙ ap (map (λ d. present_of bare d.members)) c.sequences.ensures.list) (ap length c.states.ensures.list) c.in_ok-segs.ensures
