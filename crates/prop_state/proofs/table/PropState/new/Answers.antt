use Rattle.std.proofs.Common.{◌≡◌, ◌<◌, ◌^◌, length, arith, rules}
use Rattle.prop_state.proofs.Making.{room_for_each}
use Rattle.prop_state.proofs.table.PropState.new.Goals as goal

pub invariant_of-result : goal.invariant_of-result
invariant_of-result c =
    let few : length c.in_ok-demands.demands.items < 2 ^ 32 = search rules in
    let room : length c.in_ok-notes.notes.items ≡ length c.args.model.now.constraints = search rules in
    (few, room_for_each c.args.model.now _ (length c.in_ok-notes.notes.items) c.in_ok-demands.demands.items c.in_ok-demands.ensures (omega (arith, room)))
