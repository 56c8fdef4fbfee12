use Rattle.std.proofs.Common.{◌∙◌}
use Rattle.sched_model.specs.Valid.{node_total}
use Rattle.cpo_elab.proofs.adding.Rooms.{node_rooms}
use Rattle.cpo_elab.proofs.limits.nodes_fit.Goals as goal

pub returns : goal.returns
returns c = λ n is. c.has_node_room.ensures ∙ node_rooms c.room.result (node_total c.args.draft.now) c.args.count n c.room.ensures is
