use Rattle.std.proofs.Common.{sym, ◌∙◌}
use Rattle.std.specs.Vec.{vec_ptr}
use Rattle.iqueue.specs.code.Queue.{without}
use Rattle.iqueue.specs.code.Links.{numbers}
use Rattle.iqueue.proofs.Links.{queue_linked, queue_read, view_read, unwoken_is}
use Rattle.iqueue.proofs.linked.LinkedQueue.unwake.Goals as goal

pub first_number-self-inside-requires : goal.first_number-self-inside-requires
first_number-self-inside-requires c =
    let v = c.self.inside.nodes in
    let u = c.unlink-self-inside in
    record { linked = queue_linked (vec_ptr v) (vec_ptr u.new.nodes) u.new.nodes.items u.result.first u.result.last (without c.args.k (numbers (vec_ptr v) v.items c.self.inside.ends.first)) u.ensures.block.at u.ensures.linked }

pub invariant_of-self : goal.invariant_of-self
invariant_of-self c =
    let v = c.self.inside.nodes in
    let u = c.unlink-self-inside in
    let f = c.first_number-self-inside in
    queue_read (vec_ptr u.new.nodes) (vec_ptr f.new.nodes) u.new.nodes.items f.new.nodes.items u.result.first u.result.last f.result f.ensures.block.at f.ensures.same
    (queue_linked (vec_ptr v) (vec_ptr u.new.nodes) u.new.nodes.items u.result.first u.result.last (without c.args.k (numbers (vec_ptr v) v.items c.self.inside.ends.first)) u.ensures.block.at u.ensures.linked) f.ensures.first

pub returns : goal.returns
returns c =
    let v = c.self.inside.nodes in
    let u = c.unlink-self-inside in
    let f = c.first_number-self-inside in
    view_read (vec_ptr u.new.nodes) (vec_ptr f.new.nodes) u.new.nodes.items f.new.nodes.items u.result.first f.ensures.block.at f.ensures.same
    ∙ unwoken_is (vec_ptr v) (vec_ptr u.new.nodes) v.items u.new.nodes.items c.self.inside.ends.first u.result.first u.result.last c.args.k c.args.self.now c.self.view_is u.ensures.block.at
    (sym u.new.nodes.ok.0 ∙ u.ensures.block.len ∙ v.ok.0) u.ensures.linked
