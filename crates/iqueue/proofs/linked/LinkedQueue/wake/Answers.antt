use Rattle.std.proofs.Common.{◌≡◌, ◌++◌, ◌∷◌, [], length, sym, ap, ◌∙◌}
use Rattle.std.specs.Vec.{vec_ptr}
use Rattle.iqueue.specs.code.Links.{numbers}
use Rattle.iqueue.proofs.Links.{queue_linked, woken_is, only_first, still_first}
use Rattle.iqueue.proofs.linked.LinkedQueue.wake.Goals as goal
use Rattle.iqueue.proofs.linked.LinkedQueue.wake.Goals.{then-is_none, else-is_none}

pub invariant_of-self : goal.invariant_of-self
invariant_of-self c =
    let v = c.if-is_none.self-inside in
    let a = c.append-self-inside in (
      queue_linked (vec_ptr v.nodes) (vec_ptr a.new.nodes) a.new.nodes.items a.result.first a.result.last (numbers (vec_ptr v.nodes) v.nodes.items v.ends.first ++ c.args.k ∷ []) a.ensures.block.at a.ensures.linked,
      elim c.if-is_none.branch [
        | then-is_none w ↦ only_first (vec_ptr v.nodes) (vec_ptr a.new.nodes) v.nodes.items a.new.nodes.items v.ends.first a.result.first a.result.last c.args.k v.front a.ensures.block.at (rw w.self-inside-is w.if-is_none.ensures) (ap (λ i. i.front) w.self-inside-is) a.ensures.linked
        | else-is_none w ↦ still_first (vec_ptr v.nodes) (vec_ptr a.new.nodes) v.nodes.items a.new.nodes.items v.ends.first a.result.first a.result.last c.args.k v.front a.ensures.block.at (rw w.self-inside-is w.if-is_none.ensures) (rw w.self-inside-is c.self.invariant.1) a.ensures.linked
      ],
    )

pub returns : goal.returns
returns c =
    let v = c.if-is_none.self-inside in
    let a = c.append-self-inside in
    let same_view : record { below = length v.nodes.items; list = numbers (vec_ptr v.nodes) v.nodes.items v.ends.first } ≡ c.args.self.now =
    elim c.if-is_none.branch [ then-is_none w ↦ rw w.self-inside-is c.self.view_is | else-is_none w ↦ rw w.self-inside-is c.self.view_is ] in
    woken_is (vec_ptr v.nodes) (vec_ptr a.new.nodes) v.nodes.items a.new.nodes.items v.ends.first a.result.first a.result.last c.args.k c.args.self.now same_view a.ensures.block.at
    (sym a.new.nodes.ok.0 ∙ a.ensures.block.len ∙ v.nodes.ok.0) c.requires.absent a.ensures.linked
