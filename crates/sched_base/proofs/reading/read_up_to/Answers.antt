use Rattle.std.proofs.Common.{◌≡◌, ◌+◌, arith, subst, sym, ◌∙◌, take, option_map, drop, length, vec_len, []}
use Rattle.std.specs.Prelude.{IfSome}
use Rattle.sched_base.specs.Calls.{Took}
use Rattle.sched_base.specs.State.{left_in}
use Rattle.sched_base.proofs.Steps.{moved_on, took_on, read_on, all_read}
use Rattle.sched_base.proofs.reading.read_up_to.Goals as goal

pub returns-in_err-n-clause-reads : goal.returns-in_err-n-clause-reads
returns-in_err-n-clause-reads g c = read_on _ _ _ _ _ _ c.loop-slot.invariant.took.left (omega (arith, c.loop-slot.invariant.few)) c.in_err-n.ensures.reads

pub returns-then-n-eq0-clause-bytes : goal.returns-then-n-eq0-clause-bytes
returns-then-n-eq0-clause-bytes g c =
    let before = left_in c.args.slot (g.D.Desk.state c.args.desk.now) in
    let k = vec_len c.loop-slot.bytes in
    let none : c.in_ok-n.n ≡ 0 = c.if-n-eq0.true in
    let here : k ≡ k + c.in_ok-n.n = omega (arith, none) in
    let all = took_on _ _ _ _ _ _ _ _ _ c.loop-slot.invariant.took c.in_ok-n.ensures.took in
    let end = subst (λ o. IfSome o (λ bs. length bs ≡ 0)) c.loop-slot.invariant.took.left (c.in_ok-n.ensures.end none) in
    let left = subst (λ m. IfSome (option_map (drop m) before) (λ bs. length bs ≡ 0)) here end in
    let read = all_read before (k + c.in_ok-n.n) c.args.limit c.read_piece.new.bytes.items (omega (arith, none, c.loop-slot.invariant.few)) all.told left in
    subst (λ v. IfSome before (λ bs. v ≡ take c.args.limit bs)) (sym c.from_vec.ensures) read

pub loop-slot-preserved : goal.loop-slot-preserved
loop-slot-preserved g c =
    let all = took_on _ _ _ _ _ _ _ _ _ c.loop-slot.invariant.took c.in_ok-n.ensures.took in
    let size : vec_len c.loop-slot.bytes + c.in_ok-n.n ≡ vec_len c.read_piece.new.bytes = omega (arith, all.size) in
    record {
      moved = moved_on _ _ _ _ c.loop-slot.invariant.moved c.read_piece.ensures.moved;
      kept = c.in_ok-n.ensures.kept ∙ c.loop-slot.invariant.kept;
      took = subst (λ n. Took c.args.slot n [] c.read_piece.new.bytes.items (g.D.Desk.state c.args.desk.now) (g.D.Desk.state c.read_piece.new.desk)) size all;
      few = omega (arith, all.size, c.in_ok-n.ensures.few, c.loop-slot-test.true);
      buffer = c.loop-slot.invariant.buffer;
    }
