use Rattle.std.proofs.Common.{arith, ◌∙◌, subst}
use Rattle.std.proofs.lemmas.List.{length-set, get_or_default}
use Rattle.sched_base.specs.declared.ids.Itv.{Itv}
use Rattle.region.specs.Cells.{bounds_of}
use Rattle.findings.specs.code.Numbers.{ends_of}
use Rattle.prop_unary.specs.code.Silence.{IsKeyed}
use Rattle.prop_unary.proofs.Noted.{keys_set}
use Rattle.prop_unary.proofs.keys.note_keys.Goals as goal

pub loop-k-preserved : goal.loop-k-preserved
loop-k-preserved c =
    let room = c.requires in
    let same = c.loop-k.invariant.same in
    let below = c.loop-k-test.true in
    record {
      same = length-set c.loop-k.keys c.loop-k.k _ ∙ same;
      noted = keys_set c.args.look.now.region c.args.members.now c.loop-k.keys c.loop-k.k c.keys_at.result (omega (arith, room, same, below)) c.loop-k.invariant.noted
          (λ x. subst (λ (y : Itv). IsKeyed (ends_of (bounds_of c.args.look.now.region y)) c.keys_at.result) (get_or_default c.args.members.now c.loop-k.k _ x below) c.keys_at.ensures);
    }
