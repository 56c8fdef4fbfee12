use Rattle.std.proofs.Common.{◌≡◌, ◌∙◌, arith, get_or, subst, false, IfSome, IfNone}
use Rattle.std.proofs.lemmas.List.{length-set}
use Rattle.refute_state.specs.code.Gathered.{demands_at}
use Rattle.prop_state.specs.code.Walks.{IsNamed}
use Rattle.prop_state.proofs.Making.{noted_more, never_other}
use Rattle.prop_state.proofs.demands.note_demands.Goals as goal

pub loop-i-preserved-in_default : goal.loop-i-preserved-in_default
loop-i-preserved-in_default c = absurd (never_other c.args.model.now c.args.k c.loop-i.i 0 c.args.cs.now c.loop-i-test.true c.requires.demands
    (subst (λ o. IfNone o (demands_at c.args.model.now c.args.k (get_or c.args.cs.now c.loop-i.i 0) ≡ false)) c.in_default.is c.own_demand.ensures.none))

pub loop-i-preserved : goal.loop-i-preserved
loop-i-preserved c =
    let room = c.requires.room in
    let same = c.loop-i.invariant.same in
    let below = c.loop-i-test.true in
    record {
      same = length-set c.loop-i.notes c.loop-i.i _ ∙ same;
      noted = noted_more c.args.model.now c.args.region.now.region c.args.k c.loop-i.i 0 c.args.cs.now c.loop-i.notes c.in-Some.named below (omega (arith, room, same, below)) c.loop-i.invariant.noted
          (subst (λ o. IfSome o (IsNamed c.args.model.now c.args.region.now.region c.args.k (get_or c.args.cs.now c.loop-i.i 0))) c.in-Some.is c.own_demand.ensures.some);
    }

pub returns-clause-noted : goal.returns-clause-noted
returns-clause-noted c = λ i below d n. (let all = c.loop-i-test.false in c.loop-i.invariant.noted i (omega (arith, below, all)) d n)
