use Rattle.std.proofs.Common.{◌≡◌, false, sym, ◌∙◌, rules}
use Rattle.std.proofs.lemmas.Bool.{true≢false}
use Rattle.region.specs.Guesses.{admits}
use Rattle.prop_temporal.specs.laws.Quieting.{present_at, quiet_next, busy_plain, busy_present}
use Rattle.prop_temporal.proofs.walks.Walks.next.Goals as goal

pub returns-in-Some-clause-busy : goal.returns-in-Some-clause-busy
returns-in-Some-clause-busy c = busy_plain c.args.model.now c.args.region.now.region c.args.best c.in-Some.arcs (rw c.in-Some.is at c.in_ok-arcs.ensures.some)

pub loop-n-preserved-then-not-admits : goal.loop-n-preserved-then-not-admits
loop-n-preserved-then-not-admits c =
    let closed : admits c.args.region.now.region (present_at c.loop-n.n) ≡ false = search rules in
    (quiet_next c.args.model.now c.args.region.now.region c.args.best c.loop-n.n (λ free. absurd (true≢false (sym free ∙ closed))) c.loop-n.invariant.0, c.loop-n.invariant.1)

pub returns-in-Some-2-clause-busy : goal.returns-in-Some-2-clause-busy
returns-in-Some-2-clause-busy c = busy_present c.args.model.now c.args.region.now.region c.args.best c.in-Some-2.arcs c.loop-n.n (search rules) (rw c.in-Some-2.is at c.in_ok-arcs-2.ensures.some)

pub loop-n-preserved : goal.loop-n-preserved
loop-n-preserved c = (quiet_next c.args.model.now c.args.region.now.region c.args.best c.loop-n.n (λ free. rw c.in_default-2.is at c.in_ok-arcs-2.ensures.none) c.loop-n.invariant.0, c.in_ok-arcs-2.ensures.ready)
