use Rattle.std.proofs.Common.{take, subst}
use Rattle.std.specs.Prelude.{IfSome}
use Rattle.reasons.specs.Explained.{FrontHas}
use Rattle.reasons.proofs.sought.tested.Goals as goal

pub returns-then-c-behind : goal.returns-then-c-behind
returns-then-c-behind c =
    let before : FrontHas (take c.args.part.from c.args.text.now) c.in-Some.before =
    subst (λ t. FrontHas t c.in-Some.before) c.front.ensures (subst (λ o. IfSome o (FrontHas c.front.result.now)) c.in-Some.is c.in_ok-before.ensures) in
    let behind : FrontHas (take c.args.part.to c.args.text.now) c.in-Some-2.behind =
    subst (λ t. FrontHas t c.in-Some-2.behind) c.front-2.ensures (subst (λ o. IfSome o (FrontHas c.front-2.result.now)) c.in-Some-2.is c.in_ok-behind.ensures) in
    (c.in-Some.before, c.in-Some-2.behind, before, behind, c.if-before-c.true, c.if-c-behind.true)
