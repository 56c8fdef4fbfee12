use Rattle.svg_page.proofs.Steps.{profile_more}
use Rattle.svg_page.proofs.profiles.profiles_of.Goals as goal

pub loop-d-preserved : goal.loop-d-preserved
loop-d-preserved c =
    profile_more c.args.a.now c.args.defs.now c.loop-d.d-index c.d-item.result _ _ _ _ c.loop-d-test.true c.d-item.is c.loop-d.invariant (rw c.as_slice.ensures at c.in_ok-profile.ensures) c.in_ok-push.ensures.items
