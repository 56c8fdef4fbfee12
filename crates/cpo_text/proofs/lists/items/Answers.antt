use Rattle.std.proofs.Common.{sym}
use Rattle.cpo_text.proofs.listing.Listing.{ahead_start, ahead_last, ahead_next}
use Rattle.cpo_text.proofs.lists.items.Goals as goal

pub loop-items-init : goal.loop-items-init
loop-items-init g c = ahead_start _ _ _ c.new-items.ensures

pub loop-items-preserved : goal.loop-items-preserved
loop-items-preserved g c = rw c.in_ok-push.ensures.ok (ahead_next _ _ _ _ _ _ _ c.in_ok-item.ensures.item c.in_ok-item.ensures.later (sym c.in-Some.ensures) c.loop-items.invariant)

pub returns-in-None : goal.returns-in-None
returns-in-None g c = rw c.in_ok-push.ensures.ok (ahead_last _ _ _ _ _ _ c.in_ok-item.ensures.item c.in_ok-item.ensures.later (sym c.in-None.ensures) c.loop-items.invariant)
