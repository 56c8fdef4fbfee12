use Rattle.std.proofs.Common.{length}
use Rattle.cpo_text.specs.code.Lists.{items_at}
use Rattle.cpo_text.specs.code.Gives.{ahead}
use Rattle.cpo_text.proofs.listing.Listing.{Ahead}
use Rattle.cpo_text.proofs.lists.items.Given as goal

abbrev pub invariant-loop-items : goal.invariant-loop-items
invariant-loop-items g l = Ahead g.R.Reader.reading (items_at g.R.Reader.reading (ahead l.fn.place)) l.items (ahead l.here)

abbrev pub decreases-loop-items : goal.decreases-loop-items
decreases-loop-items g l = length (ahead l.here)
