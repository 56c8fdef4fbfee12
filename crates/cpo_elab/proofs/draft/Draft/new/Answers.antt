use Rattle.cpo_elab.proofs.named.Meanings.{first_draft}
use Rattle.cpo_elab.proofs.draft.Draft.new.Goals as goal

pub invariant_of-result : goal.invariant_of-result
invariant_of-result c = first_draft c.new-2.result c.new.result c.new-2.ensures c.new.ensures
