use Rattle.std.proofs.Common.{sym, ◌∙◌}
use Rattle.kernel.specs.laws.Pending.{as_many_wait, as_many_saves}
use Rattle.kernel.proofs.pending.Pending.len.Goals as goal

pub returns-clause-waiting : goal.returns-clause-waiting
returns-clause-waiting c = λ h pending. as_many_wait h.saved c.args.self.now pending.guesses ∙ sym c.plain_len.ensures

pub returns-clause-saves : goal.returns-clause-saves
returns-clause-saves c = λ h pending. as_many_saves h.saved c.args.self.now pending.guesses ∙ sym c.plain_len.ensures
