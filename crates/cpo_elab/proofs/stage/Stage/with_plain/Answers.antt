use Rattle.std.proofs.Common.{◌≡◌, sym, subst}
use Rattle.cpo_elab.specs.code.Judging.{written_in}
use Rattle.cpo_elab.proofs.stage.Stage.with_plain.Goals as goal

pub with_statement-requires-clause-written : goal.with_statement-requires-clause-written
with_statement-requires-clause-written c = subst (λ st. c.args.written ≡ written_in st.model c.args.s.now) (sym c.self.view_is) c.requires.written
