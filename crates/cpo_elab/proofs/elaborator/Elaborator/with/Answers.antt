use Rattle.std.proofs.Common.{◌≡◌, ◌+◌, None, sym, subst, arith}
use Rattle.cpo_elab.specs.code.Judging.{written_in}
use Rattle.cpo_elab.specs.Judged.{number_in}
use Rattle.cpo_elab.proofs.judging.Stepped.{few}
use Rattle.cpo_elab.proofs.elaborator.Elaborator.with.Goals as goal

pub with-requires-clause-written : goal.with-requires-clause-written
with-requires-clause-written c = subst (λ e. c.args.written ≡ written_in e.stage.model c.args.s.now) (sym c.self.view_is) c.requires.written

pub with-requires-clause-clear : goal.with-requires-clause-clear
with-requires-clause-clear c = (c.self.inside.statements + 1, subst (λ e. number_in e.stage (e.statements + 1) c.args.s.now ≡ None) (sym c.self.view_is) c.requires.clear)

pub invariant_of-result : goal.invariant_of-result
invariant_of-result c =
    let clear = subst (λ e. number_in e.stage (e.statements + 1) c.args.s.now ≡ None) (sym c.self.view_is) c.requires.clear in
    let room = few c.self.inside.stage c.self.inside.statements c.args.s.now clear in
    record { few = omega (arith, room) }
