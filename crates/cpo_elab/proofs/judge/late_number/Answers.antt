use Rattle.std.proofs.Common.{◌≡◌, sym, subst}
use Rattle.cpo_elab.specs.code.Judging.{written_in}
use Rattle.cpo_elab.proofs.judge.late_number.Goals as goal

pub has_no_hull-requires : goal.has_no_hull-requires
has_no_hull-requires c = subst (λ m. c.args.written.now ≡ written_in m c.args.s.now) (sym c.draft.ensures) c.requires
