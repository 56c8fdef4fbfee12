use Rattle.std.proofs.Common.{None, refl, rules, sym, subst}
use Rattle.std.specs.Option.{option_copied}
use Rattle.read_schedule.specs.code.Reads.{TakesLine}
use Rattle.read_schedule.proofs.spelling.Texts.{line_taken, no_line}
use Rattle.read_schedule.proofs.lines.Lines.next.Goals as goal

pub returns-in_err-at : goal.returns-in_err-at
returns-in_err-at c =
    let here = subst (λ s. TakesLine s s None) c.self.view_is (refl, no_line c.self.inside.rest.now c.in_err-at.ensures) in
    subst (λ r. TakesLine c.args.self.now c.args.self.now (option_copied r)) (sym c.from_residual.ensures) here

pub returns : goal.returns
returns c = line_taken c.args.self.now c.split_at.result.0.now c.split_at-2.result.1.now c.in_ok-at.at (search rules) (search rules) (search rules)
