use Rattle.std.proofs.Common.{subst}
use Rattle.logtext.specs.Reading.{IsLineAt}
use Rattle.log_lines.proofs.Fronts.{line_taken}
use Rattle.log_lines.proofs.reader.LineReader.next.Goals as goal

pub returns-in-Ok-Some : goal.returns-in-Ok-Some
returns-in-Ok-Some g c =
    let read = rw c.in-Ok-Some.field-0-is at c.in-Ok-Some.ensures in
    line_taken g.X.Witness.Numbers.numbers g.X.Witness.Numbers.is_valid c.args.self.now c.self.inside.held.items c.self.inside.at c.in-Ok-Some.to c.self.inside.count c.self.inside.taken c.self.inside.is_bad c.in-Ok-Some.entry c.self.view_is c.if-self.false
    (subst (λ bs. IsLineAt g.X.Witness.Numbers.numbers g.X.Witness.Numbers.is_valid bs c.self.inside.at c.in-Ok-Some.to c.in-Ok-Some.entry) c.as_slice.ensures.value read)
