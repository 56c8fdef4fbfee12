use Rattle.std.proofs.Common.{◌≡◌, ◌∙◌, sym, ap, rules}
use Rattle.sched_model.specs.declared.types.Shape.TheVariants.{StepAtStart, StepAtEnd}
use Rattle.prop_cumul.specs.code.Calm.{end_stretch, start_stretch, stretch_of}
use Rattle.prop_cumul.proofs.Calming.{as_pulse}
use Rattle.prop_cumul.proofs.calm.stretch_of.Goals as goal

pub returns-in-StepAtStart : goal.returns-in-StepAtStart
returns-in-StepAtStart c =
    let is : c.args.shape ≡ StepAtStart c.in-StepAtStart.a c.in-StepAtStart.h = search rules in
    let of : c.start_stretch.result ≡ start_stretch c.args.minus c.args.c c.args.end = search rules in
    of ∙ sym (ap (λ s. stretch_of c.args.minus s c.args.c c.args.end) is)

pub returns-in-StepAtEnd : goal.returns-in-StepAtEnd
returns-in-StepAtEnd c =
    let is : c.args.shape ≡ StepAtEnd c.in-StepAtEnd.a c.in-StepAtEnd.h = search rules in
    let of : c.end_stretch.result ≡ end_stretch c.args.minus c.args.c c.args.end = search rules in
    of ∙ sym (ap (λ s. stretch_of c.args.minus s c.args.c c.args.end) is)

pub returns-in_default : goal.returns-in_default
returns-in_default c = c.pulse_stretch.ensures ∙ as_pulse c.args.minus c.args.shape c.args.c c.args.end (search rules) (search rules)
