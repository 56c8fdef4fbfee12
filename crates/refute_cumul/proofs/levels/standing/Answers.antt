use Rattle.std.proofs.Common.{◌∙◌, rules}
use Rattle.refute_cumul.proofs.Bounding.{pulse_arm, start_arm, end_arm}
use Rattle.refute_cumul.proofs.levels.standing.Goals as goal

pub returns-in-PulseOf : goal.returns-in-PulseOf
returns-in-PulseOf c = pulse_arm c.args.minus c.args.c c.args.shape c.pulse.result c.in-PulseOf.a c.in-PulseOf.h c.in-PulseOf.is (c.pulse.ensures ∙ search rules)

pub returns-in-StepAtStart : goal.returns-in-StepAtStart
returns-in-StepAtStart c = start_arm c.args.minus c.args.c c.args.shape c.step.result c.in-StepAtStart.a c.in-StepAtStart.h c.start_in.result c.in-StepAtStart.is (c.start_in.ensures ∙ search rules) (c.step.ensures ∙ search rules)

pub returns-in-StepAtEnd : goal.returns-in-StepAtEnd
returns-in-StepAtEnd c = end_arm c.args.minus c.args.c c.args.shape c.step-in-StepAtEnd.result c.in-StepAtEnd.a c.in-StepAtEnd.h c.end_in.result c.in-StepAtEnd.is (c.end_in.ensures ∙ search rules) (c.step-in-StepAtEnd.ensures ∙ search rules)
