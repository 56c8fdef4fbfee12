use Rattle.std.proofs.Common.{w64, rules, arith, ap, ◌∙◌}
use Rattle.std.proofs.lemmas.Int.{ints, to_z-of_z}
use Rattle.sched_model.specs.Bounds.{is_small}
use Rattle.read_schedule.proofs.spelling.Numbers.{number_here}
use Rattle.read_schedule.proofs.header.is_number.Goals as goal

pub returns-in-Some : goal.returns-in-Some
returns-in-Some c = number_here c.args.word.now c.in-Some.z c.is_small.result c.in-Some.ensures (omega (arith, ints)) (c.is_small.ensures ∙ ap is_small (to_z-of_z w64 c.in-Some.z (search rules)))
