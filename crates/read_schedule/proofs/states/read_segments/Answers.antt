use Rattle.read_schedule.proofs.whole.Segments.{no_segments}
use Rattle.read_schedule.proofs.states.read_segments.Goals as goal

pub returns-in_default : goal.returns-in_default
returns-in_default c = λ v fit e. no_segments c.args.words.now c.loop-words.words c.loop-words.segments v c.loop-words.invariant.same c.loop-words-test.ensures c.in_default.ensures fit e
