use Rattle.std.proofs.Common.{sym, codes, flat_map}
use Rattle.textline.specs.Lines.{words_of}
use Rattle.sched_text.specs.Answers.{segment_words}
use Rattle.read_schedule.specs.code.Reads.{are_spelled, state_at}
use Rattle.read_schedule.proofs.spelling.Taken.{other_first}
use Rattle.read_schedule.proofs.states.read_words.Goals as goal

pub returns-then-not-take : goal.returns-then-not-take
returns-then-not-take c =
    other_first (flat_map segment_words) are_spelled (codes "state") (state_at c.args.model.now c.args.i).name (words_of c.args.line.now) c.of-words.result c.take.new.self
    c.if-not-take.ensures.1 (sym c.of-words.ensures)
