use Rattle.std.proofs.Common.{sym, codes}
use Rattle.textline.specs.Lines.{words_of}
use Rattle.sched_text.specs.Answers.{label}
use Rattle.sched_text.specs.Pieces.{interval_names}
use Rattle.read_schedule.specs.code.Reads.{are_all_itvs, sequence_at}
use Rattle.read_schedule.proofs.spelling.Taken.{other_first}
use Rattle.read_schedule.proofs.orders.read_words.Goals as goal

pub returns-then-not-take : goal.returns-then-not-take
returns-then-not-take c =
    other_first (interval_names c.args.model.now) (are_all_itvs c.args.model.now) (codes "order") (label c.args.i (sequence_at c.args.model.now c.args.i).name) (words_of c.args.line.now) c.of-words.result c.take.new.self
    c.if-not-take.ensures.1 (sym c.of-words.ensures)
