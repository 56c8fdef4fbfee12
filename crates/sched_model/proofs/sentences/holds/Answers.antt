use Rattle.sched_model.proofs.walks.Elements.{sentence_there}
use Rattle.sched_model.proofs.sentences.holds.Goals as goal

pub returns-clause-sentence : goal.returns-clause-sentence
returns-clause-sentence c k there = sentence_there c.args.model.now c.args.a.now c.args.c k c.holds_there.result c.holds_there.ensures there
