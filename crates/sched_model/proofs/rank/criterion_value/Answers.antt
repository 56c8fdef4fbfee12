use Rattle.std.proofs.Common.{rules, ap, ◌∙◌, ◌+◌, drop, is_some}
use Rattle.sched_model.specs.code.Ranks.{weight_of}
use Rattle.sched_model.proofs.Digits.{weight_there}
use Rattle.sched_model.proofs.rank.criterion_value.Goals as goal

pub value_of_rank-requires-clause-weights : goal.value_of_rank-requires-clause-weights
value_of_rank-requires-clause-weights c = ap (λ xs. is_some (weight_of c.args.model.now (drop (c.args.i + 1) xs))) c.as_slice.ensures
    ∙ weight_there c.args.model.now c.args.o.now c.in-Some.h c.args.i c.requires.ranked (search rules) c.in-Some.ensures c.requires.below
