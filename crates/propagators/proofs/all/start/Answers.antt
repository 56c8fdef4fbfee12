use Rattle.std.proofs.Common.{arith}
use Rattle.propagators.proofs.Few.{few}
use Rattle.propagators.proofs.all.start.Goals as goal

pub joined-functions-requires-clause-few : goal.joined-functions-requires-clause-few
joined-functions-requires-clause-few c = few c.args.model.now c.intervals.ensures.valid _ (omega arith)

pub joined-behind-requires-clause-few : goal.joined-behind-requires-clause-few
joined-behind-requires-clause-few c = few c.args.model.now c.intervals.ensures.valid _ (omega arith)

pub joined-many-requires-clause-few : goal.joined-many-requires-clause-few
joined-many-requires-clause-few c = few c.args.model.now c.intervals.ensures.valid _ (omega arith)

pub joined-grouped-requires-clause-few : goal.joined-grouped-requires-clause-few
joined-grouped-requires-clause-few c = few c.args.model.now c.intervals.ensures.valid _ (omega arith)

pub joined-last-requires-clause-few : goal.joined-last-requires-clause-few
joined-last-requires-clause-few c = few c.args.model.now c.intervals.ensures.valid _ (omega arith)

pub joined-others-requires-clause-few : goal.joined-others-requires-clause-few
joined-others-requires-clause-few c = few c.args.model.now c.intervals.ensures.valid _ (omega arith)

pub joined-requires-clause-few : goal.joined-requires-clause-few
joined-requires-clause-few c = few c.args.model.now c.intervals.ensures.valid _ (omega arith)
