use Rattle.sched_text.proofs.Printing.{both, four}
use Rattle.sched_text.proofs.canonical.put_model.Goals as goal

pub returns : goal.returns
returns g c = both (both (both (four (rw c.intervals.ensures.list at c.put_intervals.ensures) (rw c.matrices.ensures.list at c.put_matrices.ensures) (rw c.sequences.ensures.list at c.put_sequences.ensures) (rw c.cumuls.ensures.list at c.put_cumuls.ensures)) (rw c.states.ensures.list at c.put_states.ensures)) (rw c.constraints.ensures.list at c.put_constraints.ensures)) c.put_objective.ensures
