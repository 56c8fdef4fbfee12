use Rattle.std.proofs.Common.{◌∙◌, rules}
use Rattle.model_copy.proofs.Together.{put_together}
use Rattle.model_copy.proofs.reducing.parts_of.Goals as goal

pub returns : goal.returns
returns c = put_together c.args.model.now c.args.keep.now _ _ _ _ _ _ (c.in_ok-copy_intervals.ensures ∙ c.intervals.ensures.list) (c.in_ok-copy_matrices.ensures ∙ c.matrices.ensures.list) (c.in_ok-copy_sequences.ensures ∙ c.sequences.ensures.list) (c.in_ok-copy_cumuls.ensures ∙ c.cumuls.ensures.list) (c.in_ok-copy_states.ensures ∙ c.states.ensures.list) (search rules)
