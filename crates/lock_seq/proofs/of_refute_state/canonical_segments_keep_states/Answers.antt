use Rattle.refute_state.specs.laws.Whole.{all_unrefuted_hold}
use Rattle.lock_seq.proofs.of_refute_state.canonical_segments_keep_states.Goals as goal

pub returns : goal.returns
returns c = all_unrefuted_hold
