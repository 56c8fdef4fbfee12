use Rattle.refute_state.specs.laws.Longest.{segments_are_longest}
use Rattle.refute_state.proofs.laws.segments_are_longest.Goals as goal

pub returns : goal.returns
returns c = segments_are_longest
