use Rattle.std.proofs.Common.{◌∙◌}
use Rattle.cpo_elab.proofs.values.Rising.{first_rise}
use Rattle.cpo_elab.proofs.rising.rises.Goals as goal

pub returns : goal.returns
returns c = c.rise_behind.ensures ∙ first_rise c.args.pairs.now _ c.if-pairs-eq0.false
