use Rattle.std.proofs.Common.{◌≡◌, drop}
use Rattle.cpo_elab.specs.Literals.{int_of}
use Rattle.cpo_elab.specs.Stages.{pairs_of}
use Rattle.cpo_elab.specs.code.Calendars.{rise_from}
use Rattle.cpo_elab.proofs.rising.rise_behind.Given as goal

abbrev pub invariant-loop-pair : goal.invariant-loop-pair
invariant-loop-pair l = rise_from l.last (pairs_of (drop l.pair-index l.rest)) ≡ rise_from (int_of l.fn.first.moment) (pairs_of l.rest)
