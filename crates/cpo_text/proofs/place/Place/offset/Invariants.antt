use Rattle.std.proofs.Common.{◌≡◌, ◌≤◌, ◌-◌, length, drop}
use Rattle.cpo_text.specs.code.Lexing.{tokens_from}
use Rattle.cpo_text.specs.code.Places.{left}
use Rattle.cpo_text.proofs.place.Place.offset.Given as goal

abbrev pub invariant-loop-at : goal.invariant-loop-at
invariant-loop-at l = record {
  same : tokens_from l.at (drop l.at l.self.text.now) ≡ left l.self;
  from : l.self.at ≤ l.at;
  to : l.at ≤ length l.self.text.now;
}

abbrev pub decreases-loop-at : goal.decreases-loop-at
decreases-loop-at l = length l.self.text.now - l.at
