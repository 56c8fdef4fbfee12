use Rattle.std.proofs.Common.{◌≡◌, ◌+◌, ◌*◌, ◌≤◌, [], ◌∷◌}
use Rattle.cpo_text.specs.code.Levels.{read, in_front}
use Rattle.cpo_text.specs.code.Levels.Task.{more, terms, items}
use Rattle.cpo_text.specs.code.Gives.{ahead}
use Rattle.cpo_text.proofs.levels.+levels.Given as goal

abbrev pub decreases-logic : goal.decreases-logic
decreases-logic l = 8 * l.fuel + 3

abbrev pub decreases-leveled : goal.decreases-leveled
decreases-leveled l = 8 * l.fuel

abbrev pub decreases-begun : goal.decreases-begun
decreases-begun l = 8 * l.fuel + 2

abbrev pub decreases-opened : goal.decreases-opened
decreases-opened l = 8 * l.fuel + 3

abbrev pub decreases-closed : goal.decreases-closed
decreases-closed l = 8 * l.fuel + 2

abbrev pub decreases-group_on : goal.decreases-group_on
decreases-group_on l = 8 * l.fuel + 1

abbrev pub decreases-leveled_group : goal.decreases-leveled_group
decreases-leveled_group l = 8 * l.fuel + 1

abbrev pub decreases-all_on : goal.decreases-all_on
decreases-all_on l = 8 * l.fuel

abbrev pub decreases-grouped : goal.decreases-grouped
decreases-grouped l = 8 * l.fuel + 4

abbrev pub decreases-items : goal.decreases-items
decreases-items l = 8 * l.fuel

abbrev pub decreases-gathered : goal.decreases-gathered
decreases-gathered l = 8 * l.fuel + 1

abbrev pub decreases-call : goal.decreases-call
decreases-call l = 8 * l.fuel + 4

abbrev pub decreases-atom_of : goal.decreases-atom_of
decreases-atom_of l = 8 * l.fuel

abbrev pub decreases-atom : goal.decreases-atom
decreases-atom l = 8 * l.fuel + 1

abbrev pub decreases-operand : goal.decreases-operand
decreases-operand l = 8 * l.fuel + 3

abbrev pub decreases-chain : goal.decreases-chain
decreases-chain l = 8 * l.fuel

abbrev pub decreases-linked_on : goal.decreases-linked_on
decreases-linked_on l = 8 * l.fuel + 1

abbrev pub decreases-operands : goal.decreases-operands
decreases-operands l = 8 * l.fuel

abbrev pub decreases-sum : goal.decreases-sum
decreases-sum l = 8 * l.fuel

abbrev pub decreases-total_on : goal.decreases-total_on
decreases-total_on l = 8 * l.fuel + 2

abbrev pub decreases-summed : goal.decreases-summed
decreases-summed l = 8 * l.fuel + 1

abbrev pub decreases-terms : goal.decreases-terms
decreases-terms l = 8 * l.fuel

abbrev pub decreases-compared_on : goal.decreases-compared_on
decreases-compared_on l = 8 * l.fuel + 1

abbrev pub decreases-unit : goal.decreases-unit
decreases-unit l = 8 * l.fuel

abbrev pub decreases-implied_on : goal.decreases-implied_on
decreases-implied_on l = 8 * l.fuel + 4

abbrev pub decreases-term : goal.decreases-term
decreases-term l = 8 * l.fuel

abbrev pub invariant-operands-loop-left : goal.invariant-operands-loop-left
invariant-operands-loop-left l = record {
  same : in_front l.operands (read l.left (more l.link) (ahead l.here)) ≡ in_front (l.fn.first ∷ []) (read l.fuel (more l.link) (ahead l.place));
  within : l.left ≤ l.fuel;
}

abbrev pub decreases-operands-loop-left : goal.decreases-operands-loop-left
decreases-operands-loop-left l = l.left

abbrev pub invariant-terms-loop-left : goal.invariant-terms-loop-left
invariant-terms-loop-left l = record {
  same : in_front l.operands (read l.left terms (ahead l.here)) ≡ in_front (l.fn.first ∷ []) (read l.fuel terms (ahead l.place));
  within : l.left ≤ l.fuel;
}

abbrev pub decreases-terms-loop-left : goal.decreases-terms-loop-left
decreases-terms-loop-left l = l.left

abbrev pub invariant-items-loop-left : goal.invariant-items-loop-left
invariant-items-loop-left l = record {
  same : in_front l.items (read l.left items (ahead l.here)) ≡ read l.fuel items (ahead l.place);
  within : l.left ≤ l.fuel;
}

abbrev pub decreases-items-loop-left : goal.decreases-items-loop-left
decreases-items-loop-left l = l.left
