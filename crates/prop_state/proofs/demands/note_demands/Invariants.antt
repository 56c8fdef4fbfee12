use Rattle.std.proofs.Common.{◌≡◌, ◌<◌, ℕ, length, get_or}
use Rattle.prop_state.specs.declared.demands.Named.{Named}
use Rattle.prop_state.specs.code.Walks.{IsNamed}
use Rattle.prop_state.proofs.demands.note_demands.Given as goal

abbrev pub invariant-loop-i : goal.invariant-loop-i
invariant-loop-i l = record {
  same : length l.notes ≡ length l.initial.notes;
  noted : (i : ℕ) → i < l.i → (c : ℕ) (n : Named) → IsNamed l.model l.region.region l.k (get_or l.cs i c) (get_or l.notes i n);
}
