use Rattle.std.proofs.Common.{◌≡◌, ◌<◌, ℕ, length, get_or}
use Rattle.sched_base.specs.declared.ids.Itv.{Itv}
use Rattle.region.specs.Cells.{bounds_of}
use Rattle.findings.specs.code.Numbers.{ends_of}
use Rattle.prop_unary.specs.declared.keys.Keys.{Keys}
use Rattle.prop_unary.specs.code.Silence.{IsKeyed}
use Rattle.prop_unary.proofs.keys.note_keys.Given as goal

abbrev pub invariant-loop-k : goal.invariant-loop-k
invariant-loop-k l = record {
  same : length l.keys ≡ length l.initial.keys;
  noted : (i : ℕ) → i < l.k → (d : Keys) (x : Itv) → IsKeyed (ends_of (bounds_of l.look.region (get_or l.members i x))) (get_or l.keys i d);
}
