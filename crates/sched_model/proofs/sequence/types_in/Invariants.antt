use Rattle.std.proofs.Common.{◌≡◌, ℕ, ◌<◌, get_or, length}
use Rattle.sched_base.specs.declared.ids.Itv.{Itv}
use Rattle.sched_model.specs.Data.{type_of}
use Rattle.sched_model.proofs.sequence.types_in.Given as goal

abbrev pub invariant-loop-i : goal.invariant-loop-i
invariant-loop-i l = record {
  size : length l.types ≡ 500;
  same : (k : ℕ) (x : Itv) → k < l.i → x ≡ get_or l.xs k x → get_or l.types k 0 ≡ type_of l.model l.p x;
}
