use Rattle.std.proofs.Common.{◌≡◌, ◌++◌, ◌*◌, ◌≤◌, drop}
use Rattle.std.specs.Prelude.{vec_len, vec_capacity}
use Rattle.refute_cumul.specs.code.Profiles.{load_changes}
use Rattle.refute_cumul.proofs.changes.gather.Given as goal

abbrev pub invariant-loop-part : goal.invariant-loop-part
invariant-loop-part l = record {
  all : l.changes.items ++ load_changes l.look.region l.below (drop l.part-index l.parts) ≡ load_changes l.look.region l.below l.parts;
  few : vec_len l.changes ≤ 2 * l.part-index;
  room : vec_capacity l.changes ≡ vec_capacity l.initial.changes;
}
