use Rattle.std.proofs.Common.{get_or, arith}
use Rattle.std.proofs.lemmas.List.{get_or_default}
use Rattle.sched_base.specs.declared.ids.Itv.{Itv}
use Rattle.sched_model.proofs.sequence.is_apart_from_later.Goals as goal

pub type_at-requires-in-loop-j : goal.type_at-requires-in-loop-j
type_at-requires-in-loop-j c = λ h. let x : Itv = get_or c.args.xs.now c.loop-j.j (record { 0 = 0 }) in
    c.requires.kept c.loop-j.j x (omega arith) h (get_or_default c.args.xs.now c.loop-j.j (record { 0 = 0 }) x (omega arith))
