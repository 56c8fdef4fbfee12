use Rattle.std.specs.Fmt.{signed_decimal}
use Rattle.std.specs.Ordering.{int_eq}
use Rattle.std.proofs.Common.{codes, pos, SFits, w64}
use Rattle.std.proofs.lemmas.Int.{to_z-of_z}
use Rattle.sched_text.proofs.Calls.{opened, first, more, perhaps, closed}
use Rattle.sched_text.proofs.constraints.put_alternative.Goals as goal

pub returns : goal.returns
returns g c =
    let fits : SFits w64 c.args.count = c.ranges.count in
    closed (perhaps (signed_decimal c.args.count) (int_eq c.args.count (pos 1)) (more (first (opened (codes "alternative") c.put_open.ensures) c.put_interval.ensures) c.put_next_names.ensures) (simp to_z-of_z at c.put_next_chosen.ensures)) c.put_text.ensures
