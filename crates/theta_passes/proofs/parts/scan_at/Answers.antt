use Rattle.std.proofs.Common.{◌+◌}
use Rattle.theta_passes.specs.code.Parts.{part_has}
use Rattle.theta_passes.proofs.scans.Tops.{sum_small, scan_taken}
use Rattle.theta_passes.proofs.parts.scan_at.Goals as goal

pub added-requires-clause-to : goal.added-requires-clause-to
added-requires-clause-to c = sum_small c.args.rows.now (part_has c.args.rows.now c.args.part) (c.args.k + 1) c.args.scan c.requires.few c.requires.before

pub returns : goal.returns
returns c = scan_taken c.args.rows.now (part_has c.args.rows.now c.args.part) c.args.k c.has-is_in.result c.args.scan c.added.result c.requires.near c.requires.within c.has-is_in.ensures c.added.ensures c.requires.before
