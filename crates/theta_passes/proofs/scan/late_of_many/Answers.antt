use Rattle.std.proofs.Common.{rules, refl, ◌≡◌, true, false}
use Rattle.theta_passes.specs.code.Rows.{row_at}
use Rattle.theta_passes.specs.code.Late.{is_idle}
use Rattle.theta_passes.proofs.scans.Scanned.{more_scanned}
use Rattle.theta_passes.proofs.scans.Overs.{idle_early}
use Rattle.theta_passes.proofs.scan.late_of_many.Goals as goal

pub loop-k-preserved : goal.loop-k-preserved
loop-k-preserved c = more_scanned c.args.rows.now c.loop-k.k _ _ (search rules) c.if-is_found.false c.is_found.ensures c.loop-k.invariant

pub loop-k-preserved-then-is_idle : goal.loop-k-preserved-then-is_idle
loop-k-preserved-then-is_idle c =
    let rows = c.args.rows.now in
    let idle : is_idle c.args.lows c.args.whole (row_at rows c.loop-k.k) c.loop-k.k ≡ true = search rules in
    more_scanned rows c.loop-k.k c.loop-k.k false refl refl (idle_early rows c.loop-k.k c.args.lows c.args.whole c.requires.near c.requires.sorted idle c.requires.lows c.requires.whole) c.loop-k.invariant
