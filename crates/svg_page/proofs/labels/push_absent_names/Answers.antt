use Rattle.std.proofs.Common.{refl}
use Rattle.svg_page.specs.Bars.{absent_name}
use Rattle.svg_page.proofs.Rows.{place_more, places_end}
use Rattle.svg_page.proofs.labels.push_absent_names.Goals as goal

pub loop-k-preserved : goal.loop-k-preserved
loop-k-preserved c = place_more (absent_name c.args.model.now) c.args.absent.now c.loop-k.k _ _ _ _ _ c.loop-k-test.true refl c.loop-k.invariant c.in_ok-push_absent_name.ensures

pub returns : goal.returns
returns c = places_end (absent_name c.args.model.now) c.args.absent.now c.loop-k.k _ _ c.loop-k-test.false c.loop-k.invariant
