use Rattle.std.proofs.Common.{◌∙◌, ◌++◌, ap}
use Rattle.svg_page.specs.Texts.{numbered}
use Rattle.svg_page.specs.Cumuls.{cumul}
use Rattle.svg_page.proofs.Rows.{place_more, places_end}
use Rattle.svg_page.proofs.cumuls.push_cumuls.Goals as goal

pub loop-k-preserved : goal.loop-k-preserved
loop-k-preserved c = place_more (cumul c.args.model.now c.args.a.now c.args.axis c.args.profiles.now) c.cumuls-defs.result.now c.loop-k.k c.index-defs-k.result _ _ _ _ c.loop-k-test.true c.index-defs-k.is c.loop-k.invariant (rw (c.profile_at.ensures) at c.in_ok-push_cumul_of.ensures)

pub returns : goal.returns
returns c =
    places_end (cumul c.args.model.now c.args.a.now c.args.axis c.args.profiles.now) c.cumuls-defs.result.now c.loop-k.k _ _ c.loop-k-test.false c.loop-k.invariant
    ∙ ap (λ ds. c.args.page.now.items ++ numbered (cumul c.args.model.now c.args.a.now c.args.axis c.args.profiles.now) 0 ds) c.cumuls-defs.ensures.list
