use Rattle.std.proofs.Common.{◌∙◌, ◌++◌, ap}
use Rattle.svg_page.specs.Texts.{numbered}
use Rattle.svg_page.specs.States.{state}
use Rattle.svg_page.proofs.Rows.{place_more, places_end}
use Rattle.svg_page.proofs.states.push_states.Goals as goal

pub loop-k-preserved : goal.loop-k-preserved
loop-k-preserved c = place_more (state c.args.a.now c.args.axis) c.states-defs.result.now c.loop-k.k c.index-defs-k.result _ _ _ _ c.loop-k-test.true c.index-defs-k.is c.loop-k.invariant c.in_ok-push_state.ensures

pub returns : goal.returns
returns c =
    places_end (state c.args.a.now c.args.axis) c.states-defs.result.now c.loop-k.k _ _ c.loop-k-test.false c.loop-k.invariant
    ∙ ap (λ ds. c.args.page.now.items ++ numbered (state c.args.a.now c.args.axis) 0 ds) c.states-defs.ensures.list
