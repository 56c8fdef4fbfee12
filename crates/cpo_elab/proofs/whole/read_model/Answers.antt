use Rattle.cpo_elab.proofs.judging.Spelt.{texts_are_shaped}
use Rattle.cpo_elab.proofs.judging.Given.{given_tree, given_fault}
use Rattle.cpo_elab.proofs.whole.read_model.Goals as goal

pub elaborate-requires : goal.elaborate-requires
elaborate-requires c = texts_are_shaped c.args.text.now _ c.in-Ok.ensures

pub returns-in-Ok : goal.returns-in-Ok
returns-in-Ok c = given_tree c.args.text.now _ _ c.in-Ok.ensures c.elaborate.ensures.answer

pub returns-in-Err : goal.returns-in-Err
returns-in-Err c = given_fault c.args.text.now c.in-Err.fault c.in-Err.ensures
