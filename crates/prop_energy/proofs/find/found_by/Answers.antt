use Rattle.prop_energy.proofs.Bounding.{capacity_of}
use Rattle.prop_energy.proofs.Finding.{no_set_none_as, set_refutes_as}
use Rattle.prop_energy.proofs.find.found_by.Goals as goal

pub set_of-requires-clause-capacity : goal.set_of-requires-clause-capacity
set_of-requires-clause-capacity c = capacity_of c.args.model.now c.args.bound c.requires.bound c.requires.valid

pub returns-in_default : goal.returns-in_default
returns-in_default c = no_set_none_as c.args.model.now c.args.look.now c.args.bound c.in_ok-set.field-0 c.requires.valid c.requires.bound c.in_ok-set.ensures c.in_default.is

pub returns : goal.returns
returns c = set_refutes_as c.args.model.now c.args.look.now c.args.bound c.in_ok-set.field-0 c.in-Some.set c.requires.valid c.requires.bound c.in_ok-set.ensures c.in-Some.is
