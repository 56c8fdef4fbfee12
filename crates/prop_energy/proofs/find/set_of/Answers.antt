use Rattle.std.proofs.Common.{rules, ap}
use Rattle.prop_energy.specs.code.Rows.{rows_of}
use Rattle.prop_energy.proofs.Finding.{rows_fit, no_set_as, a_set_as, few_of}
use Rattle.prop_energy.proofs.find.set_of.Goals as goal

pub cut_of-requires-clause-rows : goal.cut_of-requires-clause-rows
cut_of-requires-clause-rows c = rows_fit c.args.model.now c.args.look.now c.args.bound (rows_of c.args.look.now.region c.parts_of-parts.result.now) c.requires.valid c.requires.of (ap (rows_of c.args.look.now.region) c.parts_of-parts.ensures)

pub returns-in_default : goal.returns-in_default
returns-in_default c =
    no_set_as c.args.model.now c.args.look.now c.args.bound (rows_of c.args.look.now.region c.parts_of-parts.result.now) _ c.in_ok-cut.field-0 c.requires.valid c.requires.of (ap (rows_of c.args.look.now.region) c.parts_of-parts.ensures) (search rules) c.in_ok-cut.ensures c.in_default.is

pub members_of-requires : goal.members_of-requires
members_of-requires c = few_of c.args.model.now c.args.bound c.parts_of-parts.result.now c.requires.valid c.parts_of-parts.ensures

pub returns : goal.returns
returns c =
    a_set_as c.args.model.now c.args.look.now c.args.bound (rows_of c.args.look.now.region c.parts_of-parts.result.now) _ c.in_ok-cut.field-0 c.in-Some.cut c.from_vec.result c.requires.capacity (ap (rows_of c.args.look.now.region) c.parts_of-parts.ensures) (search rules) c.in_ok-cut.ensures c.in-Some.is
    (search rules)
