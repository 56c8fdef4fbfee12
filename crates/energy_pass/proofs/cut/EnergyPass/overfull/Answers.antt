use Rattle.std.proofs.Common.{rules}
use Rattle.energy_pass.proofs.Sorting.{rows_moved, no_cut_as, no_start_as, some_cut_as}
use Rattle.energy_pass.proofs.cut.EnergyPass.overfull.Goals as goal

pub end_of-requires-clause-rows : goal.end_of-requires-clause-rows
end_of-requires-clause-rows c = rows_moved c.args.rows.now c.sort_rows.new.rows c.requires.rows c.sort_rows.ensures.moved

pub start_of-requires-clause-rows : goal.start_of-requires-clause-rows
start_of-requires-clause-rows c = rows_moved c.args.rows.now c.sort_rows.new.rows c.requires.rows c.sort_rows.ensures.moved

pub returns-in_default : goal.returns-in_default
returns-in_default c = no_cut_as c.args.rows.now c.sort_rows.new.rows c.args.capacity _ c.in_ok-end.field-0 c.sort_rows.ensures.moved (search rules) c.in_default.is c.in_ok-end.ensures

pub returns-in_default-start_of : goal.returns-in_default-start_of
returns-in_default-start_of c = no_start_as c.args.rows.now c.sort_rows.new.rows c.args.capacity _ _ c.in-Some.end _ c.in_ok-end.field-0 (search rules) (search rules) (search rules) c.in-Some.is c.in_ok-end.ensures c.in_default-start_of.ensures

pub returns : goal.returns
returns c = some_cut_as c.args.rows.now c.sort_rows.new.rows c.args.capacity _ c.in-Some-start_of.start _ c.in-Some.end _ _ c.sort_rows.ensures.moved (search rules) (search rules) (search rules) (search rules) c.in-Some-start_of.ensures
