use Rattle.prop_sets.proofs.Asking.{near_rowed, sized_rowed, sorted_rowed, spanned_rowed, low_rowed}
use Rattle.prop_sets.proofs.sides.rows_for.Goals as goal

pub returns-clause-near : goal.returns-clause-near
returns-clause-near c = near_rowed _ _ _ _ _ _ _ _ _ c.in_ok-rows_made.ensures

pub returns-clause-sized : goal.returns-clause-sized
returns-clause-sized c = sized_rowed _ _ _ _ _ _ _ _ _ c.in_ok-rows_made.ensures

pub returns-clause-sorted : goal.returns-clause-sorted
returns-clause-sorted c = sorted_rowed _ _ _ _ _ _ _ _ _ c.requires.sorted c.in_ok-rows_made.ensures

pub returns-clause-spanned : goal.returns-clause-spanned
returns-clause-spanned c = spanned_rowed _ _ _ _ _ _ _ _ _ c.in_ok-rows_made.ensures

pub returns-clause-low : goal.returns-clause-low
returns-clause-low c = low_rowed _ _ _ _ _ _ _ _ _ c.in_ok-rows_made.ensures
