use Rattle.std.proofs.Common.{rules, refl, arith, ◌-◌}
use Rattle.energy_pass.proofs.Starting.{start_found_as, summed_more_as, no_start_as}
use Rattle.energy_pass.proofs.sums.start_of.Goals as goal

pub returns-then-starts : goal.returns-then-starts
returns-then-starts c =
    start_found_as c.args.rows.now c.args.capacity _ c.args.end _ c.loop-k.k (c.loop-k.k - 1) _ c.with_row-sum.result _ c.requires.rows c.requires.by_est (omega (arith, c.loop-k-test.true)) refl c.loop-k.invariant
    (search rules) (search rules) (search rules) (search rules) (search rules)

pub loop-k-preserved : goal.loop-k-preserved
loop-k-preserved c =
    summed_more_as c.args.rows.now c.args.capacity _ c.args.end _ c.loop-k.k (c.loop-k.k - 1) _ c.with_row-sum.result _ c.requires.rows (omega (arith, c.loop-k-test.true)) refl c.loop-k.invariant
    (search rules) (search rules) (search rules) (search rules) (search rules)

pub returns : goal.returns
returns c = no_start_as c.args.rows.now c.args.capacity _ c.args.end _ c.loop-k.k _ c.requires.by_est c.loop-k.invariant (search rules) (search rules) (omega (arith, c.loop-k-test.false))
