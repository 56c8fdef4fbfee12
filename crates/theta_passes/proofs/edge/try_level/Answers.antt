use Rattle.std.proofs.Common.{rules, to_z, of_z, w64}
use Rattle.theta_passes.proofs.trees.Falling.{level_at, late_within, late_then, late_after, late_smaller, late_none}
use Rattle.theta_passes.proofs.edge.try_level.Goals as goal

pub bounds-rows-k : goal.bounds-rows-k
bounds-rows-k c = late_within c.loop-k.tree c.args.rows.now (to_z w64 (of_z w64 c.args.level)) c.args.level c.late_gray.result c.in-Some.k (search rules) c.loop-k.invariant.at c.in-Some.is c.late_gray.ensures

pub paint-requires-clause-within : goal.paint-requires-clause-within
paint-requires-clause-within c = late_within c.loop-k.tree c.args.rows.now (to_z w64 (of_z w64 c.args.level)) c.args.level c.late_gray.result c.in-Some.k (search rules) c.loop-k.invariant.at c.in-Some.is c.late_gray.ensures

pub returns-then-rows-k-clause-at : goal.returns-then-rows-k-clause-at
returns-then-rows-k-clause-at c = level_at c.loop-k.tree c.args.rows.now (to_z w64 (of_z w64 c.args.level)) c.args.level (search rules) c.loop-k.invariant.at

pub returns-then-rows-k-clause-found : goal.returns-then-rows-k-clause-found
returns-then-rows-k-clause-found c = late_then c.loop-k.tree c.args.rows.now (to_z w64 (of_z w64 c.args.level)) c.args.level c.args.ect c.late_gray.result c.in-Some.k c.requires.sized c.loop-k.invariant.fits (search rules) c.loop-k.invariant.at
    c.requires.member c.requires.ect c.in-Some.is c.late_gray.ensures (search rules)

pub loop-k-smaller : goal.loop-k-smaller
loop-k-smaller c = late_smaller c.loop-k.tree c.paint.new.tree c.args.rows.now (to_z w64 (of_z w64 c.args.level)) c.args.level c.late_gray.result c.in-Some.k (search rules) c.loop-k.invariant.at c.in-Some.is c.late_gray.ensures c.paint.ensures.colours

pub loop-k-preserved : goal.loop-k-preserved
loop-k-preserved c = record {
  fits = c.paint.ensures.fits;
  at = late_after c.loop-k.tree c.paint.new.tree c.args.rows.now (to_z w64 (of_z w64 c.args.level)) c.args.level c.args.ect c.late_gray.result c.in-Some.k (search rules) c.loop-k.invariant.at
      c.requires.ect c.in-Some.is c.late_gray.ensures (search rules) c.paint.ensures.painted c.paint.ensures.others;
}

pub returns-clause-found : goal.returns-clause-found
returns-clause-found c = late_none c.loop-k.tree c.args.rows.now (to_z w64 (of_z w64 c.args.level)) c.args.level c.late_gray.result c.requires.sized c.requires.none c.loop-k.invariant.fits (search rules) c.loop-k.invariant.at
    (search rules) c.late_gray.ensures
