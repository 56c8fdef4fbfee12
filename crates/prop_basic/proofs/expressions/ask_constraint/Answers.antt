use Rattle.std.proofs.Common.{◌≡◌, Some, slice_get, false, rules, arith, refl, ap}
use Rattle.sched_model.specs.declared.types.Constraint.TheVariants.{Logic}
use Rattle.sched_model.specs.laws.Listed.{hull_at}
use Rattle.refute_basic.specs.declared.witness.BasicWitness.TheVariants as basic
use Rattle.prop_basic.specs.declared.hulls.Goal.TheVariants.{Holds}
use Rattle.prop_basic.specs.code.Goals.{misses}
use Rattle.prop_basic.specs.code.Tasks.{logic_of}
use Rattle.prop_basic.specs.laws.Silent.{expr_looks}
use Rattle.prop_basic.proofs.Asked.{expr_same, tree_silent, tree_busy, covers_expr, none_is, fits_some}
use Rattle.prop_basic.proofs.expressions.ask_constraint.Goals as goal
use Rattle.sched_model.specs.laws.Small.{number_fits}

pub ask_tree-requires-clause-hull : goal.ask_tree-requires-clause-hull
ask_tree-requires-clause-hull c =
    let is : slice_get c.args.model.now.constraints c.args.c ≡ Some (Logic c.in-Some-Logic.e) = search rules in
    hull_at c.args.model.now c.args.model.now.constraints c.args.c c.in-Some-Logic.e c.constraints.ensures.valid refl is

pub returns-in_err-guess-clause-none : goal.returns-in_err-guess-clause-none
returns-in_err-guess-clause-none c =
    let m = c.args.model.now in
    let r = c.args.region.now.region in
    let e = c.in-Some-Logic.e in
    let is : slice_get m.constraints c.args.c ≡ Some (Logic e) = search rules in
    let tree = c.ask_tree.ensures.kept e (fits_some (logic_of (slice_get m.constraints c.args.c)) c.args.tree.now e c.in-Some.tree (ap logic_of is) c.in-Some.is c.requires.tree) in
    none_is c.from_residual.result (tree_silent m r c.args.best (basic.Expr c.args.c) (misses m r e Holds) c.ask_tree.new.tree.intervals false (expr_same m r c.args.best c.args.c e (number_fits c.args.c (omega arith)) is) (λ g. refl)
    (expr_looks m c.args.c c.ask_tree.new.tree.intervals (covers_expr m c.args.c e c.ask_tree.new.tree is tree)) c.requires.of c.in_err-guess.ensures.none)

pub returns-clause-busy : goal.returns-clause-busy
returns-clause-busy c =
    let m = c.args.model.now in
    let r = c.args.region.now.region in
    let e = c.in-Some-Logic.e in
    let is : slice_get m.constraints c.args.c ≡ Some (Logic e) = search rules in
    tree_busy m r c.args.best (basic.Expr c.args.c) (misses m r e Holds) c.ask_tree.new.tree.intervals (expr_same m r c.args.best c.args.c e (number_fits c.args.c (omega arith)) is) (λ g. refl) c.in_ok-guess.ensures.busy
